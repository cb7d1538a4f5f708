-- Calls of several steps, one after another.
use Rattle.std.proofs.Common.{◌≡◌, ap, sym, ◌∙◌}
use Rattle.std.specs.Prelude.{Result, Ok, Err}
use Rattle.desk_register.specs.declared.register.Fault.{Fault}
use Rattle.desk_register.specs.declared.register.Stage.TheVariants.{Idle, Begun, Failed}
use Rattle.desk_register.specs.View.{View, fallen, IsChange, IsLater, Stays}
use Rattle.desk_register.proofs.ViewLemmas.{blames_none, blames_then, later_then, stays_then}
use Rattle.desk_engine.specs.Steps.{IsStep}

pub step_then : {X : Type 0} (v0 v1 v2 : View) → Stays v0 v1 → IsLater v0 v1 → (r : Result X Fault) → IsStep r v1 v2 → IsStep r v0 v2
step_then v0 v1 v2 stays first (Ok x) s = record { ok = stays_then v0 v1 v2 stays first s.later s.ok; err = s.err; later = later_then v0 v1 v2 stays first s.later; blame = blames_none x v0 v2 }
step_then v0 v1 v2 stays first (Err fault) s = record {
  ok = s.ok;
  err = record {
    stage = s.err.stage;
    mark = λ honest sure.
        let honest1 = s.later.honest honest in
        let sure1 = s.later.sure honest sure in
        s.err.mark honest sure ∙ stays.mark honest1 (first.sure honest1 sure1);
  };
  later = later_then v0 v1 v2 stays first s.later;
  blame = blames_then v0 v1 v2 stays first fault s.later s.blame;
}

-- one change, within an open `begin`
pub change_step : {X : Type 0} (v0 v1 : View) → v0.stage ≡ Begun → (r : Result X Fault) → IsChange r v0 v1 → IsStep r v0 v1
change_step v0 v1 begun (Ok x) c = record { ok = c.ok; err = c.err; later = c.later; blame = blames_none x v0 v1 }
change_step v0 v1 begun (Err fault) c = record {
  ok = c.ok;
  err = record {
    stage = λ idle. (let is : v1.stage ≡ fallen Begun = c.err.stage ∙ ap fallen begun in let clash : Failed ≡ Idle = sym is ∙ idle in absurd (cc));
    mark = c.err.mark;
  };
  later = c.later;
  blame = c.blame;
}

pub step_ok : {X : Type 0} (x : X) (v0 v1 : View) → Stays v0 v1 → IsLater v0 v1 → IsStep {X = X} (Ok x) v0 v1
step_ok x v0 v1 stays later = record { ok = stays; err = tt; later = later; blame = blames_none x v0 v1 }

-- a store that answered what it cannot is given up
pub gives_up : {X : Type 0} (fault : Fault) (v0 v1 : View) → v0.stage ≡ Begun → Stays v0 v1 → IsLater v0 v1 → (v1.is_honest → v0.is_sure → ⊥) → IsStep {X = X} (Err fault) v0 v1
gives_up fault v0 v1 begun stays later cannot = record {
  ok = tt;
  err = record {
    stage = λ idle. (let clash : Begun ≡ Idle = sym begun ∙ sym stays.stage ∙ idle in absurd (cc));
    mark = λ honest sure. stays.mark honest (later.sure honest sure);
  };
  later = later;
  blame = record { storage = λ same goes sure device honest honest_device few. absurd (cannot honest sure) };
}

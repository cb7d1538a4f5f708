-- One call after another.
use Rattle.std.proofs.Common.{◌≡◌, ◌≢◌, ◌<◌, ap, sym, ◌∙◌, arith}
use Rattle.std.specs.Prelude.{Result, Ok, Err}
use Rattle.desk_register.specs.declared.register.Fault.{Fault}
use Rattle.desk_register.specs.declared.register.Fault.TheVariants.{Memory, Storage}
use Rattle.desk_register.specs.declared.register.Stage.{Stage}
use Rattle.desk_register.specs.declared.register.Stage.TheVariants.{Idle, Begun, Failed}
use Rattle.desk_register.specs.View.{View, IsLater, Stays, Falls, Blames, fallen, IsChange}

-- what a fault is does not look at what would have been answered without it
abbrev Same : (X : Type 0) → Result X Fault → Result X Fault → Type 0
Same X r s = r ≡ s

again : {X Y : Type 0} (fault other : Fault) → Same X (Err fault) (Err other) → Same Y (Err fault) (Err other)
again fault other is = (let same : fault ≡ other = cc in ap Err same)

pub same_blame : {X Y : Type 0} (fault : Fault) (v0 v1 : View) → Blames {X = X} (Err fault) v0 v1 → Blames {X = Y} (Err fault) v0 v1
same_blame fault v0 v1 blame = record { storage = λ is. blame.storage (again fault Storage is) }

-- a storage fault, by which the count has grown, and want of memory
pub blames_storage : {X : Type 0} (fault : Fault) (v0 v1 : View) → v0.device.failures < v1.device.failures → Blames {X = X} (Err fault) v0 v1
blames_storage fault v0 v1 more = record { storage = λ same goes sure device honest honest_device few. more }

pub blames_memory : {X : Type 0} (fault : Fault) (v0 v1 : View) → fault ≡ Memory → Blames {X = X} (Err fault) v0 v1
blames_memory fault v0 v1 is = record { storage = λ other. (let same : fault ≡ Storage = cc in let clash : Memory ≡ Storage = sym is ∙ same in absurd (cc)) }

-- an answer that is no fault blames nothing
pub blames_none : {X : Type 0} (x : X) (v0 v1 : View) → Blames {X = X} (Ok x) v0 v1
blames_none x v0 v1 = record { storage = λ is. absurd (cc) }

module _ (v0 v1 v2 : View) (stays : Stays v0 v1) (first : IsLater v0 v1) where
  pub later_then : IsLater v1 v2 → IsLater v0 v2
  later_then second = record {
    honest = λ h. first.honest (second.honest h);
    sure = λ h s. first.sure (second.honest h) (second.sure h s);
    room = second.room ∙ first.room;
    device_honest = λ h. first.device_honest (second.device_honest h);
    failures = (let a = first.failures in let b = second.failures in omega arith);
  }

  pub stays_then : IsLater v1 v2 → Stays v1 v2 → Stays v0 v2
  stays_then second more = record {
    stage = more.stage ∙ stays.stage;
    sure = λ h s. more.sure h (stays.sure (second.honest h) s);
    mark = λ h s. more.mark h (stays.sure (second.honest h) s) ∙ stays.mark (second.honest h) s;
    device = λ h s. more.device h (stays.device (second.device_honest h) s);
  }

  pub falls_then : v0.stage ≡ Begun → IsLater v1 v2 → Falls v1 v2 → Falls v0 v2
  falls_then begun second more = record {
    stage = more.stage ∙ ap fallen stays.stage;
    mark = λ h s. (let h1 = second.honest h in let s1 = second.sure h s in more.mark h s ∙ stays.mark h1 (first.sure h1 s1));
    content = λ h s idle. (let clash : Begun ≡ Idle = sym begun ∙ idle in absurd (cc));
  }

  pub blames_then : {X Y : Type 0} (fault : Fault) → IsLater v1 v2 → Blames {X = X} (Err fault) v1 v2 → Blames {X = Y} (Err fault) v0 v2
  blames_then fault second blame = record {
    storage = λ is goes sure device honest honest_device few.
        (let lt = blame.storage (again fault Storage is) (λ failed. goes (sym stays.stage ∙ failed)) (stays.sure (second.honest honest) sure) (stays.device (second.device_honest honest_device) device) honest honest_device few in
        let le = first.failures in
        omega arith);
  }

  pub change_then : {X : Type 0} (r : Result X Fault) → v0.stage ≡ Begun → IsChange r v1 v2 → IsChange r v0 v2
  change_then (Ok x) begun c = record { ok = stays_then c.later c.ok; err = c.err; later = later_then c.later; blame = blames_none x v0 v2 }
  change_then (Err fault) begun c = record {
    ok = c.ok;
    err = falls_then begun c.later c.err;
    later = later_then c.later;
    blame = blames_then fault c.later c.blame;
  }

-- a call that went well
pub change_ok : {X : Type 0} (x : X) (v0 v1 : View) → Stays v0 v1 → IsLater v0 v1 → IsChange {X = X} (Ok x) v0 v1
change_ok x v0 v1 stays later = record { ok = stays; err = tt; later = later; blame = blames_none x v0 v1 }

-- where a `begin` is open and every call since went well, or none is open, no call has failed
pub begun_goes : (stage : Stage) → stage ≡ Begun → stage ≢ Failed
begun_goes stage begun failed = (let clash : Begun ≡ Failed = sym begun ∙ failed in absurd (cc))

pub idle_goes : (stage : Stage) → stage ≡ Idle → stage ≢ Failed
idle_goes stage idle failed = (let clash : Idle ≡ Failed = sym idle ∙ failed in absurd (cc))

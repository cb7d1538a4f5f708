-- Reading calls of a register, one after another.
use Rattle.std.proofs.Common.{◌≡◌, ap, sym, ◌∙◌}
use Rattle.std.specs.Prelude.{Result, Ok, Err}
use Rattle.desk_register.specs.declared.register.Fault.{Fault}
use Rattle.desk_register.specs.declared.register.Fault.TheVariants.{Storage}
use Rattle.desk_register.specs.declared.register.Stage.TheVariants.{Idle}
use Rattle.desk_register.specs.View.{View, HasRead, IsRead, fallen}
use Rattle.desk_register.proofs.ReadLemmas.{read_err, read_more, read_ok, read_then}

module _ (v0 v1 : View) (h : HasRead v0 v1) where
  -- what was made of what was read
  pub read_so : {X : Type 0} (x : X) → IsRead {X = X} (Ok x) v0 v1
  read_so x = read_ok tt x v0 v1 h

  -- and several calls more, which went well
  pub read_on : {X : Type 0} (x : X) (v2 : View) → IsRead {X = X} (Ok x) v1 v2 → HasRead v0 v2
  read_on x v2 r = read_more x v0 v1 v2 h r

  -- a store that answered what it cannot is given up
  pub gives_up : {X : Type 0} → v0.stage ≡ Idle → (v1.is_honest → v0.is_sure → ⊥) → IsRead {X = X} (Err Storage) v0 v1
  gives_up idle cannot = record {
    same = λ honest sure. tt;
    ok = tt;
    err = record {
      stage = h.ok.stage ∙ idle ∙ ap fallen (sym idle);
      mark = λ honest sure. h.ok.mark honest (h.later.sure honest sure);
      content = λ honest sure at. h.same honest (h.later.sure honest sure);
    };
    later = h.later;
    blame = record { storage = λ same goes sure device honest honest_device few. absurd (cannot honest sure) };
  }

  -- and some of which one failed
  pub broke_off : {X Y : Type 0} (fault : Fault) (v2 : View) → IsRead {X = X} (Err fault) v1 v2 → IsRead {X = Y} (Err fault) v0 v2
  broke_off {X} {Y} fault v2 r = read_err fault v0 v2 (read_then v0 v1 v2 h (Err fault) r)

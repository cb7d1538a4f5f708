-- What a register must be stays so over its calls.
use Rattle.std.proofs.Common.{◌≡◌, ◌∙◌, ℕ, Result, Ok, Err, IfOk, OnOk}
use Rattle.sqlite.specs.declared.error.Error.{Error}
use Rattle.sqlite.specs.State.{State}
use Rattle.desk_register.specs.declared.outcome.Outcome.{Outcome}
use Rattle.desk_register.specs.declared.register.Fault.{Fault}
use Rattle.desk_register.specs.declared.register.Stage.{Stage}
use Rattle.desk_register.specs.declared.register.Stage.TheVariants.{Begun}
use Rattle.desk_rules.specs.Content.{Content}
use Rattle.sql_tables.specs.Ends.{IfSound, IsLater, IsLook, IsWrite}
use Rattle.sql_register.specs.Holds.{Becomes, IsDesk}
use Rattle.sql_register.specs.Kept.{IsBounded, IsKept}
use Rattle.sql_register.specs.Told.{IsTold}
use Rattle.sql_register.proofs.ChangeLemmas.{changed_kept, on_becomes}
use Rattle.sql_register.proofs.ReadLemmas.{kept_told}

-- what went well says the first of two things, whatever its outcome
pub ok_first : (P : Type 0) (Q : Outcome → Type 0) (r : Result Outcome Error) → IfOk r (λ o. P × Q o) → OnOk r P
ok_first P Q (Ok o) h = h.0
ok_first P Q (Err e) h = tt

-- no call sets a limit on the steps of a query
pub bounded_later : (old new : State) (room : ℕ) → IsBounded old room → IsLater old new → IsBounded new room
bounded_later old new room was later = record { few = was.few; unlimited = later.limit ∙ was.unlimited }

module _ (old new : State) (stage new_stage : Stage) (room : ℕ) {X : Type 0} (given : Result X Error) (result : Result X Fault) where
  -- a look, told of the register, leaves it what it must be
  pub holds_told : IsKept old stage × IsBounded old room → IsLook given old new → IsTold given result stage new_stage → IsKept new new_stage × IsBounded new room
  holds_told held look told = (kept_told old new stage new_stage room given result held.0 look told, bounded_later old new room held.1 look.later)

  -- and so does a change
  pub holds_changed : (content : Content) → stage ≡ Begun → IsKept old stage × IsBounded old room → IsWrite given old new → IsTold given result stage new_stage → IfSound old new (IsDesk old.now → OnOk given (Becomes new.now content))
      → IsKept new new_stage × IsBounded new room
  holds_changed content begun held write told becomes = (
    changed_kept old new stage new_stage room given result begun held.0 write told (λ clean is_open has desk. on_becomes new.now content given (becomes clean is_open has desk)),
    bounded_later old new room held.1 write.later,
  )

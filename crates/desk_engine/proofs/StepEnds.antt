-- How a call of several steps ends, by the one in which it broke off.
use Rattle.std.proofs.Common.{◌≡◌, ◌∙◌}
use Rattle.std.specs.Prelude.{Ok, Err}
use Rattle.desk_register.specs.declared.register.Fault.{Fault}
use Rattle.desk_register.specs.declared.register.Stage.TheVariants.{Begun}
use Rattle.desk_register.specs.View.{View, IsChange, IsLater, IsRead, Stays}
use Rattle.desk_register.proofs.ViewLemmas.{later_then, same_blame, stays_then}
use Rattle.desk_engine.specs.Steps.{IsStep}
use Rattle.desk_engine.proofs.AcceptingLemmas.{read_fails}
use Rattle.desk_engine.proofs.StepLaws.{change_step, step_ok, step_then}

-- a step that failed, with another answer where it had gone well
same_step : {X Y : Type 0} (fault : Fault) (v0 v1 : View) → IsStep {X = Y} (Err fault) v0 v1 → IsStep {X = X} (Err fault) v0 v1
same_step fault v0 v1 s = record { ok = tt; err = s.err; later = s.later; blame = same_blame fault v0 v1 s.blame }

module _ (v0 v1 v2 : View) (stays : Stays v0 v1) (first : IsLater v0 v1) where
  pub step_breaks : {X Y : Type 0} (fault : Fault) → IsStep {X = Y} (Err fault) v1 v2 → IsStep {X = X} (Err fault) v0 v2
  step_breaks {X} {Y} fault s = step_then v0 v1 v2 stays first (Err fault) (same_step {X = X} {Y = Y} fault v1 v2 s)

  pub read_breaks : {X Y : Type 0} (fault : Fault) → v0.stage ≡ Begun → IsRead {X = Y} (Err fault) v1 v2 → IsStep {X = X} (Err fault) v0 v2
  read_breaks {X} {Y} fault begun r = step_then v0 v1 v2 stays first (Err fault) (read_fails {X = X} {Y = Y} fault v1 v2 (stays.stage ∙ begun) r)

  pub change_breaks : {X Y : Type 0} (fault : Fault) → v0.stage ≡ Begun → IsChange {X = Y} (Err fault) v1 v2 → IsStep {X = X} (Err fault) v0 v2
  change_breaks {X} {Y} fault begun s = step_breaks {X = X} {Y = Y} fault (change_step v1 v2 (stays.stage ∙ begun) (Err fault) s)

  pub goes_well : {X : Type 0} (x : X) → IsLater v1 v2 → Stays v1 v2 → IsStep {X = X} (Ok x) v0 v2
  goes_well x second more = step_ok x v0 v2 (stays_then v0 v1 v2 stays first second more) (later_then v0 v1 v2 stays first second)

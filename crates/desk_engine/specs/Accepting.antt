-- How the step ends by which an accepted entry is taken in.
use Rattle.std.specs.Prelude.{◌≡◌, ◌≢◌, ◌<◌, Result, Err}
use Rattle.desk_register.specs.declared.register.Fault.{Fault}
use Rattle.desk_register.specs.declared.register.Fault.TheVariants.{Storage}
use Rattle.desk_register.specs.declared.register.Stage.TheVariants.{Idle}
use Rattle.desk_rules.specs.Content.{Content}
use Rattle.desk_register.specs.View.{View, IfCounted, IfTrusted, IsLater, StaysSure}
use Rattle.desk_engine.specs.declared.accepting.Failure.{Failure}
use Rattle.desk_engine.specs.declared.accepting.Failure.TheVariants.{Undone, Lost}

-- it went well: no `begin` is open
pub record IsDone (old new : View) : Type 0 where
  pub stage : new.stage ≡ Idle
  pub sure : IfTrusted old new new.is_sure
  pub device : StaysSure old new

-- no `begin` is open, and the register shows what it holds, which is this; its device has not shut the store
pub record Shows (content : Content) (view : View) : Type 0 where
  pub stage : view.stage ≡ Idle
  pub sure : view.is_honest → view.is_sure
  pub device : view.device.is_honest → view.device.is_sure
  pub same : view.is_honest → view.content ≡ content

-- what is left after a failure; of a register that is lost nothing is said
abbrev pub IsLeft : Failure → Content → View → Type 0
IsLeft (Undone fault) content view = Shows content view
IsLeft Lost content view = Unit {0}

-- after a fault it was tried to show this content again, and the answer says whether it is shown
pub record Recovers (fault : Fault) (answer : Failure) (content : Content) (old new : View) : Type 0 where
  pub told : answer ≢ Lost → answer ≡ Undone fault
  pub left : IsLeft answer content new
  pub later : IsLater old new

-- The device is blamed where it failed in the step: where it had not shut the store before, the count of its failures has
-- grown after a storage fault, unless the register is lost.
pub record BlamesStep {X : Type 0} (result : Result X Failure) (old new : View) : Type 0 where
  pub storage : result ≡ Err (Undone Storage) → old.is_sure → old.device.is_sure → IfCounted new (old.device.failures < new.device.failures)

-- Whom a register is blamed for that gave no answer, where entries were taken into it.
use Rattle.std.specs.Prelude.{◌≡◌, ◌<◌, Result, Err}
use Rattle.desk_register.specs.declared.register.Fault.{Fault}
use Rattle.desk_register.specs.declared.register.Fault.TheVariants.{Storage}
use Rattle.desk_register.specs.View.{View, IfCounted}

-- Its device is blamed where it failed.
pub record BlamesTaking {X : Type 0} (result : Result X Fault) (old new : View) : Type 0 where
  pub storage : result ≡ Err Storage → old.is_sure → old.device.is_sure → IfCounted new (old.device.failures < new.device.failures)

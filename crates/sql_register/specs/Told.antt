-- What is told of a register where a call on its tables has failed.
use Rattle.std.specs.Prelude.{◌≡◌, Result, Ok, Err}
use Rattle.sqlite.specs.declared.error.Error.{Error}
use Rattle.sqlite.specs.declared.error.Error.TheVariants.{SqliteFailure}
use Rattle.sqlite.specs.declared.error.ErrorCode.TheVariants.{NoRowid, OutOfMemory, TooBig}
use Rattle.desk_register.specs.View.{fallen}
use Rattle.desk_register.specs.declared.register.Fault.{Fault}
use Rattle.desk_register.specs.declared.register.Fault.TheVariants.{Memory, Storage}
use Rattle.desk_register.specs.declared.register.Stage.{Stage}

-- want of memory is told as that, and so is a value too large, or a table with no number left for a row; any other failure names
-- the device
abbrev pub fault_for : Error → Fault
fault_for (SqliteFailure OutOfMemory) = Memory
fault_for (SqliteFailure TooBig) = Memory
fault_for (SqliteFailure NoRowid) = Memory
fault_for error = Storage

-- what was given, or a fault, with the stage after it
abbrev pub IsTold : {X : Type 0} → Result X Error → Result X Fault → Stage → Stage → Type 0
IsTold (Ok value) told stage new_stage = (told ≡ Ok value) × (new_stage ≡ stage)
IsTold (Err error) told stage new_stage = (told ≡ Err (fault_for error)) × (new_stage ≡ fallen stage)

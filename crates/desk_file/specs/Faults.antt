-- Why a database is not opened, by what failed.
use Rattle.std.specs.Prelude.{◌≡◌, ◌+◌, ◌<◌, ◌^◌, ℕ, Bool, true, false, ⊤}
use Rattle.sqlite.specs.State.{State}
use Rattle.sqlite.specs.declared.error.Error.{Error}
use Rattle.sqlite.specs.declared.error.Error.TheVariants.{SqliteFailure}
use Rattle.sqlite.specs.declared.error.ErrorCode.TheVariants.{DatabaseCorrupt, NoRowid, NotADatabase, OutOfMemory, TooBig}
use Rattle.desk_register.specs.declared.register.Fault.{Fault}
use Rattle.desk_register.specs.declared.register.Fault.TheVariants as register
use Rattle.sql_tables.specs.declared.fault.AuditFault.{AuditFault}
use Rattle.sql_tables.specs.declared.fault.AuditFault.TheVariants.{Register, Tables}
use Rattle.desk_file.specs.declared.fault.Difference.TheVariants.{NoDatabase}
use Rattle.desk_file.specs.declared.fault.OpenFault.{OpenFault}
use Rattle.desk_file.specs.declared.fault.OpenFault.TheVariants.{NotOurFile, OtherVersion, Memory, Storage}

abbrev pub number_of_fault : OpenFault → ℕ
number_of_fault (NotOurFile difference) = 50
number_of_fault OtherVersion = 51
number_of_fault Memory = 60
number_of_fault Storage = 61

-- a database is refused, as none of the desk's or as one of another version (50, 51)
abbrev pub IsRefusal : OpenFault → Type 0
IsRefusal (NotOurFile difference) = ⊤
IsRefusal OtherVersion = ⊤
IsRefusal Memory = ⊥
IsRefusal Storage = ⊥

-- want of memory, a value too large and a table with no number left for a row are told as that; the device is blamed for the rest
abbrev pub fault_for : Error → OpenFault
fault_for (SqliteFailure OutOfMemory) = Memory
fault_for (SqliteFailure TooBig) = Memory
fault_for (SqliteFailure NoRowid) = Memory
fault_for error = Storage

-- what is opened and is no database is not ours
abbrev pub opening_fault_for : Error → OpenFault
opening_fault_for (SqliteFailure NotADatabase) = NotOurFile NoDatabase
opening_fault_for error = fault_for error

-- files that are refused though the device gave back what it took are not ours either
abbrev pub unharmed_fault_for : Error → OpenFault
unharmed_fault_for (SqliteFailure DatabaseCorrupt) = NotOurFile NoDatabase
unharmed_fault_for error = opening_fault_for error

-- which it is depends on whether the device was caught giving other bytes than it took
abbrev pub files_fault_for : Bool → Error → OpenFault
files_fault_for true error = opening_fault_for error
files_fault_for false error = unharmed_fault_for error

abbrev pub register_fault_for : Fault → OpenFault
register_fault_for register.Memory = Memory
register_fault_for register.Storage = Storage

abbrev pub audit_fault_for : AuditFault → OpenFault
audit_fault_for (Register fault) = register_fault_for fault
audit_fault_for (Tables error) = fault_for error

-- The device is blamed only where it failed, which the store counts up to the greatest number.
abbrev pub IsBlamed : State → State → OpenFault → Type 0
IsBlamed old new fault = fault ≡ Storage → old.faults + 1 < 2 ^ 64 → old.faults < new.faults

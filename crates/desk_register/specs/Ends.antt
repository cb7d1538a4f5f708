-- How a walk over a register ends.
use Rattle.std.specs.Prelude.{Result, Ok, Err}
use Rattle.desk_register.specs.declared.register.Fault.{Fault}
use Rattle.desk_register.specs.declared.register.Fault.TheVariants as faults
use Rattle.desk_register.specs.declared.fault.WalkFault.{WalkFault}
use Rattle.desk_register.specs.declared.fault.WalkFault.TheVariants.{Sink, Memory, Storage}

-- the fault of a walk that a register's fault is
abbrev pub broken_off : Fault → WalkFault
broken_off faults.Memory = Memory
broken_off faults.Storage = Storage

-- How a walk fared at the register: where it was the sink that failed, each call of the register went well.
abbrev pub at_register : {X : Type 0} → Result X WalkFault → Result (Unit {0}) Fault
at_register (Ok x) = Ok tt
at_register (Err (Sink fault)) = Ok tt
at_register (Err Memory) = Err faults.Memory
at_register (Err Storage) = Err faults.Storage

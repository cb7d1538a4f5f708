-- How a register that is two fares as its calls end.
use Rattle.std.specs.Prelude.{◌≡◌, Result, Ok, Err}
use Rattle.std.specs.declared.alloc.AllocError.{AllocError}
use Rattle.desk_register.specs.declared.register.Fault.{Fault}
use Rattle.desk_register.specs.declared.register.Fault.TheVariants.{Memory}
use Rattle.desk_file.specs.declared.mirror.course.Phase.{Phase}
use Rattle.desk_file.specs.declared.mirror.course.Phase.TheVariants.{Idle, Begun, Failed, Lost}

-- the phase after a call that failed
abbrev pub fallen_phase : Phase → Phase
fallen_phase Idle = Idle
fallen_phase Begun = Failed
fallen_phase Failed = Failed
fallen_phase Lost = Lost

-- the phase after a call
abbrev pub IsAfter : {X : Type 0} → Result X Fault → Phase → Phase → Type 0
IsAfter (Ok value) phase new_phase = new_phase ≡ phase
IsAfter (Err fault) phase new_phase = new_phase ≡ fallen_phase phase

-- the copy, or want of memory
abbrev pub IsCopied : {X : Type 0} → Result X AllocError → Result X Fault → Phase → Phase → Type 0
IsCopied (Ok copy) told phase new_phase = (told ≡ Ok copy) × (new_phase ≡ phase)
IsCopied (Err error) told phase new_phase = (told ≡ Err Memory) × (new_phase ≡ fallen_phase phase)

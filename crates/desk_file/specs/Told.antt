-- The end of a try of a pair, as the tables are told of it.
use Rattle.std.specs.Prelude.{◌≡◌, Result, Ok, Err}
use Rattle.desk_register.specs.declared.outcome.Outcome.{Outcome}
use Rattle.desk_register.specs.declared.register.Fault.{Fault}

-- a try, and its end without the outcome
abbrev pub IsDone : Result Outcome Fault → Result (Unit {0}) Fault → Type 0
IsDone (Ok outcome) told = told ≡ Ok tt
IsDone (Err fault) told = told ≡ Err fault

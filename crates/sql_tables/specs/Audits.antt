-- How an audit ends: it only looks at the tables, and only reads the register; whichever of the two failed gave no answer.
use Rattle.std.specs.Prelude.{⊤, Result, Ok, Err, IfErr}
use Rattle.sqlite.specs.declared.error.Error.{Error}
use Rattle.desk_register.specs.declared.register.Fault.{Fault}
use Rattle.desk_register.specs.View.{View, IsRead}
use Rattle.sqlite.specs.Schema.{Schema}
use Rattle.sqlite.specs.State.{State}
use Rattle.sql_tables.specs.Ends.{ForCause, IsLook, IsLookIn}
use Rattle.sql_tables.specs.declared.fault.AuditFault.{AuditFault}
use Rattle.sql_tables.specs.declared.fault.AuditFault.TheVariants.{Register, Tables}

-- how the looks at the tables ended
abbrev pub of_tables : {X : Type 0} → Result X AuditFault → Result ⊤ Error
of_tables (Err (Tables error)) = Err error
of_tables _ = Ok tt

-- how the calls of the register ended
abbrev pub of_register : {X : Type 0} → Result X AuditFault → Result ⊤ Fault
of_register (Err (Register fault)) = Err fault
of_register _ = Ok tt

-- an audit's looks at the tables, by the session before and after
module _ {S : Type 0} (state : S → State) (old new : S) where
  abbrev pub Audits : {X : Type 0} → Result X AuditFault → Type 0
  Audits result = IsLook (of_tables result) (state old) (state new)

  abbrev pub AuditsIn : Schema → {X : Type 0} → Result X AuditFault → Type 0
  AuditsIn schema result = IsLookIn schema (of_tables result) (state old) (state new)

  -- where the tables gave no answer, they did so for want, or since the device failed in it
  abbrev pub AuditsForCause : {X : Type 0} → Result X AuditFault → Type 0
  AuditsForCause result = IfErr (of_tables result) (ForCause (state old) (state new))

-- its calls of the register
abbrev pub Consults : {X : Type 0} → Result X AuditFault → View → View → Type 0
Consults result old new = IsRead (of_register result) old new

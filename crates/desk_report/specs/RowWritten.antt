-- That a row was written.
use Rattle.std.specs.Prelude.{◌≡◌, ℕ, Bool, List, ◌++◌, Option, Result, Ok, Err}
use Rattle.std.specs.Io.KnownBytes.{Appends}
use Rattle.serde_json.specs.Data.{Data}
use Rattle.serde_json.specs.Written.{comma_if, compact_text}
use Rattle.desk_msg.specs.declared.writing.statement_row.SinkFault.TheVariants.{Write}
use Rattle.desk_register.specs.declared.fault.WalkFault.{WalkFault}
use Rattle.desk_register.specs.declared.fault.WalkFault.TheVariants.{Sink}

-- A row was written as JSON, behind a comma where rows stand before it. Where memory was wanting for it nothing was written; of a
-- writer that failed nothing is said.
abbrev pub WritesRow : {X : Type 0} → Data → Bool → Result X WalkFault → Option (List ℕ) → Option (List ℕ) → Type 0
WritesRow value is_later (Ok x) before after = Appends before after (comma_if is_later ++ compact_text value)
WritesRow value is_later (Err (Sink Write)) before after = Unit {0}
WritesRow value is_later (Err fault) before after = after ≡ before

-- That the row of a number was written. Only private contracts and proofs speak of it.
use Rattle.std.specs.Prelude.{◌≡◌, ℕ, Bool, true, List, ◌++◌, Option, Some, None, Result, Ok, Err}
use Rattle.std.specs.Io.KnownBytes.{Appends}
use Rattle.serde_json.specs.Written.{comma_if, compact_text}
use Rattle.desk_msg.specs.declared.writing.statement_row.SinkFault.TheVariants.{Write}
use Rattle.desk_register.specs.declared.fault.WalkFault.{WalkFault}
use Rattle.desk_register.specs.declared.fault.WalkFault.TheVariants.{Sink}
use Rattle.desk_report.specs.RowData.{unmatched_data}
use Rattle.desk_report.specs.declared.rows.unmatched.UnmatchedInstruction.{UnmatchedInstruction}

-- A row was written where there is one, behind a comma where rows stand before it, and it is told whether any row stands there
-- now. Where it broke off nothing was written, but by a writer that failed: of it nothing is said.
abbrev pub WritesIf : Result Bool WalkFault → Option UnmatchedInstruction → Bool → Option (List ℕ) → Option (List ℕ) → Type 0
WritesIf (Ok now_later) None is_later before after = (now_later ≡ is_later) × (after ≡ before)
WritesIf (Ok now_later) (Some row) is_later before after = (now_later ≡ true) × Appends before after (comma_if is_later ++ compact_text (unmatched_data row))
WritesIf (Err (Sink Write)) row is_later before after = Unit {0}
WritesIf (Err fault) row is_later before after = after ≡ before

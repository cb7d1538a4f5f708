-- That the row of a number was written. Only private contracts and proofs speak of it.
use Rattle.std.specs.Prelude.{◌≡◌, ℕ, Bool, true, false, List, ◌++◌, map, Option, Some, None, Result, Ok, Err}
use Rattle.std.specs.Io.KnownBytes.{Appends}
use Rattle.serde_json.specs.Data.{Data}
use Rattle.serde_json.specs.Written.{comma_if, compact_text}
use Rattle.desk_msg.specs.declared.writing.statement_row.SinkFault.TheVariants.{Write}
use Rattle.desk_register.specs.declared.fault.WalkFault.{WalkFault}
use Rattle.desk_register.specs.declared.fault.WalkFault.TheVariants.{Sink}
use Rattle.desk_rules.specs.Books.{Books}
use Rattle.desk_book.specs.Sums.{rows_text}
use Rattle.desk_journal.specs.Journal.{data_of, journal_of}
use Rattle.desk_journal.specs.declared.rows.journal.JournalRow.{JournalRow}

-- A row was written where there is one, behind a comma where rows stand before it, and it is told whether any row stands there
-- now. Where it broke off nothing was written, but by a writer that failed: of it nothing is said.
abbrev pub WritesIf : (JournalRow → Data) → Result Bool WalkFault → Option JournalRow → Bool → Option (List ℕ) → Option (List ℕ) → Type 0
WritesIf data_of (Ok now_later) None is_later before after = (now_later ≡ is_later) × (after ≡ before)
WritesIf data_of (Ok now_later) (Some row) is_later before after = (now_later ≡ true) × Appends before after (comma_if is_later ++ compact_text (data_of row))
WritesIf data_of (Err (Sink Write)) row is_later before after = Unit {0}
WritesIf data_of (Err fault) row is_later before after = after ≡ before

-- the text of the rows from a number on, without the brackets of the array
abbrev pub AreRowsText : Books → ℕ → List ℕ → Type 0
AreRowsText books from text = text ≡ rows_text false (map (data_of books) (journal_of books from))

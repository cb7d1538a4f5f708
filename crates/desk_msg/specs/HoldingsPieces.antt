-- The text of a statement in the pieces in which it is written, row by row.
use Rattle.std.specs.Prelude.{◌≡◌, ℕ, Bool, true, false, if◌then◌else◌, List, [], ◌∷◌, ◌++◌, codes, Option}
use Rattle.std.specs.List.{flat_map}
use Rattle.std.specs.Io.KnownBytes.{Appends}
use Rattle.desk_text.specs.Lines.{written}
use Rattle.desk_text.specs.Written.{Part, open_part, field_part, close_part, lines_of_part, first_line}
use Rattle.desk_msg.specs.declared.writing.statement_row.StatementRow.{StatementRow}
use Rattle.desk_msg.specs.declared.writing.holdings.Heading.{Heading}
use Rattle.desk_msg.specs.declared.writing.holdings.HoldingsWriter.{HoldingsWriter}
use Rattle.desk_msg.specs.HoldingsText.{general_parts, row_parts, holdings}

-- the lines of parts
abbrev pub text_of : List Part → List ℕ
text_of parts = written (flat_map lines_of_part parts)

-- what is said of the statement itself, by the values of its fields: own reference, day, account and activity flag
abbrev pub general_with : (own day account activity : List ℕ) → List Part
general_with own day account activity =
    open_part (codes "GENL")
    ∷ field_part (codes "28E") (codes "1/ONLY")
    ∷ field_part (codes "20C") own
    ∷ field_part (codes "23G") (codes "NEWM")
    ∷ field_part (codes "98A") day
    ∷ field_part (codes "22F") (codes ":SFRE//ADHO")
    ∷ field_part (codes "22F") (codes ":CODE//COMP")
    ∷ field_part (codes "22F") (codes ":STTY//CUST")
    ∷ field_part (codes "22F") (codes ":STBA//SETT")
    ∷ field_part (codes "97A") account
    ∷ field_part (codes "17B") activity
    ∷ field_part (codes "17B") (codes ":CONS//N")
    ∷ close_part (codes "GENL")
    ∷ []

-- the first line, and what is said of the statement itself
unfoldable pub general_text : Heading → List ℕ → List ℕ
general_text h activity = first_line ++ text_of (general_parts h.entries h.day h.account activity)

-- what stands before the first row
unfoldable pub front_text : Heading → List ℕ
front_text h = general_text h (codes "Y") ++ text_of (open_part (codes "SUBSAFE") ∷ [])

-- the lines of a row
unfoldable pub row_text : StatementRow → List ℕ
row_text row = text_of (row_parts row)

-- what a row adds: where it is the first, what stands before the rows goes ahead of its lines
abbrev pub added_by : Heading → Bool → StatementRow → List ℕ
added_by h is_begun row = (if is_begun then [] else front_text h) ++ row_text row

-- what ends a statement: without a row it is the whole of it
abbrev pub rest_text : Heading → Bool → List ℕ
rest_text h true = text_of (close_part (codes "SUBSAFE") ∷ []) ++ codes "-}"
rest_text h false = holdings h.entries h.day h.account []

-- A row was taken: what it adds was written behind what the writer held, and the statement is the same one, now with a row.
pub record TakesRow {W : Type 0} (contents : W → Option (List ℕ)) (before : HoldingsWriter W) (row : StatementRow) (after : HoldingsWriter W) : Type 0 where
  pub same_writer : after.writer.ghost_name ≡ before.writer.ghost_name
  pub same_heading : after.heading ≡ before.heading
  pub is_begun : after.is_begun ≡ true
  pub written : Appends (contents before.writer.now) (contents after.writer.now) (added_by before.heading before.is_begun row)

abbrev pub has_row : List StatementRow → Bool
has_row [] = false
has_row (row ∷ rows) = true

-- what is written once these rows were taken
abbrev pub written_by : Heading → List StatementRow → List ℕ
written_by h [] = []
written_by h (row ∷ rows) = front_text h ++ flat_map row_text (row ∷ rows)

-- Of a statement that had no row yet, these rows were taken, in their order.
pub record HasTaken {W : Type 0} (contents : W → Option (List ℕ)) (first : HoldingsWriter W) (rows : List StatementRow) (last : HoldingsWriter W) : Type 0 where
  pub same_writer : last.writer.ghost_name ≡ first.writer.ghost_name
  pub same_heading : last.heading ≡ first.heading
  pub is_begun : last.is_begun ≡ has_row rows
  pub written : Appends (contents first.writer.now) (contents last.writer.now) (written_by first.heading rows)

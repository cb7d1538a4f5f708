-- How rows are written as they are read. Only private contracts speak of it.
use Rattle.std.specs.Prelude.{◌≡◌, ℕ, Bool, true, false, List, [], ◌∷◌, map, Option, Some, None, Result, IfOk}
use Rattle.serde_json.specs.Data.{Data}
use Rattle.desk_msg.specs.declared.writing.statement_row.StatementRow.{StatementRow}
use Rattle.desk_rules.specs.declared.history.entry.Entry.{Entry}
use Rattle.desk_rules.specs.History.{entry_at}
use Rattle.desk_register.specs.declared.fault.WalkFault.{WalkFault}
use Rattle.desk_book.specs.RowByRow.{WritesText}
use Rattle.desk_book.specs.Sums.{rows_text}
use Rattle.desk_report.specs.RowData.{account_data}
use Rattle.desk_report.specs.Accounts.{holding_row}

-- the rows of an entry, if there is one
abbrev pub rows_if : {Item Row : Type 0} → (Item → List Row) → Option Item → List Row
rows_if rows_by None = []
rows_if rows_by (Some item) = rows_by item

-- the rows of the entry of a number
abbrev pub rows_at : {Row : Type 0} → (Entry → List Row) → List Entry → ℕ → List Row
rows_at rows_by history n = rows_if rows_by (entry_at history n)

-- whether rows stand before what comes behind these
abbrev pub later_behind : {Row : Type 0} → List Row → Bool → Bool
later_behind [] is_later = is_later
later_behind (row ∷ rows) is_later = true

-- the text of rows, behind a comma where rows stand before them
abbrev pub IsRows : {Row : Type 0} → (Row → Data) → List Row → Bool → List ℕ → Type 0
IsRows data_of rows is_later text = text ≡ rows_text is_later (map data_of rows)

-- These rows were written, and it is told whether rows stand now before what comes.
pub record WritesRows {Row : Type 0} (data_of : Row → Data) (rows : List Row) (is_later : Bool) (result : Result Bool WalkFault) (before after : Option (List ℕ)) : Type 0 where
  pub text : WritesText (IsRows data_of rows is_later) result before after
  pub later : IfOk result (λ now_later. now_later ≡ later_behind rows is_later)

-- The account's holdings were written, each in a row, and it is told whether there are some.
pub record WritesHoldings (owner account : List ℕ) (held : List StatementRow) (is_later : Bool) (result : Result Bool WalkFault) (before after : Option (List ℕ)) : Type 0 where
  pub text : WritesText (IsRows (λ row. account_data (holding_row owner account row)) held is_later) result before after
  pub some : IfOk result (λ holds_some. holds_some ≡ later_behind held false)

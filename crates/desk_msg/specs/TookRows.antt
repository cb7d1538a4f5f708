-- What a sink took.
use Rattle.std.specs.Prelude.{◌≡◌, List, [], ◌∷◌}
use Rattle.desk_msg.specs.declared.writing.statement_row.StatementRow.{StatementRow}

-- the rows were taken one after another, each in a step of its own
abbrev pub TookAll : {S : Type 0} → (S → StatementRow → S → Type 0) → S → List StatementRow → S → Type 0
TookAll took before [] after = after ≡ before
TookAll {S} took before (row ∷ rows) after = (between : S) × took before row between × TookAll took between rows after

-- The steps of a walk. Only private contracts and proofs speak of them.
use Rattle.std.specs.Prelude.{◌≡◌, ℕ, List, Option, Some, None}
use Rattle.desk_msg.specs.declared.writing.statement_row.StatementRow.{StatementRow}
use Rattle.desk_rules.specs.Content.{Content, history_of}
use Rattle.desk_rules.specs.Facts.{kind_of}
use Rattle.desk_register.specs.Looked.{IsHoldingAfter}

-- the row of the account's first holding above a security, or above none; or there is none
abbrev pub IsNextRow : Content → List ℕ → Option (List ℕ) → Option StatementRow → Type 0
IsNextRow content account above None = IsHoldingAfter content account above None
IsNextRow content account above (Some row) =
    IsHoldingAfter content account above (Some (record { isin = row.isin; quantity = row.quantity })) × (kind_of (history_of content) row.isin ≡ Some row.kind)

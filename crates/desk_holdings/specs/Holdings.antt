-- What an account holds, as the rows of a statement of holdings.
use Rattle.std.specs.Prelude.{◌≡◌, ℕ, ◌<◌, true, List, ◌++◌, AllPairs, Contains, Some, is_some}
use Rattle.desk_msg.specs.declared.writing.statement_row.StatementRow.{StatementRow}
use Rattle.desk_rules.specs.Content.{Content, history_of}
use Rattle.desk_rules.specs.Facts.{kind_of}
use Rattle.desk_register.specs.Looked.{IsLess}

-- The account holds none but registered securities. (So it is where the content is that of accepted entries:
-- `holds_registered`.)
pub record HoldsRegistered (content : Content) (account : List ℕ) : Type 0 where
  pub each : (isin : List ℕ) → 0 < content.position account isin → is_some (kind_of (history_of content) isin) ≡ true

-- A row tells how much of a security the account holds, which is some, and how the security is counted.
pub record IsRow (content : Content) (account : List ℕ) (row : StatementRow) : Type 0 where
  pub quantity : row.quantity ≡ content.position account row.isin
  pub some : 0 < row.quantity
  pub kind : kind_of (history_of content) row.isin ≡ Some row.kind

-- The account's holdings: a row for each security of which it holds some, and no other, in the order of the ISINs' bytes.
pub record AreHoldings (content : Content) (account : List ℕ) (rows : List StatementRow) : Type 0 where
  pub each : (row : StatementRow) → Contains rows row → IsRow content account row
  pub all : (isin : List ℕ) → 0 < content.position account isin → (row : StatementRow) × Contains rows row × (row.isin ≡ isin)
  pub in_order : AllPairs (λ a b. IsLess a.isin b.isin) rows

-- the first of the account's holdings, so many
pub record AreFirstHoldings (content : Content) (account : List ℕ) (front : List StatementRow) : Type 0 where
  pub rest : List StatementRow
  pub whole : AreHoldings content account (front ++ rest)

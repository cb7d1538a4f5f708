-- The rows that a query shows of a table of amounts. Only private contracts and proofs speak of them.
use Rattle.std.specs.Prelude.{◌≡◌, ◌⊎◌, ℕ, ◌<◌, ◌^◌, pos, List, [], ◌∷◌, length, Some, codes}
use Rattle.std.specs.List.{AllByRecursion}
use Rattle.sqlite.specs.declared.types.Value.TheVariants.{Int, Text as Words}
use Rattle.sqlite.specs.Effect.{Database}
use Rattle.sqlite.specs.Order.{Row, column}
use Rattle.desk_rules.specs.Content.{Content}
use Rattle.sql_rows.specs.declared.amounts.key.Ledger.{Ledger}
use Rattle.sql_rows.specs.declared.amounts.key.Ledger.TheVariants.{Balance, Cash, Total}
use Rattle.sql_rows.specs.declared.amounts.key.AmountKey.{AmountKey}
use Rattle.sql_rows.specs.Amounts.{AreAmountRows, text_in}
use Rattle.sql_rows.specs.Keys.{ledger_of, texts_of, tree_of}
use Rattle.sql_rows.specs.Said.{IsReadable, IsSaid, IsTrueOf, IsTrueRow}

-- the query of all rows
abbrev pub all_text : Ledger → List ℕ
all_text Balance = codes "SELECT account, isin, quantity FROM balance"
all_text Cash = codes "SELECT bic, currency, amount FROM cash"
all_text Total = codes "SELECT subject, code, amount FROM total"

-- what it shows of a row
abbrev pub shown : Row → Row
shown row = column row 1 ∷ column row 2 ∷ column row 3 ∷ []

-- a shown row has the texts of a key of the table
pub record ShowsKey (ledger : Ledger) (row : Row) (key : AmountKey) : Type 0 where
  pub ledger_is : ledger_of key ≡ ledger
  pub first : column row 0 ≡ Words (texts_of key).0
  pub second : column row 1 ≡ Words (texts_of key).1

-- a shown row has an amount, and it says nothing, or what a content has
pub record ShowsTrue (content : Content) (ledger : Ledger) (row : Row) : Type 0 where
  pub amount : ℕ
  pub amount_is : column row 2 ≡ Int (pos amount)
  pub small : amount < 2 ^ 63
  pub is_true : IsTrueOf content ledger (text_in (column row 0), text_in (column row 1)) amount

-- and what it says it says under a key of codes
pub record ShowsReadable (content : Content) (ledger : Ledger) (row : Row) : Type 0 where
  pub amount : ℕ
  pub amount_is : column row 2 ≡ Int (pos amount)
  pub size : length row ≡ 3
  pub is_true : (amount ≡ 0) ⊎ ((key : AmountKey) × ShowsKey ledger row key × IsReadable key × IsSaid content key (Some amount))

-- a table is well formed, and each of its rows says nothing, or what a content has
pub record IsTrueTable (db : Database) (content : Content) (ledger : Ledger) : Type 0 where
  pub rows : AreAmountRows (db.trees (tree_of ledger))
  pub each : AllByRecursion (IsTrueRow content ledger) (db.trees (tree_of ledger))

-- so it is of all three
pub record AreTrueTables (db : Database) (content : Content) : Type 0 where
  pub balance : IsTrueTable db content Balance
  pub cash : IsTrueTable db content Cash
  pub total : IsTrueTable db content Total

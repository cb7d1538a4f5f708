-- What all accounts together hold of a security, and all participants together have of a currency.
use Rattle.std.specs.Prelude.{◌≡◌, ℕ, pos, Bool, List, [], ◌∷◌, All, bytes_eq, filter, sum_by}
use Rattle.sqlite.specs.declared.types.Value.TheVariants.{Int}
use Rattle.sqlite.specs.Order.{Row, column}
use Rattle.sqlite.specs.Effect.{Database}
use Rattle.desk_codes.specs.Currency.{letters_of}
use Rattle.desk_codes.specs.declared.currency.Ccy.{Ccy}
use Rattle.sql_rows.specs.declared.amounts.key.Ledger.TheVariants.{Balance, Cash}
use Rattle.sql_rows.specs.Keys.{tree_of}
use Rattle.sql_rows.specs.Amounts.{amount_on, number_in, text_in}

-- a row's second text, a security or a currency, is this one
abbrev pub is_in : List ℕ → Row → Bool
is_in code row = bytes_eq (text_in (column row 2)) code

-- the amounts of all such rows
abbrev pub sum_in : List Row → List ℕ → ℕ
sum_in rows code = sum_by amount_on (filter (is_in code) rows)

abbrev pub total_held : Database → List ℕ → ℕ
total_held db isin = sum_in (db.trees (tree_of Balance)) isin

abbrev pub total_cash : Database → Ccy → ℕ
total_cash db ccy = sum_in (db.trees (tree_of Cash)) (letters_of ccy)

-- the number in the first column of a row that is shown
abbrev pub number_shown : Row → ℕ
number_shown row = number_in (column row 0)

-- a row that shows a number, and no more
pub record ShowsNumber (row : Row) : Type 0 where
  pub number : ℕ
  pub is : row ≡ Int (pos number) ∷ []

-- each row shows a number, and this is the sum of them
pub record ShowSum (rows : List Row) (sum : ℕ) : Type 0 where
  pub numbers : All ShowsNumber rows
  pub adds_up : sum_by number_shown rows ≡ sum

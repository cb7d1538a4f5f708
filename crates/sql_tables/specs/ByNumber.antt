-- A table that has a number for a key, looked up number by number.
use Rattle.std.specs.Prelude.{◌≡◌, ℕ, ◌<◌, ◌≤◌, pos, Bool, List, [], ◌∷◌, filter, Option, Some}
use Rattle.sqlite.specs.declared.types.Value.TheVariants.{Int}
use Rattle.sqlite.specs.Collation.TheVariants.{Binary}
use Rattle.sqlite.specs.Order.{Row}
use Rattle.sqlite.specs.Term.{Term, op2, col}
use Rattle.sqlite_sql.specs.declared.ops.BinaryOp.TheVariants.{Compare}
use Rattle.sqlite_sql.specs.declared.ops.CompareOp.TheVariants.{Gt, Lt}
use Rattle.sql_tables.specs.Queries.{equals, passes_all}
use Rattle.sql_tables.specs.Numbered.{row_with}

-- the tests of the texts: the number is this one, is above it, is below it
abbrev pub has_number : ℕ → Row → Bool
has_number number = passes_all (equals 0 0 ∷ []) (Int (pos number) ∷ [])

abbrev pub above : Term
above = op2 (Compare Gt Binary) (col 1 0) (col 0 0)

abbrev pub below : Term
below = op2 (Compare Lt Binary) (col 1 0) (col 0 0)

abbrev pub is_above : ℕ → Row → Bool
is_above number = passes_all (above ∷ []) (Int (pos number) ∷ [])

abbrev pub is_below : ℕ → Row → Bool
is_below number = passes_all (below ∷ []) (Int (pos number) ∷ [])

-- the number has one row, with these values
abbrev pub HasOne : List Row → ℕ → Row → Type 0
HasOne rows number values = filter (has_number number) rows ≡ row_with number values ∷ []

-- so has each number up to one, with the values that are wanted
pub record HasEach (wanted : ℕ → Option Row) (rows : List Row) (count : ℕ) : Type 0 where
  pub each : (number : ℕ) → 0 < number → number ≤ count → (values : Row) × (wanted number ≡ Some values) × HasOne rows number values

-- no other number has a row
pub record HasNoOther (rows : List Row) (count : ℕ) : Type 0 where
  pub above : filter (is_above count) rows ≡ []
  pub below : filter (is_below 1) rows ≡ []

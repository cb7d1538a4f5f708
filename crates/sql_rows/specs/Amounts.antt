-- What the three tables of amounts say.
use Rattle.std.specs.Prelude.{◌≡◌, ◌⊎◌, ℕ, ◌<◌, ◌^◌, ℤ, pos, Bool, false, List, [], ◌∷◌, Option, option_map}
use Rattle.std.specs.List.{AllByRecursion, find}
use Rattle.std.specs.Ordering.{is_eq}
use Rattle.sqlite.specs.declared.types.Value.{Value}
use Rattle.sqlite.specs.declared.types.Value.TheVariants.{Int, Text as Words}
use Rattle.sqlite.specs.Order.{Row, column, value_cmp}
use Rattle.sqlite.specs.Tree.{IsAscending, IsTable, rowid}
use Rattle.sqlite.specs.Effect.{Database}
use Rattle.sql_rows.specs.declared.amounts.key.Ledger.{Ledger}
use Rattle.sql_rows.specs.declared.amounts.key.AmountKey.{AmountKey}
use Rattle.sql_rows.specs.Keys.{Texts, same_texts, ledger_of, texts_of, tree_of}

-- a row as it is stored: its rowid, its two texts and its amount
abbrev pub stored : ℤ → Texts → ℕ → Row
stored id texts amount = Int id ∷ Words texts.0 ∷ Words texts.1 ∷ Int (pos amount) ∷ []

abbrev pub text_in : Value → List ℕ
text_in (Words text) = text
text_in _ = []

abbrev pub number_in : Value → ℕ
number_in (Int (pos n)) = n
number_in _ = 0

abbrev pub texts_in : Row → Texts
texts_in row = (text_in (column row 1), text_in (column row 2))

abbrev pub amount_on : Row → ℕ
amount_on row = number_in (column row 3)

-- a row says something
pub record IsStored (row : Row) : Type 0 where
  pub id : ℤ
  pub texts : Texts
  pub amount : ℕ
  pub is : row ≡ stored id texts amount
  pub small : amount < 2 ^ 63

-- two rows have not the same texts, and not the same rowid
pub record AreApart (r s : Row) : Type 0 where
  pub texts : same_texts (texts_in r) (texts_in s) ≡ false
  pub rowids : is_eq (value_cmp (rowid r) (rowid s)) ≡ false

-- The rows of a table of amounts, in the order of their numbers. A permutation of them records the same.
pub record AreAmountRows (rows : List Row) : Type 0 where
  pub stored : AllByRecursion IsStored rows
  -- each row is apart from each later one
  pub apart : IsAscending AreApart rows
  pub order : IsTable rows

abbrev pub is_at : Texts → Row → Bool
is_at texts row = same_texts (texts_in row) texts

-- the amount of the row that has these texts; none where no row has
abbrev pub recorded : List Row → Texts → Option ℕ
recorded rows texts = option_map amount_on (find (is_at texts) rows)

-- two texts are those of a key of a table
pub record AreOfKey (ledger : Ledger) (texts : Texts) : Type 0 where
  pub key : AmountKey
  pub ledger_is : ledger_of key ≡ ledger
  pub texts_are : texts_of key ≡ texts

-- a row says 0, or what it says it says under a key of its table
abbrev pub IsKeyed : Ledger → Row → Type 0
IsKeyed ledger row = (amount_on row ≡ 0) ⊎ AreOfKey ledger (texts_in row)

-- the rows of a table of amounts, each of which says 0, or is a key's
pub record IsAmountTable (ledger : Ledger) (rows : List Row) : Type 0 where
  pub are : AreAmountRows rows
  pub keyed : AllByRecursion (IsKeyed ledger) rows

-- the tables of amounts are well formed
abbrev pub AreAmounts : Database → Type 0
AreAmounts db = (ledger : Ledger) → IsAmountTable ledger (db.trees (tree_of ledger))

-- what a table records under two texts; none where it has no such row
abbrev pub amount_in : Database → Ledger → List ℕ → List ℕ → Option ℕ
amount_in db ledger first second = recorded (db.trees (tree_of ledger)) (first, second)

-- what is recorded under a key
abbrev pub amount_at : Database → AmountKey → Option ℕ
amount_at db key = amount_in db (ledger_of key) (texts_of key).0 (texts_of key).1

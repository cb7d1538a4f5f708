-- What the rows of the desk's tables are, whatever they say: a value for each column, and no key twice.
use Rattle.std.specs.Prelude.{◌≡◌, ⊤, ℕ, ◌+◌, ℤ, Bool, true, false, List, [], ◌∷◌, Option}
use Rattle.std.specs.List.{AllByRecursion}
use Rattle.sqlite.specs.declared.types.Value.{Value}
use Rattle.sqlite.specs.declared.types.Value.TheVariants.{Null, Int, Text as Words}
use Rattle.sqlite.specs.Order.{Row}
use Rattle.sqlite.specs.Kind.TheVariants.{Integer, Text}
use Rattle.sqlite.specs.Table.{Table}
use Rattle.sqlite.specs.Tree.{Trees, IsAscending}
use Rattle.sqlite_schema.specs.declared.schema.Column.{Column}
use Rattle.sqlite_schema.specs.Names.{is_key}
use Rattle.sqlite_schema.specs.Rules.{agree}
use Rattle.sql_tables.specs.Schema.{ascending, desk_tables}

-- What may stand in a column: nothing in the one that the number of the row stands for; else a value of its type, or NULL
-- where it may have one.
abbrev pub MayStand : Bool → Column → Value → Type 0
MayStand true column value = value ≡ Null
MayStand false column Null = column.not_null ≡ false
MayStand false column (Int number) = column.kind ≡ Integer
MayStand false column (Words text) = column.kind ≡ Text
MayStand false column _ = ⊥

-- one value for each column; what lacks at the end is NULL
abbrev pub AreValues : Option ℕ → ℕ → List Column → Row → Type 0
AreValues key at [] [] = ⊤
AreValues key at [] (value ∷ more) = ⊥
AreValues key at (column ∷ others) [] = MayStand (is_key key at) column Null × AreValues key (at + 1) others []
AreValues key at (column ∷ others) (value ∷ more) = MayStand (is_key key at) column value × AreValues key (at + 1) others more

-- a row: its number, and the values of its columns
pub record HasForm (table : Table) (row : Row) : Type 0 where
  pub number : ℤ
  pub values : Row
  pub is : row ≡ Int number ∷ values
  pub each : AreValues table.key 0 table.columns values

-- no two rows agree in the columns of a unique key
abbrev pub AreKeyed : Table → List Row → Type 0
AreKeyed table rows = AllByRecursion (λ places. IsAscending (λ r s. agree ascending places r places s ≡ false) rows) table.uniques

pub record AreFormed (table : Table) (rows : List Row) : Type 0 where
  pub each : AllByRecursion (HasForm table) rows
  pub keyed : AreKeyed table rows

-- so it is of all tables
abbrev pub AreAllFormed : Trees → Type 0
AreAllFormed trees = AllByRecursion (λ table. AreFormed table (trees table.tree)) desk_tables

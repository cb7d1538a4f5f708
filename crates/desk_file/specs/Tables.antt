-- The tables and the indexes that are told by an outline, as the code holds it.
use Rattle.std.specs.Prelude.{◌≡◌, ℕ, false, List, [], Option, map}
use Rattle.std.specs.Borrow.{Bor}
use Rattle.sqlite.specs.Table.{Table}
use Rattle.sqlite_schema.specs.declared.schema.Index.{Index}
use Rattle.sql_tables.specs.Schema.{index_of, table_of, unstamped}
use Rattle.sql_tables.specs.declared.tables.Holds.{Holds}
use Rattle.desk_file.specs.Outline.{outline}

-- what no table of the desk has
pub record HasNothingElse (table : Table) : Type 0 where
  pub references : table.references ≡ []
  pub computed : table.computed ≡ []
  pub stamps : table.stamps ≡ unstamped
  pub is_counted : table.is_counted ≡ false

abbrev pub table_outlined : Bor (List ℕ) × ℕ × Bor (List (Bor (List ℕ) × Holds)) × Option (ℕ × ℕ) → Table
table_outlined table = table_of table.0.now table.1 (map outline table.2.now) table.3

abbrev pub index_outlined : Bor (List ℕ) × ℕ × ℕ × ℕ × ℕ → Index
index_outlined index = index_of index.0.now index.1 index.2 index.3 index.4

-- The tables of the desk, as the statements that make them define them: in this order, and nothing else. There is no index but
-- those of keys, which SQLite makes with their tables. TABLES and INDEXES are their outlines.
use Rattle.std.specs.Prelude.{true, false, not, if◌then◌else◌, [], ◌∷◌, Option, None, Some, List, ℕ, Bool, map, pos, slice_index_or}
use Rattle.sqlite.specs.Collation.TheVariants.{Binary}
use Rattle.sqlite.specs.declared.types.Value.TheVariants.{Null, Int}
use Rattle.sqlite.specs.Table.{Table}
use Rattle.sqlite.specs.Schema.{Schema}
use Rattle.sqlite.specs.Kind.{Kind}
use Rattle.sqlite.specs.Kind.TheVariants.{Integer, Text}
use Rattle.sqlite.specs.Term.{Term, op2, col, lit}
use Rattle.sqlite_sql.specs.declared.ops.BinaryOp.TheVariants.{Compare}
use Rattle.sqlite_sql.specs.declared.ops.CompareOp.TheVariants.{Ge}
use Rattle.sqlite_schema.specs.declared.schema.Column.{Column}
use Rattle.sqlite_schema.specs.declared.schema.Index.{Index}
use Rattle.sqlite_value.specs.declared.keys.Order.{Order}
use Rattle.sqlite_schema.specs.declared.schema.Stamps.{Stamps}
use Rattle.sql_tables.specs.declared.tables.Holds.{Holds}
use Rattle.sql_tables.specs.declared.tables.Holds.TheVariants as holds
use Rattle.sql_tables.specs.declared.tables.TheConstants.{TABLES, INDEXES, FIRST_TABLES, FIRST_INDEXES}

-- a column that may have no NULL
abbrev pub needed : List ℕ → Kind → Column
needed name kind = record { name = name; kind = kind; is_strict = true; not_null = true; default = Null; collation = Binary }

-- a column that may have one
abbrev pub optional : List ℕ → Kind → Column
optional name kind = record (needed name kind) { not_null = false }

abbrev pub not_below_nought : ℕ → Term
not_below_nought place = op2 (Compare Ge Binary) (col 1 place) (lit (Int (pos 0)))

abbrev pub ascending : Order
ascending = record { digits = 0 }

abbrev pub unstamped : Stamps
unstamped = record { places = []; terms = []; formats = [] }

-- ---- what an outline tells

-- a column's name, and what it holds
abbrev pub Outline : Type 0
Outline = List ℕ × Holds

-- a column with this name
abbrev pub column_with : List ℕ → Holds → Column
column_with name holds.Key = optional name Integer
column_with name holds.Text = needed name Text
column_with name holds.Number = needed name Integer
column_with name holds.Amount = needed name Integer
column_with name holds.Optional = optional name Integer

abbrev pub column_of : Outline → Column
column_of column = column_with column.0 column.1

-- the number of the row stands in this column
abbrev pub is_key : Holds → Bool
is_key holds.Key = true
is_key _ = false

-- the rows have a number of their own, which the first column shows
abbrev pub is_numbered : List Outline → Bool
is_numbered [] = false
is_numbered (column ∷ more) = is_key column.1

-- a unique key of two columns, or none
abbrev pub uniques_of : Option (ℕ × ℕ) → List (List ℕ)
uniques_of None = []
uniques_of (Some pair) = (pair.0 ∷ pair.1 ∷ []) ∷ []

-- the order of each unique key
abbrev pub orders_of : Option (ℕ × ℕ) → List Order
orders_of None = []
orders_of (Some pair) = ascending ∷ []

-- the test of the third column, or none
abbrev pub checks_of : Bool → List Term
checks_of true = not_below_nought 3 ∷ []
checks_of false = []

-- a table is numbered, or its first two columns are its key and its third is an amount
abbrev pub table_of : List ℕ → ℕ → List Outline → Option (ℕ × ℕ) → Table
table_of name tree columns unique = record {
  name = name;
  tree = tree;
  columns = map column_of columns;
  key = if is_numbered columns then Some 0 else None;
  primary = if is_numbered columns then 0 ∷ [] else 1 ∷ 2 ∷ [];
  uniques = uniques_of unique;
  orders = orders_of unique;
  checks = checks_of (not (is_numbered columns));
  references = [];
  computed = [];
  stamps = unstamped;
  is_counted = false;
}

abbrev pub index_of : List ℕ → ℕ → ℕ → ℕ → ℕ → Index
index_of name tree table first second = record { name = name; tree = tree; table = table; columns = first ∷ second ∷ []; order = ascending; is_unique = true }

-- ---- the desk's

abbrev pub desk_tables : List Table
desk_tables = map (λ table. table_of table.0.now table.1 (map (λ column. (column.0.now, column.1)) table.2.now) table.3) TABLES

abbrev pub desk_indexes : List Index
desk_indexes = map (λ index. index_of index.0.now index.1 index.2 index.3 index.4) INDEXES

abbrev pub first_tables : List Table
first_tables = map (λ table. table_of table.0.now table.1 (map (λ column. (column.0.now, column.1)) table.2.now) table.3) FIRST_TABLES

abbrev pub first_indexes : List Index
first_indexes = map (λ index. index_of index.0.now index.1 index.2 index.3 index.4) FIRST_INDEXES

abbrev pub table_at : ℕ → Table
table_at place = slice_index_or desk_tables place (table_of [] 0 [] None)

abbrev pub balance_table : Table
balance_table = table_at 0

abbrev pub cash_table : Table
cash_table = table_at 1

abbrev pub total_table : Table
total_table = table_at 2

abbrev pub register_table : Table
register_table = table_at 3

abbrev pub state_table : Table
state_table = table_at 4

abbrev pub sent_table : Table
sent_table = table_at 5

abbrev pub version_table : Table
version_table = table_at 6

-- the tables of version 1
abbrev pub first_register_table : Table
first_register_table = slice_index_or first_tables 0 (table_of [] 0 [] None)

abbrev pub first_version_table : Table
first_version_table = slice_index_or first_tables 1 (table_of [] 0 [] None)

abbrev pub desk_schema : Schema
desk_schema = record { tables = desk_tables; indexes = desk_indexes; views = [] }

-- those of version 1
abbrev pub first_schema : Schema
first_schema = record { tables = first_tables; indexes = first_indexes; views = [] }

-- of a database in which no table was made
abbrev pub no_schema : Schema
no_schema = record { tables = []; indexes = []; views = [] }

-- How the tables are made, in a database that has none: one statement for each table, which makes the index of its key with it.
use Rattle.std.specs.Prelude.{◌≡◌, ℕ, ◌+◌, ◌^◌, List, [], length, Bool, true, false, not, IsTrue, codes, nat_le, nat_lt, take, Ok}
use Rattle.std.specs.List.{AllByRecursion, list_all}
use Rattle.sqlite.specs.declared.types.Value.TheVariants.{Text}
use Rattle.sqlite_catalog.specs.Change.{automatics, is_reserved, is_used, next_tree}
use Rattle.sqlite_catalog.specs.Listing.{is_fit, is_formed}
use Rattle.sqlite_schema.specs.Rules.{index_reals, table_reals}
use Rattle.sqlite.specs.Table.{Table}
use Rattle.sqlite.specs.Schema.{Schema}
use Rattle.sqlite_schema.specs.declared.command.Command.TheVariants.{CreateTable}
use Rattle.sqlite.specs.Effect.{Database}
use Rattle.sqlite.specs.Given.{IsPlain}
use Rattle.sqlite.specs.Listing.{understood}
use Rattle.sqlite.specs.State.{State, text_of}
use Rattle.sqlite.specs.Does.{lacks_sequence}
use Rattle.sqlite_resolve.specs.declared.compiled.Compiled.{Compiled}
use Rattle.sqlite.specs.Compile.{table_defined_by}
use Rattle.sqlite.specs.Change.{created}
use Rattle.sql_tables.specs.Schema.{desk_tables, desk_indexes}
use Rattle.sql_tables.specs.Statements.{command_in}

-- the first so many tables and indexes of keys
abbrev pub first_of : ℕ → ℕ → Schema
first_of tables indexes = record { tables = take tables desk_tables; indexes = take indexes desk_indexes; views = [] }

-- the text is the definition of a table, which comes last
pub record MakesTable (text : List ℕ) (before after : Schema) : Type 0 where
  pub table : Table
  pub defined : table_defined_by text ≡ Ok table
  pub makes : command_in (understood before text) ≡ CreateTable
  pub is : after ≡ created before table

abbrev pub is_ascii : List ℕ → Bool
is_ascii text = list_all (λ c. nat_lt c 128) text

-- what the text names is free, and of a form that a table may have
pub record IsFree (text : List ℕ) (before : Schema) : Type 0 where
  pub table : Table
  pub defined : table_defined_by text ≡ Ok table
  pub unused : is_used before table.name ≡ false
  pub unlisted : list_all (λ index. not (is_used before index.name)) (automatics table 0 0 table.uniques) ≡ true
  pub unreserved : is_reserved table.name ≡ false
  pub plain_name : is_ascii table.name ≡ true
  pub plain : is_ascii text ≡ true
  pub room : nat_lt (next_tree before + length table.uniques) 65536 ≡ true
  pub reals : nat_lt (table_reals table) (2 ^ 64) ≡ true
  pub index_reals : list_all (λ key. nat_lt (index_reals (table_reals table) key) (2 ^ 64)) table.uniques ≡ true
  pub formed : is_formed table ≡ true
  pub fits : is_fit (Text (codes "table")) (Text table.name) (Text table.name) (Text text) ≡ true

-- compiled against the tables before it, the text is one whole statement that makes what comes next, and nothing refuses it
pub record Makes (text : List ℕ) (before after : Schema) : Type 0 where
  pub compiled : Compiled
  pub understood_as : understood before text ≡ Ok compiled
  pub whole : text_of text compiled ≡ text
  pub ends : nat_le (length text) compiled.tail ≡ true
  pub unnamed : compiled.names ≡ []
  pub free : IsFree text before
  pub plain : IsPlain (understood before text)
  pub unsequenced : lacks_sequence after ≡ false
  pub made : MakesTable text before after

-- a database has these tables, and no row in any
pub record IsEmpty (schema : Schema) (db : Database) : Type 0 where
  pub schema_is : db.schema ≡ schema
  pub empty : AllByRecursion (λ table. db.trees table.tree ≡ []) schema.tables

-- within the transaction there are these tables, with no row
pub record HasMade (schema : Schema) (old new : State) : Type 0 where
  pub is_open : IsTrue new.is_open
  pub empty : IsEmpty schema new.now
  pub mode : new.in_transaction ≡ old.in_transaction
  pub marks : new.marks ≡ old.marks
  pub committed : IsTrue old.in_transaction → new.committed ≡ old.committed

-- nothing was committed, as far as an open connection shows
abbrev pub KeepsCommitted : State → State → Type 0
KeepsCommitted old new = IsTrue new.is_open → new.committed ≡ old.committed

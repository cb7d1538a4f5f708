-- What a version of the file has: its number, its tables, and the trees of the two tables that each has.
use Rattle.std.specs.Prelude.{ℕ, List, Some}
use Rattle.std.specs.List.{AllByRecursion}
use Rattle.sqlite.specs.Effect.{Database}
use Rattle.sqlite.specs.Schema.{Schema}
use Rattle.sqlite.specs.Table.{Table}
use Rattle.sqlite.specs.Tree.{Trees}
use Rattle.sql_tables.specs.Forms.{AreFormed}
use Rattle.sql_tables.specs.Schema.{desk_schema, first_schema}
use Rattle.sql_tables.specs.Version.{SayVersion}
use Rattle.sql_tables.specs.declared.versions.Version.{Version}
use Rattle.sql_tables.specs.declared.versions.Version.TheVariants.{First, Second, Third}

abbrev pub number_of_version : Version → ℕ
number_of_version First = 1
number_of_version Second = 2
number_of_version Third = 3

-- version 1 has two tables alone, of the same columns
abbrev pub schema_in : Version → Schema
schema_in First = first_schema
schema_in Second = desk_schema
schema_in Third = desk_schema

-- the tree of `register`
abbrev pub register_tree : Version → ℕ
register_tree First = 0
register_tree Second = 6
register_tree Third = 6

-- the tree of `version`
abbrev pub version_tree : Version → ℕ
version_tree First = 2
version_tree Second = 10
version_tree Third = 10

-- the table `version` says this version
abbrev pub SaysVersion : Version → Database → Type 0
SaysVersion version db = SayVersion (db.trees (version_tree version)) (Some (number_of_version version))

-- the rows of each table have its form, and no key comes twice
abbrev pub AreAllFormedIn : Version → Trees → Type 0
AreAllFormedIn version trees = AllByRecursion (λ (table : Table). AreFormed table (trees table.tree)) (schema_in version).tables

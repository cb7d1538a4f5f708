-- The columns that are told by their names.
use Rattle.std.specs.Prelude.{true, Bool, List, ℕ}
use Rattle.std.specs.Borrow.{Bor}
use Rattle.sqlite.specs.Collation.TheVariants.{Binary}
use Rattle.sqlite.specs.declared.types.Value.TheVariants.{Null}
use Rattle.sqlite.specs.Kind.{Kind}
use Rattle.sqlite_schema.specs.declared.schema.Column.{Column}
use Rattle.sql_tables.specs.Schema.{Outline}
use Rattle.sql_tables.specs.declared.tables.Holds.{Holds}

-- the outline of a column, as the code holds it
abbrev pub outline : Bor (List ℕ) × Holds → Outline
outline column = (column.0.now, column.1)

-- a column of a strict table, with no default
abbrev pub plain : List ℕ → Kind → Bool → Column
plain name kind not_null = record { name = name; kind = kind; is_strict = true; not_null = not_null; default = Null; collation = Binary }

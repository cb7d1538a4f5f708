-- The table of the version: one row, or none.
use Rattle.std.specs.Prelude.{◌≡◌, ℕ, pos, List, [], ◌∷◌, Option, None, Some}
use Rattle.sqlite_value.specs.Order.{Row}
use Rattle.sqlite.specs.declared.types.Value.TheVariants.{Int}
use Rattle.sqlite.specs.Effect.{Database}
use Rattle.sql_tables.specs.Ends.{SparesOthers}
use Rattle.sql_tables.specs.Rows.{IsBare}

-- the rows say this version, or none
abbrev pub SayVersion : List Row → Option ℕ → Type 0
SayVersion rows None = rows ≡ []
SayVersion rows (Some number) = (rest : Row) × IsBare rest × (rows ≡ (Int (pos number) ∷ rest) ∷ [])

-- the table says this version, or none
abbrev pub HasVersion : Database → Option ℕ → Type 0
HasVersion db number = SayVersion (db.trees 10) number

-- the table says a version, and no other has changed
pub record SetsVersion (old new : Database) (number : ℕ) : Type 0 where
  pub version : HasVersion new (Some number)
  pub others : SparesOthers 10 11 old new

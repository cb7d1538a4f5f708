-- What was found under a number, in a version of the file.
use Rattle.std.specs.Prelude.{◌≡◌, ⊤, ℕ, List, [], ◌∷◌}
use Rattle.sqlite.specs.Order.{Row}
use Rattle.desk_rules.specs.declared.answers.reply.Kept.{Kept}
use Rattle.desk_rules.specs.WellFormed.{IsWellFormed}
use Rattle.sql_entries.specs.declared.compared.Found.{Found}
use Rattle.sql_entries.specs.declared.compared.Found.TheVariants.{Entry}
use Rattle.sql_entries.specs.Entries.{values_in}
use Rattle.sql_entries.specs.Rows.{shown_kept}
use Rattle.sql_entries.specs.Told.{CanSay}
use Rattle.sql_tables.specs.ByNumber.{HasOne}
use Rattle.sql_tables.specs.declared.versions.Version.{Version}

-- the row of a number is that of a well-formed entry with its reply, which this version can say
pub record IsRowOf (version : Version) (rows : List Row) (number : ℕ) (kept : Kept) : Type 0 where
  pub row : HasOne rows number (values_in version kept.entry kept.reply)
  pub formed : IsWellFormed kept.entry
  pub said : CanSay version kept.entry

-- shown rows are the one of a well-formed entry with its reply
pub record IsShownRow (version : Version) (shown : List Row) (number : ℕ) (kept : Kept) : Type 0 where
  pub is : shown ≡ shown_kept version number kept ∷ []
  pub formed : IsWellFormed kept.entry
  pub said : CanSay version kept.entry

abbrev pub IsShownAs : Version → List Row → ℕ → Found → Type 0
IsShownAs version shown number (Entry kept) = IsShownRow version shown number kept
IsShownAs version shown number _ = ⊤

-- what is found is a well-formed entry, or none
abbrev pub IsFormed : Found → Type 0
IsFormed (Entry kept) = IsWellFormed kept.entry
IsFormed _ = ⊤

abbrev pub IsFound : Version → List Row → ℕ → Found → Type 0
IsFound version rows number (Entry kept) = IsRowOf version rows number kept
IsFound version rows number _ = ⊤

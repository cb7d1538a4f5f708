-- The register as it is read, in a version of the file.
use Rattle.std.specs.Prelude.{◌≡◌, ℕ, List, [], ◌∷◌, ◌++◌, length}
use Rattle.std.specs.List.{AllByRecursion}
use Rattle.sqlite.specs.Effect.{Database}
use Rattle.sqlite.specs.Order.{Row}
use Rattle.desk_rules.specs.declared.answers.reply.Kept.{Kept}
use Rattle.desk_rules.specs.Content.{Content, history_of}
use Rattle.desk_rules.specs.WellFormed.{AreWellFormed}
use Rattle.desk_engine.specs.KeptHistory.{HoldsKept}
use Rattle.sql_entries.specs.Entries.{AreEntriesIn}
use Rattle.sql_entries.specs.Told.{CanSay}
use Rattle.sql_tables.specs.declared.versions.Version.{Version}
use Rattle.sql_tables.specs.ByNumber.{HasEach}
use Rattle.sql_entries.specs.Found.{IsRowOf}
use Rattle.sql_entries.specs.Rows.{wanted}

-- what a register holds is an accepted history of well-formed entries
pub record HoldsFormed (limit : ℕ) (content : Content) : Type 0 where
  pub held : HoldsKept limit content.register content
  pub formed : AreWellFormed (history_of content)

-- a version of the file can say each entry of a list
abbrev pub AreSaid : Version → List Kept → Type 0
AreSaid version = AllByRecursion (λ kept. CanSay version kept.entry)

-- the table is the list that a register holds, an accepted history of well-formed entries
pub record IsReadIn (version : Version) (db : Database) (limit : ℕ) (content : Content) : Type 0 where
  pub entries : AreEntriesIn version db content.register
  pub said : AreSaid version content.register
  pub held : HoldsKept limit content.register content
  pub formed : AreWellFormed (history_of content)

-- so it is, and a register has it now as the last one
pub record TakesRow (version : Version) (rows : List Row) (number limit : ℕ) (old new : Content) : Type 0 where
  pub kept : Kept
  pub is : IsRowOf version rows number kept
  pub held : HoldsKept limit (old.register ++ kept ∷ []) new

-- the register holds so many first rows
pub record HoldsRows (version : Version) (rows : List Row) (count limit : ℕ) (content : Content) : Type 0 where
  pub held : HoldsKept limit content.register content
  pub each : HasEach (wanted version content.register) rows count
  pub said : AreSaid version content.register
  pub size : length content.register ≡ count
  pub formed : AreWellFormed (history_of content)

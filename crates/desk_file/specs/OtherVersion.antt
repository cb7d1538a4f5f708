-- A database that tells another version than this.
use Rattle.std.specs.Prelude.{◌≡◌, ◌≢◌, ℕ, ℤ, pos, List, [], ◌∷◌, codes}
use Rattle.sqlite.specs.Effect.{Database, IsDatabase}
use Rattle.sqlite.specs.Files.{file_state, AreFoundIn, HoldsDatabase}
use Rattle.sqlite.specs.State.{State, Shown}
use Rattle.sqlite.specs.declared.file.Leftover.{Leftover}
use Rattle.sqlite.specs.declared.types.Value.TheVariants.{Int}
use Rattle.sqlite_disk.specs.declared.Disk as disk
use Rattle.sqlite_trees.specs.Tree.{Trees}
use Rattle.sqlite_value.specs.Order.{Row, column}
use Rattle.sqlite_wal.specs.Recovery.{Image}

-- the text that asks which versions a table `version` says, of which two are enough
abbrev pub versions_text : List ℕ
versions_text = codes "SELECT number FROM version LIMIT 2"

-- what is shown is one row, which says a number
pub record SaysNumber (rows : List Row) (number : ℤ) : Type 0 where
  pub row : Row
  pub only : rows ≡ row ∷ []
  pub says : column row 0 ≡ Int number

-- a connection to this database that is asked for its versions shows a number
pub record TellsVersion {S : Type 0} (state : S → State) (db : Database) (number : ℤ) : Type 0 where
  pub asked : S
  pub over : (state asked).now ≡ db
  pub answered : S
  pub rows : List Row
  pub shown : Shown versions_text [] (state asked) (state answered) rows
  pub says : SaysNumber rows number

-- it tells another version than this
pub record SaysOther {S : Type 0} (state : S → State) (db : Database) : Type 0 where
  pub number : ℤ
  pub told : TellsVersion state db number
  pub other : number ≢ pos 3

-- the same of the database that was found in files, of which this is left
pub record SaysOtherIn {D : Type 0} {g : disk.Ghosts D} (image : Image) (left : Leftover D g) : Type 0 where
  pub db : Database
  pub is : IsDatabase db
  pub reads : AreFoundIn image db.trees
  pub only : (trees : Trees) → HoldsDatabase image trees → db.trees ≡ trees
  pub says : SaysOther (file_state {g = g}) db

-- What a file of an earlier version holds.
use Rattle.std.specs.Prelude.{◌≡◌, ◌≢◌, ℕ, ℤ, pos, List}
use Rattle.sqlite.specs.Effect.{Database, IsDatabase}
use Rattle.sqlite.specs.Files.{file_state, AreFoundIn, HoldsDatabase}
use Rattle.sqlite.specs.State.{State}
use Rattle.sqlite.specs.declared.file.Leftover.{Leftover}
use Rattle.sqlite_disk.specs.declared.Disk as disk
use Rattle.sqlite_trees.specs.Tree.{Trees}
use Rattle.sqlite_wal.specs.Recovery.{Image}
use Rattle.desk_rules.specs.declared.history.entry.Entry.{Entry}
use Rattle.desk_rules.specs.declared.limits.TheConstants.{MOST_ENTRIES}
use Rattle.desk_rules.specs.Content.{Content, history_of}
use Rattle.desk_rules.specs.Verdict.{WasAccepted}
use Rattle.desk_rules.specs.WellFormed.{AreWellFormed}
use Rattle.sql_tables.specs.declared.versions.Version.{Version}
use Rattle.sql_tables.specs.declared.versions.Version.TheVariants.{Third}
use Rattle.desk_file.specs.Audited.{HoldsVersion}
use Rattle.desk_file.specs.OtherVersion.{TellsVersion}

-- the database is of version 1 or 2, and holds an accepted history of well-formed entries that comes to this content
pub record HoldsOld (db : Database) (content : Content) : Type 0 where
  pub version : Version
  pub earlier : version ≢ Third
  pub holds : HoldsVersion version db MOST_ENTRIES content

-- so it is one of some content
abbrev pub IsOld : Database → Type 0
IsOld db = (content : Content) × HoldsOld db content

-- it holds these entries
pub record HoldsEntries (db : Database) (entries : List Entry) : Type 0 where
  pub content : Content
  pub holds : HoldsOld db content
  pub entries_are : history_of content ≡ entries

-- each was accepted in its turn, and is well formed
pub record AreHistory (entries : List Entry) : Type 0 where
  pub accepted : WasAccepted MOST_ENTRIES entries
  pub formed : AreWellFormed entries

-- a number that is none of these versions
pub record IsNeither (number : ℤ) : Type 0 where
  pub first : number ≢ pos 1
  pub second : number ≢ pos 2

-- the database tells such a version
pub record SaysNeither {S : Type 0} (state : S → State) (db : Database) : Type 0 where
  pub number : ℤ
  pub told : TellsVersion state db number
  pub neither : IsNeither number

-- ---- the same of files

-- the two files hold a database that is one of an earlier version
abbrev pub IsOldIn : Image → Type 0
IsOldIn image = (db : Database) × IsDatabase db × HoldsDatabase image db.trees × IsOld db

-- what was found in them holds these entries, and they hold no other database
pub record HoldsEntriesIn (image : Image) (entries : List Entry) : Type 0 where
  pub db : Database
  pub is : IsDatabase db
  pub reads : AreFoundIn image db.trees
  pub only : (trees : Trees) → HoldsDatabase image trees → db.trees ≡ trees
  pub holds : HoldsEntries db entries

pub record SaysNeitherIn {D : Type 0} {g : disk.Ghosts D} (image : Image) (left : Leftover D g) : Type 0 where
  pub db : Database
  pub is : IsDatabase db
  pub reads : AreFoundIn image db.trees
  pub only : (trees : Trees) → HoldsDatabase image trees → db.trees ≡ trees
  pub says : SaysNeither (file_state {g = g}) db

-- What a migration answers, and what it reads and leaves.
use Rattle.std.specs.Prelude.{◌≡◌, ◌⊎◌, ℕ, List, ◌++◌, Result, IsOkAnd, codes, decimal}
use Rattle.sqlite.specs.Files.{IsCleanLeft}
use Rattle.sqlite.specs.State.{State}
use Rattle.sqlite.specs.declared.file.Leftover.TheVariants as left
use Rattle.sqlite_disk.specs.declared.Disk.{Ghosts}
use Rattle.sqlite_disk.specs.declared.Files.{Files}
use Rattle.sqlite_store.specs.declared.store.FileStore.{FileStore}
use Rattle.sqlite_wal.specs.Recovery.{Image}
use Rattle.desk_rules.specs.Books.{Books}
use Rattle.desk_rules.specs.declared.history.entry.Entry.{Entry}
use Rattle.desk_file.specs.Left.{LeavesIn}
use Rattle.desk_old.specs.Old.{AreHistory, HoldsEntriesIn}
use Rattle.desk.specs.Left.{FilesSay, TablesSay}
use Rattle.desk.specs.Status.{IsUnopened}
use Rattle.desk.specs.declared.answers.migrate.Migrated.{Migrated}
use Rattle.desk.specs.declared.status.Status.{Status}
use Rattle.desk.specs.declared.status.Status.TheVariants.{Done}

-- the line that tells how many entries were brought over
abbrev pub migrated_line : ℕ → List ℕ
migrated_line count = codes "migrated " ++ decimal count ++ codes "\n"

-- It is done, and told of how many entries; or it is a fault, of one of the two files, which is told alone.
abbrev pub IsMigrateAnswer : Status → (List ℕ → Type 0) → Type 0
IsMigrateAnswer status IsPrinted = ((status ≡ Done) × (count : ℕ) × IsPrinted (migrated_line count)) ⊎ IsUnopened status IsPrinted

-- what is committed says the books of just these entries
pub record SayHistory (s : State) (entries : List Entry) : Type 0 where
  pub books : Books
  pub history : books.history ≡ entries
  pub says : TablesSay s books

-- and so do files by themselves, which were closed
pub record HoldHistory {D : Type 0} {g : Ghosts D} (files : Result (Files D) (FileStore D g)) (entries : List Entry) : Type 0 where
  pub books : Books
  pub history : books.history ≡ entries
  pub says : IsOkAnd files (λ closed. FilesSay g closed books)

-- The entries are those that the files held, and these hold still what they held, where no wrong answer of the device was taken as
-- true.
pub record IsRead {D : Type 0} {g : Ghosts D} (image : Image) (entries : List Entry) (read : FileStore D g) : Type 0 where
  pub which : IsCleanLeft (left.Store read) → HoldsEntriesIn image entries
  pub kept : IsCleanLeft (left.Store read) → LeavesIn image (left.Store read)

-- A history was brought over: files that held this image held its entries, and of just these is what was made.
pub record IsMigrated {A B : Type 0} {f : Ghosts A} {g : Ghosts B} (image : Image) (it : Migrated A B f g) : Type 0 where
  pub accepted : AreHistory it.entries.items
  pub read : IsRead image it.entries.items it.read
  pub made : HoldHistory it.made.files it.entries.items

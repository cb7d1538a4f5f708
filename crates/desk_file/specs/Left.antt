-- What is left of files that were not opened.
use Rattle.std.specs.Prelude.{◌≡◌, ◌⊎◌, ◌<◌, ℕ, IsTrue}
use Rattle.sqlite.specs.Files.{faults_left, image_of, tally_left, AreFoundIn, FailsToOpenFiles, HoldsDatabase, IsCleanLeft, IsFullLeft, LeavesFiles}
use Rattle.sqlite.specs.declared.error.Error.{Error}
use Rattle.sqlite.specs.declared.file.Leftover.{Leftover}
use Rattle.sqlite.specs.declared.file.Leftover.TheVariants as left
use Rattle.sqlite_disk.specs.declared.Disk as disk
use Rattle.sqlite_disk.specs.declared.Files.{Files}
use Rattle.sqlite_store.specs.FileStore.{recovers, view}
use Rattle.sqlite_trees.specs.Tree.{Trees}
use Rattle.sqlite_wal.specs.Files.{outcomes}
use Rattle.sqlite_wal.specs.Reads.{tally_of_files}
use Rattle.sqlite_wal.specs.Recovery.{Image}

-- Two files as they were opened: they hold this, a crash would leave no other, and no read of them has failed its test.
pub record AreNew {D : Type 0} (g : disk.Ghosts D) (image : Image) (files : Files D) : Type 0 where
  pub holds : image_of g files ≡ image
  pub only : (later : Image) → outcomes g files.log files.db later → later ≡ image
  pub uncaught : (tally_of_files g (files.log, files.db)).caught ≡ 0

module _ {D : Type 0} {g : disk.Ghosts D} where
  -- files that held this could not be opened, for this error, which left this of them
  pub record IsUnopened (image : Image) (error : Error) (left : Leftover D g) : Type 0 where
    pub files : Files D
    pub opened : AreNew g image files
    pub ends : IsCleanLeft left → FailsToOpenFiles files left error × LeavesFiles files left

  -- What held this image holds it still: a store that is open leaves the database that was found there, also in a crash, and no other.
  -- Files that became no store are left as the library leaves such.
  abbrev pub LeavesIn : Image → Leftover D g → Type 0
  LeavesIn image (left.Store now) =
      IsTrue (view now).is_open → (found : Trees) → recovers now found → AreFoundIn image found × ((db : Trees) → HoldsDatabase image db → found ≡ db)
  LeavesIn image (left.Files now) = (files : Files D) × AreNew g image files × LeavesFiles {g = g} files (left.Files now)
  LeavesIn image (left.Unopened now) = (files : Files D) × AreNew g image files × LeavesFiles {g = g} files (left.Unopened now)

  -- the device failed: a call of it did, or a read failed its test; or a file is as long as one can be
  abbrev pub HasFailed : Leftover D g → Type 0
  HasFailed left = (0 < faults_left left) ⊎ ((0 < (tally_left left).caught) ⊎ IsFullLeft left)

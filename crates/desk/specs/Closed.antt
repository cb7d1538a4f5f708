-- The files of a desk that was closed.
use Rattle.sqlite.specs.Closing.{IsCopied}
use Rattle.sqlite.specs.Held.{Held}
use Rattle.sqlite_disk.specs.declared.Disk.{Ghosts}
use Rattle.sqlite_disk.specs.declared.Files.{Files}
use Rattle.sqlite_store.specs.declared.store.FileStore.{FileStore}
use Rattle.sqlite_wal.specs.Reads.{AreClean}

-- Where no wrong answer of the device was taken as true, the file holds by itself what was committed, whatever a crash leaves.
abbrev pub AreClosed : {D : Type 0} {g : Ghosts D} → Held (FileStore D g) → Files D → Type 0
AreClosed {D} {g} connection files = AreClean g files.log files.db → IsCopied connection files

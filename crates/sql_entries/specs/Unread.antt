-- Why a row is not read.
use Rattle.std.specs.Prelude.{◌≡◌, ◌⊎◌}
use Rattle.sqlite.specs.declared.error.Error.{Error}
use Rattle.sqlite.specs.declared.error.Error.TheVariants.{SqliteFailure}
use Rattle.sqlite.specs.declared.error.ErrorCode.TheVariants.{OutOfMemory}
use Rattle.sql_tables.specs.Ends.{IsCorrupt}

-- it says nothing of the desk's, or memory is wanting
abbrev pub IsUnread : Error → Type 0
IsUnread error = IsCorrupt error ⊎ (error ≡ SqliteFailure OutOfMemory)

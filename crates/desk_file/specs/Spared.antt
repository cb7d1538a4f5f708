-- What a call leaves that may fail.
use Rattle.std.specs.Prelude.{IsTrue}
use Rattle.sqlite.specs.State.{State, HasCleanDisk}
use Rattle.sql_tables.specs.Ends.{IsLater}
use Rattle.sql_tables.specs.Making.{KeepsCommitted}

-- The last commit stays as it was, as far as a connection that is open shows; none that was shut is opened.
pub record Spares (old new : State) : Type 0 where
  pub later : IsLater old new
  pub opened : HasCleanDisk new → IsTrue new.is_open → IsTrue old.is_open
  pub kept : HasCleanDisk new → KeepsCommitted old new

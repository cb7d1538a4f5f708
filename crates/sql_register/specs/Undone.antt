-- The transaction is taken back.
use Rattle.std.specs.Prelude.{◌≡◌, [], false, IsTrue}
use Rattle.sqlite.specs.State.{State}
use Rattle.sql_tables.specs.Schema.{desk_schema}

-- what was committed is seen again, by a connection that is open and in no transaction
pub record IsTakenBack (old new : State) : Type 0 where
  pub was_open : IsTrue old.is_open
  pub is_open : IsTrue new.is_open
  pub now : new.now ≡ old.committed
  pub committed : new.committed ≡ old.committed
  pub mode : new.in_transaction ≡ false
  pub marks : new.marks ≡ []

-- it could not be taken back: what was committed is kept
pub record IsNotTakenBack (old new : State) : Type 0 where
  pub committed : new.committed ≡ old.committed
  pub schema : new.now.schema ≡ desk_schema
  pub outside : new.in_transaction ≡ false → new.marks ≡ []

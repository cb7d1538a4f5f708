-- What is made in a database with no table.
use Rattle.std.specs.Prelude.{◌≡◌, [], false, IsTrue}
use Rattle.sqlite.specs.State.{State}
use Rattle.desk_register.specs.Changes.{empty_content}
use Rattle.sql_register.specs.Holds.{Becomes}

-- the desk's tables are there and committed, and say nothing
pub record IsMade (s : State) : Type 0 where
  pub is_open : IsTrue s.is_open
  pub settled : s.now ≡ s.committed
  pub empty : Becomes s.now empty_content
  pub mode : s.in_transaction ≡ false
  pub marks : s.marks ≡ []

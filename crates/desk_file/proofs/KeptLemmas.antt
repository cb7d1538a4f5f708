-- A look at the tables commits nothing.
use Rattle.std.proofs.Common.{◌≡◌, inl, inr, IsTrue, Result, Ok, Err}
use Rattle.sqlite.specs.State.{State, HasCleanDisk}
use Rattle.sqlite.specs.declared.error.Error.{Error}
use Rattle.sql_tables.specs.Ends.{IsLookIn}
use Rattle.sql_tables.specs.Making.{KeepsCommitted}
use Rattle.sqlite.specs.Schema.{Schema}

pub kept_by : {schema : Schema} {X : Type 0} (r : Result X Error) (a b : State) → IsLookIn schema r a b → HasCleanDisk b → IsTrue a.is_open → a.now.schema ≡ schema → KeepsCommitted a b
kept_by (Ok x) a b look clean is_open has = λ now. (look.ok clean is_open has).committed
kept_by (Err e) a b look clean is_open has = λ now. elim (look.err clean is_open has) [ inl same ↦ same.committed | inr undone ↦ undone.committed now ]

use Rattle.std.proofs.Common.{◌≡◌, ℕ, ◌<◌, get_or}
use Rattle.sqlite.specs.Values.{bound_value}
use Rattle.sqlite_value.specs.declared.value.ValueRef.{ValueRef}
use Rattle.sqlite_value.specs.Value.{owned}
use Rattle.sqlite_value.specs.Order.{column}
use Rattle.sql_tables.proofs.compared.same_row.Given as goal

-- each value so far is the one that was given
abbrev pub invariant-loop-at : goal.invariant-loop-at
invariant-loop-at l = (k : ℕ) (d : ValueRef) → k < l.at → column l.row k ≡ bound_value (owned (get_or l.given k d))

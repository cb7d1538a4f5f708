use Rattle.std.proofs.Common.{◌≡◌, true}
use Rattle.std.specs.BTreeSet.{btree_set_len}
use Rattle.memory_rows.specs.RowsView.{view_of_rows}
use Rattle.memory_short.specs.Shortages.{KnowsShort}
use Rattle.memory_short.proofs.shortages.Shortages.take_up.Given as goal

abbrev pub invariant-loop-want : goal.invariant-loop-want
invariant-loop-want l = record { known : l.self.is_known ≡ true; knows : KnowsShort l.self (view_of_rows l.held).content }

abbrev pub decreases-loop-want : goal.decreases-loop-want
decreases-loop-want l = btree_set_len l.self.brought

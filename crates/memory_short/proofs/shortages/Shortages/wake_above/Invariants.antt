use Rattle.std.proofs.Common.{◌≡◌, true}
use Rattle.memory_short.specs.Wants.{how_many}
use Rattle.memory_rows.specs.RowsView.{view_of_rows}
use Rattle.memory_short.specs.Shortages.{KnowsShort}
use Rattle.memory_short.proofs.shortages.Shortages.wake_above.Given as goal

abbrev pub invariant-loop-amount : goal.invariant-loop-amount
invariant-loop-amount l = record {
  known : l.self.is_known ≡ true;
  knows : KnowsShort l.self (view_of_rows l.held).content;
  brought : l.self.brought ≡ l.fn.self.brought;
}

abbrev pub decreases-loop-amount : goal.decreases-loop-amount
decreases-loop-amount l = how_many l.self.waits l.want

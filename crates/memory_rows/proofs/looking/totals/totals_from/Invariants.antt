use Rattle.std.proofs.Common.{◌≤◌, length}
use Rattle.memory_rows.specs.Lists.{listed}
use Rattle.memory_rows.specs.Walk.{AreOutstanding, AreRecorded}
use Rattle.memory_rows.proofs.looking.totals.totals_from.Given as goal

abbrev pub invariant-loop-key : goal.invariant-loop-key
invariant-loop-key l = record {
  within : l.count ≤ length l.rows;
  rows : AreOutstanding (listed l.lists) l.rows l.count;
  amounts : AreRecorded (listed l.lists).balances l.key-iterator;
}

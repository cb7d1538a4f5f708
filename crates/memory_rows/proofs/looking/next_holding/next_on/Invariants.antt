use Rattle.std.proofs.Common.{length}
use Rattle.memory_rows.specs.Lists.{Listed}
use Rattle.memory_rows.specs.Walk.{Walks}
use Rattle.memory_rows.proofs.looking.next_holding.next_on.Given as goal

abbrev pub invariant-loop-key : goal.invariant-loop-key
invariant-loop-key l = (m : Listed) → Walks m l.account l.above l.initial.walk → Walks m l.account l.above l.walk

abbrev pub decreases-loop-key : goal.decreases-loop-key
decreases-loop-key l = length l.walk

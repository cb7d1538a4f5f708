use Rattle.std.proofs.Common.{length}
use Rattle.desk_book.proofs.OneReading.{IsCountedTo}
use Rattle.desk_book.proofs.requests.script.item_count.Given as goal

abbrev pub invariant-loop-after : goal.invariant-loop-after
invariant-loop-after l = IsCountedTo l.script l.rest l.count

abbrev pub decreases-loop-after : goal.decreases-loop-after
decreases-loop-after l = length l.rest

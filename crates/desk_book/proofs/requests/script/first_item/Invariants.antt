use Rattle.std.proofs.Common.{length}
use Rattle.desk_book.proofs.ScriptLemmas.{IsSkippedTo}
use Rattle.desk_book.proofs.requests.script.first_item.Given as goal

abbrev pub invariant-loop-line : goal.invariant-loop-line
invariant-loop-line l = IsSkippedTo l.script l.rest

abbrev pub decreases-loop-line : goal.decreases-loop-line
decreases-loop-line l = length l.rest

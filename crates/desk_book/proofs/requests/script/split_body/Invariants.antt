use Rattle.std.proofs.Common.{length}
use Rattle.desk_book.proofs.ScriptLemmas.{IsReadTo}
use Rattle.desk_book.proofs.requests.script.split_body.Given as goal

abbrev pub invariant-loop-front : goal.invariant-loop-front
invariant-loop-front l = IsReadTo l.text l.rest

abbrev pub decreases-loop-front : goal.decreases-loop-front
decreases-loop-front l = length l.rest

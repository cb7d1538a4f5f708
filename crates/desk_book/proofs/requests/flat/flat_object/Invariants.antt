use Rattle.desk_book.proofs.FlatLemmas.{Begun}
use Rattle.desk_book.proofs.requests.flat.flat_object.Given as goal

-- the members so far stand before what is left, each with its comma
abbrev pub invariant-loop : goal.invariant-loop
invariant-loop l = Begun l.flat.members.items l.bytes l.rest

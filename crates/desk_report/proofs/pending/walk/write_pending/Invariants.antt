use Rattle.desk_report.proofs.PendingWalkLemmas.{Listing}
use Rattle.desk_report.proofs.pending.walk.write_pending.Given as goal

abbrev pub invariant-pairs : goal.invariant-pairs
invariant-pairs g l =
    Listing (g.R.Register.view l.fn.register) (g.R.Register.view l.register) l.format l.count l.last l._told (g.W.Write.contents l.fn.writer) (g.W.Write.contents l.writer)

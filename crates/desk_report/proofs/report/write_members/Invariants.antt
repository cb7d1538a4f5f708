use Rattle.desk_report.proofs.PartLemmas.{Writing}
use Rattle.desk_report.proofs.report.write_members.Given as goal

abbrev pub invariant-parts : goal.invariant-parts
invariant-parts g l =
    Writing l.parts (g.R.Register.view l.fn.register) (g.R.Register.view l.register) l.index l.is_later (g.W.Write.contents l.fn.writer) (g.W.Write.contents l.writer)

use Rattle.desk_report.proofs.FirstLemmas.{Noting}
use Rattle.desk_report.proofs.unmatched.first_numbers.note_first.Given as goal

abbrev pub invariant-numbers : goal.invariant-numbers
invariant-numbers g l = Noting (g.R.Register.view l.fn.register) (g.R.Register.view l.register) l.before l.numbers

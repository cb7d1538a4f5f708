use Rattle.desk_journal.proofs.SettledLemmas.{Noting}
use Rattle.desk_journal.proofs.sending.note_all_settled.Given as goal

abbrev pub invariant-numbers : goal.invariant-numbers
invariant-numbers g l = Noting (g.R.Register.view l.fn.register) (g.R.Register.view l.register) l.before l.fn.notices.items l.notices.items

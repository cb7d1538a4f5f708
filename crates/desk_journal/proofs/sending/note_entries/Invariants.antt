use Rattle.desk_journal.proofs.NotingLemmas.{Noting}
use Rattle.desk_journal.proofs.sending.note_entries.Given as goal

abbrev pub invariant-numbers : goal.invariant-numbers
invariant-numbers g l = Noting (g.R.Register.view l.fn.register) (g.R.Register.view l.register) l.before l.notices.items l.ends.items

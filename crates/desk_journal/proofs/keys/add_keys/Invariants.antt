use Rattle.desk_journal.proofs.KeyLemmas.{Keying}
use Rattle.desk_journal.proofs.keys.add_keys.Given as goal

abbrev pub invariant-notices : goal.invariant-notices
invariant-notices g l = Keying (g.R.Register.view l.fn.register) (g.R.Register.view l.register) l.index l.notices l.counts l.keys.items

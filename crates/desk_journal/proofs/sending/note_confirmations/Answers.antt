use Rattle.std.proofs.Common.{rules}
use Rattle.desk_journal.proofs.NotingLemmas.{two_more}
use Rattle.desk_journal.proofs.sending.note_confirmations.Goals as goal

pub pairs-preserved : goal.pairs-preserved
pairs-preserved c = search (rules, two_more)

use Rattle.desk.proofs.RunLemmas.{ended}
use Rattle.desk.proofs.run.tell_no_words.Goals as goal

pub returns : goal.returns
returns g c = rw c.unwrap_or.ensures (rw c.kind.ensures at (ended c.write_no_words.result _ _ c.write_no_words.ensures.told c.write_no_words.ensures.failed))

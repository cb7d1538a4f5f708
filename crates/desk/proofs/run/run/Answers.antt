use Rattle.desk.proofs.RunLemmas.{ended}
use Rattle.desk.proofs.run.run.Goals as goal

pub returns-clause-asked : goal.returns-clause-asked
returns-clause-asked g c = λ program asked right are. rw c.unwrap_or.ensures (ended c.answer_words.result _ _ (c.answer_words.ensures.asked program asked right are) c.answer_words.ensures.failed)

pub returns-clause-nothing : goal.returns-clause-nothing
returns-clause-nothing g c = λ program are. rw c.unwrap_or.ensures (ended c.answer_words.result _ _ (c.answer_words.ensures.nothing program are) c.answer_words.ensures.failed)

pub returns-clause-told : goal.returns-clause-told
returns-clause-told g c = rw c.unwrap_or.ensures (ended c.answer_words.result _ _ c.answer_words.ensures.told c.answer_words.ensures.failed)

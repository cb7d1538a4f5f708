use Rattle.desk_drop.proofs.NameLemmas.{one_question}
use Rattle.desk_drop.proofs.laws.one_question.Goals as goal

pub returns : goal.returns
returns c = one_question

use Rattle.std.proofs.Common.{refl}
use Rattle.desk.proofs.CheckLemmas.{played}
use Rattle.desk.proofs.answers.check.answers_to.Goals as goal

pub returns-in-Ok-Done : goal.returns-in-Ok-Done
returns-in-Ok-Done c = λ books keeps. played books _ _ _ _ _ _ _ refl c.new-answers.ensures.items c.in-Ok-Done.field-0-is (c.in-Ok-Done.ensures.told books keeps)

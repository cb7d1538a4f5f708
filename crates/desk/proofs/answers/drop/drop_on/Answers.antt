use Rattle.std.proofs.Common.{refl}
use Rattle.desk.proofs.DropLemmas.{untouched_some}
use Rattle.desk.proofs.answers.drop.drop_on.Goals as goal

pub returns-in-Err-clause-left : goal.returns-in-Err-clause-left
returns-in-Err-clause-left g c = λ books honest holds. untouched_some g.D.Register.view c.args.desk.now c.args.desk.now books c.requires holds refl

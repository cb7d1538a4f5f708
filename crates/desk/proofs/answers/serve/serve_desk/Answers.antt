use Rattle.std.proofs.Common.{inl, inr, refl}
use Rattle.desk.specs.declared.status.Failure.TheVariants.{Input, Memory}
use Rattle.desk.proofs.ServeLemmas.{nobody_there, untouched}
use Rattle.desk.proofs.answers.serve.serve_desk.Goals as goal

pub returns-in_default-clause-keeps : goal.returns-in_default-clause-keeps
returns-in_default-clause-keeps g c = λ honest. untouched c.args.desk.now.is_closed (g.D.Register.view c.args.desk.now.register)

pub returns-in_default-clause-told : goal.returns-in_default-clause-told
returns-in_default-clause-told g c = nobody_there c.tell_failure.result Memory c.args.port _ (inl refl) c.tell_failure.ensures.told

pub returns-in_default-bound-clause-told : goal.returns-in_default-bound-clause-told
returns-in_default-bound-clause-told g c = nobody_there c.tell_failure-in_default-bound.result Input c.args.port _ (inr refl) c.tell_failure-in_default-bound.ensures.told

pub returns-in_default-bound-clause-keeps : goal.returns-in_default-bound-clause-keeps
returns-in_default-bound-clause-keeps g c = λ honest. untouched c.args.desk.now.is_closed (g.D.Register.view c.args.desk.now.register)

pub returns-in_err-tell_port-clause-keeps : goal.returns-in_err-tell_port-clause-keeps
returns-in_err-tell_port-clause-keeps g c = λ honest. untouched c.args.desk.now.is_closed (g.D.Register.view c.args.desk.now.register)

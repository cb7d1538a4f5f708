use Rattle.desk_engine.proofs.DecisionLemmas.{within_limit}
use Rattle.desk_engine.proofs.checks.is_over_limit.Goals as goal

pub returns-in-None : goal.returns-in-None
returns-in-None c = λ history is. within_limit history c.args.payment.now c.args.payment.now.within (rw c.in-None.is at is)

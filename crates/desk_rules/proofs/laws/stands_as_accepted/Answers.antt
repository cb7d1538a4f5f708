use Rattle.desk_rules.proofs.StandsAccepted.{instruction_stands, cancellation_stands}
use Rattle.desk_rules.proofs.laws.stands_as_accepted.Goals as goal

pub returns-clause-instruction : goal.returns-clause-instruction
returns-clause-instruction c = instruction_stands

pub returns-clause-cancellation : goal.returns-clause-cancellation
returns-clause-cancellation c = cancellation_stands

use Rattle.desk_rules.proofs.FinalStates as laws
use Rattle.desk_rules.proofs.laws.cancelled_for_good.Goals as goal

pub returns-clause-cancelled : goal.returns-clause-cancelled
returns-clause-cancelled c = laws.cancelled_for_good

pub returns-clause-settled : goal.returns-clause-settled
returns-clause-settled c = laws.settled_for_good

pub returns-clause-told : goal.returns-clause-told
returns-clause-told c = laws.cancelled_state

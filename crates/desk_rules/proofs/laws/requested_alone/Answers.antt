use Rattle.desk_rules.proofs.AskedAlone as laws
use Rattle.desk_rules.proofs.laws.requested_alone.Goals as goal

pub returns-clause-one_side : goal.returns-clause-one_side
returns-clause-one_side c = laws.one_side

pub returns-clause-called_off : goal.returns-clause-called_off
returns-clause-called_off c = laws.asked_alone

use Rattle.desk_rules.proofs.ConfirmedChanges.{confirmed, one_list}
use Rattle.desk_rules.proofs.laws.confirmed_changes.Goals as goal

pub returns-clause-confirmed : goal.returns-clause-confirmed
returns-clause-confirmed c = confirmed

pub returns-clause-one : goal.returns-clause-one
returns-clause-one c = one_list

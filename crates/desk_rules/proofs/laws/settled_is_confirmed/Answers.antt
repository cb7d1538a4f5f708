use Rattle.desk_rules.proofs.SettledConfirmed as laws
use Rattle.desk_rules.proofs.laws.settled_is_confirmed.Goals as goal

pub returns : goal.returns
returns c = laws.settled_is_confirmed

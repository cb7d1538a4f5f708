use Rattle.desk_rules.proofs.PairingLaws.{settled_once}
use Rattle.desk_rules.proofs.laws.settles_once.Goals as goal

pub returns : goal.returns
returns c = settled_once

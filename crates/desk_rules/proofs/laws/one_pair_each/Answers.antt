use Rattle.desk_rules.proofs.PairingLaws.{one_pair_of}
use Rattle.desk_rules.proofs.laws.one_pair_each.Goals as goal

pub returns : goal.returns
returns c = one_pair_of

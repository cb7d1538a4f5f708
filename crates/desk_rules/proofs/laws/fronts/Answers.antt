use Rattle.desk_rules.proofs.PairingLaws.{pairs_front, settled_front}
use Rattle.desk_rules.proofs.laws.fronts.Goals as goal

pub returns : goal.returns
returns c = record { pairs = pairs_front; settled = settled_front }

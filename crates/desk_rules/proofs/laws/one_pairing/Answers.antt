use Rattle.desk_rules.proofs.PairingLaws.{pairing_exists}
use Rattle.desk_rules.proofs.PairingLemmas.{one_pairing}
use Rattle.desk_rules.proofs.laws.one_pairing.Goals as goal

pub returns : goal.returns
returns c = record { exists = pairing_exists; unique = one_pairing }

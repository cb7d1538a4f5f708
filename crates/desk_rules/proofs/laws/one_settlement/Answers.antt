use Rattle.desk_rules.proofs.PairingLaws.{settlement_exists, settlement_unique}
use Rattle.desk_rules.proofs.laws.one_settlement.Goals as goal

pub returns : goal.returns
returns c = record { exists = settlement_exists; unique = settlement_unique }

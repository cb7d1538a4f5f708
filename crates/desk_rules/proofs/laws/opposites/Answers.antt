use Rattle.desk_rules.proofs.PairingLaws.{opposite_back, never_own}
use Rattle.desk_rules.proofs.laws.opposites.Goals as goal

pub returns : goal.returns
returns c = record { symmetric = opposite_back; never_own = never_own }

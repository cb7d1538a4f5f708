use Rattle.desk_rules.proofs.Accepted.{accepted_front}
use Rattle.desk_rules.proofs.laws.accepted_fronts.Goals as goal

pub returns : goal.returns
returns c = accepted_front

use Rattle.desk_rules.proofs.KnownNumbers.{known_reply, one_meaning}
use Rattle.desk_rules.proofs.laws.known_numbers.Goals as goal

pub returns-clause-replies : goal.returns-clause-replies
returns-clause-replies c = known_reply

pub returns-clause-one_meaning : goal.returns-clause-one_meaning
returns-clause-one_meaning c = one_meaning

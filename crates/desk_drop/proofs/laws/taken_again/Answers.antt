use Rattle.desk_drop.proofs.AgainLemmas.{taken_twice}
use Rattle.desk_drop.proofs.laws.taken_again.Goals as goal

pub returns : goal.returns
returns c = taken_twice

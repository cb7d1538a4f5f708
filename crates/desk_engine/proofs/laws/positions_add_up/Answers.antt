use Rattle.desk_engine.proofs.HeldLemmas.{held_adds_up, held_within}
use Rattle.desk_engine.proofs.laws.positions_add_up.Goals as goal

pub returns-clause-all : goal.returns-clause-all
returns-clause-all c = held_adds_up

pub returns-clause-within : goal.returns-clause-within
returns-clause-within c = held_within

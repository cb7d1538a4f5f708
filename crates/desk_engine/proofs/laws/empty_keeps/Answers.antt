use Rattle.desk_engine.proofs.HeldLemmas as held
use Rattle.desk_engine.proofs.laws.empty_keeps.Goals as goal

pub returns : goal.returns
returns c = held.empty_keeps

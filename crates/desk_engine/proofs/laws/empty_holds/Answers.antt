use Rattle.desk_engine.proofs.KeptHistoryLemmas.{holds_none}
use Rattle.desk_engine.proofs.laws.empty_holds.Goals as goal

pub returns : goal.returns
returns c = holds_none

use Rattle.desk_engine.proofs.KeptHistoryLemmas.{front}
use Rattle.desk_engine.proofs.laws.kept_fronts.Goals as goal

pub returns : goal.returns
returns c = front

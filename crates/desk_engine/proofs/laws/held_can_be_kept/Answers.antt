use Rattle.desk_engine.proofs.KeptHistoryLemmas.{can_held}
use Rattle.desk_engine.proofs.laws.held_can_be_kept.Goals as goal

pub returns : goal.returns
returns c = can_held

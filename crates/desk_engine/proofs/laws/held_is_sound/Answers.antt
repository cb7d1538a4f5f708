use Rattle.desk_engine.proofs.KeptHistoryLemmas.{sound_held}
use Rattle.desk_engine.proofs.laws.held_is_sound.Goals as goal

pub returns : goal.returns
returns c = sound_held

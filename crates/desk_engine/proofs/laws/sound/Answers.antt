use Rattle.desk_engine.proofs.SoundLemmas.{kept_is_sound}
use Rattle.desk_engine.proofs.laws.sound.Goals as goal

pub returns : goal.returns
returns c = kept_is_sound

use Rattle.memory_rows.specs.Lists.{listed}
use Rattle.memory_rows.proofs.SoundLemmas.{sound_stood}
use Rattle.memory_rows.proofs.rows.Rows.cancel_pair.Goals as goal

pub cancel_both-requires : goal.cancel_both-requires
cancel_both-requires c = c.requires.fits

pub invariant_of-self-clause-sound : goal.invariant_of-self-clause-sound
invariant_of-self-clause-sound c stage = sound_stood (listed c.args.self.now.lists) (listed c.cancel_both.new.lists) (c.args.self.now.sound stage) c.cancel_both.ensures.rest

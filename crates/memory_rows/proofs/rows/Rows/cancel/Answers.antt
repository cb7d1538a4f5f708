use Rattle.memory_rows.specs.Lists.{listed}
use Rattle.memory_rows.proofs.SoundLemmas.{sound_stood}
use Rattle.memory_rows.proofs.rows.Rows.cancel.Goals as goal

pub cancel_entry-requires : goal.cancel_entry-requires
cancel_entry-requires c = c.requires.fits

pub invariant_of-self-clause-sound : goal.invariant_of-self-clause-sound
invariant_of-self-clause-sound c stage = sound_stood (listed c.args.self.now.lists) (listed c.cancel_entry.new.lists) (c.args.self.now.sound stage) c.cancel_entry.ensures.rest

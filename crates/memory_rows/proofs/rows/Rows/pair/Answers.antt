use Rattle.memory_rows.specs.Lists.{listed}
use Rattle.memory_rows.proofs.SoundLemmas.{sound_stood}
use Rattle.memory_rows.proofs.rows.Rows.pair.Goals as goal

pub pair_entries-requires : goal.pair_entries-requires
pair_entries-requires c = c.requires.fits

pub invariant_of-self-clause-sound : goal.invariant_of-self-clause-sound
invariant_of-self-clause-sound c stage = sound_stood (listed c.args.self.now.lists) (listed c.pair_entries.new.lists) (c.args.self.now.sound stage) c.pair_entries.ensures.rest

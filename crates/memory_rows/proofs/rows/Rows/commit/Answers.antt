use Rattle.std.proofs.Common.{refl, sym, subst}
use Rattle.desk_register.proofs.ViewLemmas.{begun_goes}
use Rattle.memory_rows.specs.Balanced.{IsSound}
use Rattle.memory_rows.specs.Lists.{listed, undone}
use Rattle.memory_rows.proofs.KeepLemmas.{kept_content}
use Rattle.memory_rows.proofs.SoundLemmas.{sound_kept}
use Rattle.memory_rows.proofs.rows.Rows.commit.Goals as goal

-- the lists are sound once the changes are kept
sound_now : (c : goal.After-keep_all) → IsSound (listed c.keep_all.new.lists)
sound_now c = sound_kept (listed c.args.self.now.lists) (listed c.keep_all.new.lists) c.keep_all.ensures.rest c.keep_all.ensures.amounts (c.args.self.now.sound (begun_goes c.args.self.now.stage c.requires))

pub invariant_of-self-clause-sound : goal.invariant_of-self-clause-sound
invariant_of-self-clause-sound c up = sound_now c

pub invariant_of-self-clause-sound_marked : goal.invariant_of-self-clause-sound_marked
invariant_of-self-clause-sound_marked c = subst (λ z. IsSound (undone z (listed c.keep_all.new.lists))) (sym c.keep_all.ensures.none) (sound_now c)

pub returns-clause-commits : goal.returns-clause-commits
returns-clause-commits c = record {
  stage = refl;
  sure = λ honest sure. tt;
  content = λ honest sure. kept_content (listed c.args.self.now.lists) (listed c.keep_all.new.lists) c.keep_all.ensures.rest c.keep_all.ensures.amounts;
  device = λ honest sure. sure;
}

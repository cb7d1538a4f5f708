use Rattle.std.proofs.Common.{refl}
use Rattle.memory_rows.specs.RowsView.{view_of_rows}
use Rattle.memory_short.proofs.WakeLemmas.{taken_up}
use Rattle.memory_short.proofs.shortages.Shortages.take_up.Goals as goal

pub loop-want-preserved : goal.loop-want-preserved
loop-want-preserved c = record {
  known = c.wake.ensures.known;
  knows = taken_up c.wake.new.self _ (view_of_rows c.args.held.now).content c.in-Some.want refl refl refl c.drop_key.ensures.others c.in_ok-wake.ensures.uncovered c.in_ok-wake.ensures.knows;
}

use Rattle.std.proofs.Common.{refl}
use Rattle.memory_rows.specs.Transfers.{moved_by}
use Rattle.memory_short.proofs.WakeLemmas.{takes_out}
use Rattle.memory_short.proofs.shortages.Shortages.take_out.Goals as goal

pub returns-clause-out : goal.returns-clause-out
returns-clause-out c =
    takes_out c.args.self.now _ (moved_by c.args.pair.now) c.args.place c.drop_wants.new.waits (λ is. is) refl c.end_count.ensures.gone c.end_count.ensures.others c.drop_wants.ensures.others c.drop_wants-2.ensures.others
    c.drop_wants.ensures.fewer c.drop_wants-2.ensures.fewer c.drop_wants.ensures.gone c.drop_wants-2.ensures.gone

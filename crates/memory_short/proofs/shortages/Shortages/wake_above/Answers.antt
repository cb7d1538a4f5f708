use Rattle.memory_short.proofs.WakeLemmas.{no_more_than}
use Rattle.memory_short.proofs.shortages.Shortages.wake_above.Goals as goal

pub returns-clause-less : goal.returns-clause-less
returns-clause-less c = no_more_than c.loop-amount.self.waits c.args.want.now c.args.most c.in_default.ensures.none

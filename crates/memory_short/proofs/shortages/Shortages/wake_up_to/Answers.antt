use Rattle.memory_short.proofs.WakeLemmas.{more_than, none_left}
use Rattle.memory_short.proofs.shortages.Shortages.wake_up_to.Goals as goal

pub returns-then-most-amount-clause-more : goal.returns-then-most-amount-clause-more
returns-then-most-amount-clause-more c = more_than c.loop-amount.self.waits c.args.want.now c.args.most c.in-Some.amount c.if-most-amount.true c.in-Some.ensures.least

pub returns-clause-more : goal.returns-clause-more
returns-clause-more c = none_left c.loop-amount.self.waits c.args.want.now c.args.most c.in_default.ensures.none

use Rattle.memory_rows.specs.Transfers.{moved_by}
use Rattle.memory_short.proofs.WantLemmas.{fewer_both, fewer_wait, gone_free, gone_money, gone_securities, less_free, less_money, less_securities, others_both, others_wait}
use Rattle.memory_short.proofs.waiting.drop_wants.Goals as goal

pub returns-in-Securities-clause-others : goal.returns-in-Securities-clause-others
returns-in-Securities-clause-others c = others_wait c.args.waits.now c.drop_wait.new.waits c.more_given-more.result (moved_by c.args.pair.now).quantity c.args.place c.drop_wait.ensures.others

pub returns-in-Securities-clause-gone : goal.returns-in-Securities-clause-gone
returns-in-Securities-clause-gone c = rw c.in-Securities.is (gone_securities (moved_by c.args.pair.now) c.args.place c.drop_wait.new.waits (rw c.more_given-more.ensures at c.drop_wait.ensures.gone))

pub returns-in-Securities-clause-fewer : goal.returns-in-Securities-clause-fewer
returns-in-Securities-clause-fewer c = fewer_wait c.args.waits.now c.drop_wait.new.waits c.drop_wait.ensures.all c.drop_wait.ensures.most

pub returns-in-Securities-clause-less : goal.returns-in-Securities-clause-less
returns-in-Securities-clause-less c = rw c.in-Securities.is (less_securities (moved_by c.args.pair.now) c.args.place c.args.waits.now c.drop_wait.new.waits (rw c.more_given-more.ensures at c.drop_wait.ensures.fewer))

pub returns-in-Some-clause-others : goal.returns-in-Some-clause-others
returns-in-Some-clause-others c =
    let t = moved_by c.args.pair.now in
    let mid = c.drop_wait-in-Money.new.waits in
    others_both c.args.place c.args.waits.now mid c.drop_wait-in-Some.new.waits (others_wait c.args.waits.now mid c.less_given-less.result t.quantity c.args.place c.drop_wait-in-Money.ensures.others)
    (others_wait mid c.drop_wait-in-Some.new.waits c.more_had-more.result c.in-Some.asked.amount c.args.place c.drop_wait-in-Some.ensures.others)

pub returns-in-Some-clause-gone : goal.returns-in-Some-clause-gone
returns-in-Some-clause-gone c = rw c.in-Money.is
    (gone_money (moved_by c.args.pair.now) c.args.place c.in-Some.asked c.in-Some.is c.drop_wait-in-Money.new.waits c.drop_wait-in-Some.new.waits (rw c.less_given-less.ensures at c.drop_wait-in-Money.ensures.gone) c.drop_wait-in-Some.ensures.all (rw c.more_had-more.ensures at c.drop_wait-in-Some.ensures.gone))

pub returns-in-Some-clause-fewer : goal.returns-in-Some-clause-fewer
returns-in-Some-clause-fewer c =
    let mid = c.drop_wait-in-Money.new.waits in
    fewer_both c.args.waits.now mid c.drop_wait-in-Some.new.waits (fewer_wait c.args.waits.now mid c.drop_wait-in-Money.ensures.all c.drop_wait-in-Money.ensures.most)
    (fewer_wait mid c.drop_wait-in-Some.new.waits c.drop_wait-in-Some.ensures.all c.drop_wait-in-Some.ensures.most)

pub returns-in-Some-clause-less : goal.returns-in-Some-clause-less
returns-in-Some-clause-less c = rw c.in-Money.is
    (less_money (moved_by c.args.pair.now) c.args.place c.in-Some.asked c.in-Some.is c.args.waits.now c.drop_wait-in-Money.new.waits c.drop_wait-in-Some.new.waits (rw c.less_given-less.ensures at c.drop_wait-in-Money.ensures.others)
    c.drop_wait-in-Money.ensures.most c.drop_wait-in-Some.ensures.most (rw c.less_given-less.ensures at c.drop_wait-in-Money.ensures.fewer) (rw c.more_had-more.ensures at c.drop_wait-in-Some.ensures.fewer))

pub returns-in_default-clause-others : goal.returns-in_default-clause-others
returns-in_default-clause-others c = others_wait c.args.waits.now c.drop_wait-in-Money.new.waits c.less_given-less.result (moved_by c.args.pair.now).quantity c.args.place c.drop_wait-in-Money.ensures.others

pub returns-in_default-clause-gone : goal.returns-in_default-clause-gone
returns-in_default-clause-gone c = rw c.in-Money.is (gone_free (moved_by c.args.pair.now) c.args.place c.drop_wait-in-Money.new.waits c.in_default.is (rw c.less_given-less.ensures at c.drop_wait-in-Money.ensures.gone))

pub returns-in_default-clause-fewer : goal.returns-in_default-clause-fewer
returns-in_default-clause-fewer c = fewer_wait c.args.waits.now c.drop_wait-in-Money.new.waits c.drop_wait-in-Money.ensures.all c.drop_wait-in-Money.ensures.most

pub returns-in_default-clause-less : goal.returns-in_default-clause-less
returns-in_default-clause-less c = rw c.in-Money.is (less_free (moved_by c.args.pair.now) c.args.place c.args.waits.now c.drop_wait-in-Money.new.waits c.in_default.is (rw c.less_given-less.ensures at c.drop_wait-in-Money.ensures.fewer))

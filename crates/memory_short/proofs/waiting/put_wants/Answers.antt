use Rattle.memory_rows.specs.Transfers.{moved_by}
use Rattle.memory_short.proofs.WantLemmas.{only_less, only_money, only_securities, others_both, others_wait, put_all, put_free, put_money_all}
use Rattle.memory_short.proofs.waiting.put_wants.Goals as goal

pub returns-in_err-put_wait-in-Money-clause-others : goal.returns-in_err-put_wait-in-Money-clause-others
returns-in_err-put_wait-in-Money-clause-others c = others_wait c.args.waits.now c.put_wait-in-Money.new.waits c.less_given-less.result (moved_by c.args.pair.now).quantity c.args.place c.put_wait-in-Money.ensures.others

pub returns-in_err-put_wait-in-Money-clause-only : goal.returns-in_err-put_wait-in-Money-clause-only
returns-in_err-put_wait-in-Money-clause-only c = rw c.in-Money.is (only_less (moved_by c.args.pair.now) c.args.place c.args.waits.now c.put_wait-in-Money.new.waits (rw c.less_given-less.ensures at c.put_wait-in-Money.ensures.others))

pub returns-in-Securities-clause-others : goal.returns-in-Securities-clause-others
returns-in-Securities-clause-others c = others_wait c.args.waits.now c.put_wait.new.waits c.more_given-more.result (moved_by c.args.pair.now).quantity c.args.place c.put_wait.ensures.others

pub returns-in-Securities-clause-waiting : goal.returns-in-Securities-clause-waiting
returns-in-Securities-clause-waiting c = rw c.in-Securities.is (put_all c.put_wait.result (moved_by c.args.pair.now) c.args.place c.put_wait.new.waits (rw c.more_given-more.ensures at c.put_wait.ensures.there))

pub returns-in-Securities-clause-only : goal.returns-in-Securities-clause-only
returns-in-Securities-clause-only c = rw c.in-Securities.is (only_securities (moved_by c.args.pair.now) c.args.place c.args.waits.now c.put_wait.new.waits (rw c.more_given-more.ensures at c.put_wait.ensures.others))

pub returns-in-Some-clause-others : goal.returns-in-Some-clause-others
returns-in-Some-clause-others c =
    let t = moved_by c.args.pair.now in
    let mid = c.put_wait-in-Money.new.waits in
    others_both c.args.place c.args.waits.now mid c.put_wait-in-Some.new.waits (others_wait c.args.waits.now mid c.less_given-less.result t.quantity c.args.place c.put_wait-in-Money.ensures.others)
    (others_wait mid c.put_wait-in-Some.new.waits c.more_had-more.result c.in-Some.asked.amount c.args.place c.put_wait-in-Some.ensures.others)

pub returns-in-Some-clause-waiting : goal.returns-in-Some-clause-waiting
returns-in-Some-clause-waiting c = rw c.in-Money.is
    (put_money_all c.put_wait-in-Some.result (moved_by c.args.pair.now) c.args.place c.in-Some.asked c.in-Some.is c.put_wait-in-Money.new.waits c.put_wait-in-Some.new.waits (rw c.less_given-less.ensures at c.in_ok-put_wait-in-Money.ensures.there)
    c.put_wait-in-Some.ensures.all (rw c.more_had-more.ensures at c.put_wait-in-Some.ensures.there))

pub returns-in-Some-clause-only : goal.returns-in-Some-clause-only
returns-in-Some-clause-only c = rw c.in-Money.is
    (only_money (moved_by c.args.pair.now) c.args.place c.in-Some.asked c.in-Some.is c.args.waits.now c.put_wait-in-Money.new.waits c.put_wait-in-Some.new.waits (rw c.less_given-less.ensures at c.put_wait-in-Money.ensures.others) (rw c.more_had-more.ensures at c.put_wait-in-Some.ensures.others))

pub returns-in-None-clause-others : goal.returns-in-None-clause-others
returns-in-None-clause-others c = others_wait c.args.waits.now c.put_wait-in-Money.new.waits c.less_given-less.result (moved_by c.args.pair.now).quantity c.args.place c.put_wait-in-Money.ensures.others

pub returns-in-None-clause-waiting : goal.returns-in-None-clause-waiting
returns-in-None-clause-waiting c = rw c.in-Money.is (put_free (moved_by c.args.pair.now) c.args.place c.put_wait-in-Money.new.waits c.in-None.is (rw c.less_given-less.ensures at c.in_ok-put_wait-in-Money.ensures.there))

pub returns-in-None-clause-only : goal.returns-in-None-clause-only
returns-in-None-clause-only c = rw c.in-Money.is (only_less (moved_by c.args.pair.now) c.args.place c.args.waits.now c.put_wait-in-Money.new.waits (rw c.less_given-less.ensures at c.put_wait-in-Money.ensures.others))

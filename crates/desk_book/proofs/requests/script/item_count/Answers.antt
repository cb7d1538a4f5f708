-- One item more, and all of them.
use Rattle.desk_book.specs.Script.{item_of}
use Rattle.desk_book.proofs.OneReading.{count_more, count_all}
use Rattle.desk_book.proofs.requests.script.item_count.Goals as goal

pub loop-after-preserved : goal.loop-after-preserved
loop-after-preserved c =
    count_more c.args.script.now c.loop-after.rest.now c.in-Some.after.now c.loop-after.count (item_of c.in-Some.field-0-0) c.loop-after.invariant c.in-Some.ensures.first c.in-Some.ensures.shorter

pub returns : goal.returns
returns c = count_all c.args.script.now c.loop-after.rest.now c.loop-after.count c.loop-after.invariant c.in_default.ensures.none

use Rattle.memory_register.proofs.SecurityWalkLemmas.{forward, walk_begins}
use Rattle.memory_register.proofs.entries.next_securities.walk_from.Goals as goal

pub range-requires : goal.range-requires
range-requires c = rw c.start_of.ensures (forward c.args.above.now)

pub returns : goal.returns
returns c =
    let within = c.range.ensures.in_range tt in
    walk_begins c.args.securities.now c.args.above.now c.range.result (rw c.start_of.ensures at (c.range.ensures.between tt)) c.range.ensures.ordered
    (rw c.start_of.ensures at within.0)

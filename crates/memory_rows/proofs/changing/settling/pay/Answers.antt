use Rattle.memory_rows.proofs.changing.settling.pay.Goals as goal

pub returns-clause-moved : goal.returns-clause-moved
returns-clause-moved c = rw c.in-Some.is c.move_between.ensures.moved

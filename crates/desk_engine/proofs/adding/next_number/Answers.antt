use Rattle.std.proofs.Common.{arith}
use Rattle.desk_register.proofs.ViewLemmas.{begun_goes}
use Rattle.desk_engine.proofs.adding.next_number.Goals as goal

pub returns-then-count-limit-clause-value : goal.returns-then-count-limit-clause-value
returns-then-count-limit-clause-value g c = λ honest sure room.
    let v0 = g.R.Register.view c.args.register.now in
    let is = c.in_ok-count.ensures.value honest sure (begun_goes v0.stage c.requires) in
    omega (arith, is)

pub returns-clause-value : goal.returns-clause-value
returns-clause-value g c = λ honest sure room.
    let v0 = g.R.Register.view c.args.register.now in
    let is = c.in_ok-count.ensures.value honest sure (begun_goes v0.stage c.requires) in
    let limit = c.limit-limit.ensures.limit in
    let full = c.if-count-limit.false in
    absurd (omega (arith, is, limit, full, room))

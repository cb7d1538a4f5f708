use Rattle.std.proofs.Common.{◌≡◌, arith, ap}
use Rattle.memory_rows.specs.Lists.{balance_in, listed}
use Rattle.memory_rows.specs.Moves.{with_less}
use Rattle.memory_rows.proofs.BalanceLemmas.{then_with_more}
use Rattle.memory_rows.proofs.SettleLemmas.{taken_fits}
use Rattle.memory_rows.proofs.changing.settling.move_between.Goals as goal

pub add_to-requires : goal.add_to-requires
add_to-requires c =
    let b = balance_in (listed c.args.lists.now) in
    let there : balance_in (listed c.take_from.new.lists) c.args.to ≡ with_less b c.args.from c.args.amount c.args.to = ap (λ x. x c.args.to) c.in_ok-take_from.ensures.put in
    let room = taken_fits b c.args.from c.args.to c.args.amount c.requires.fits in
    omega (arith, there, room)

pub returns-clause-moved : goal.returns-clause-moved
returns-clause-moved c = then_with_more c.add_to.result (balance_in (listed c.args.lists.now)) (balance_in (listed c.take_from.new.lists)) (balance_in (listed c.add_to.new.lists)) c.args.from c.args.to c.args.amount c.in_ok-take_from.ensures.put c.add_to.ensures.put

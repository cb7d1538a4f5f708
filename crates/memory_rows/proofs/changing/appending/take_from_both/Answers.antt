use Rattle.std.proofs.Common.{◌≡◌, arith, ap, ◌∙◌}
use Rattle.memory_rows.specs.Lists.{balance_in, listed}
use Rattle.memory_rows.proofs.BalanceLemmas.{with_less-other, twice_with_less}
use Rattle.memory_rows.proofs.changing.appending.take_from_both.Goals as goal

pub take_from-requires-2 : goal.take_from-requires-2
take_from-requires-2 c =
    let b = balance_in (listed c.args.lists.now) in
    let there : balance_in (listed c.take_from.new.lists) c.args.keys.1 ≡ b c.args.keys.1 = ap (λ x. x c.args.keys.1) c.in_ok-take_from.ensures.put ∙ with_less-other b c.args.keys.0 c.args.keys.1 c.args.amount c.requires.apart in
    omega (arith, there, c.requires.total_held)

pub returns-clause-put : goal.returns-clause-put
returns-clause-put c = twice_with_less c.take_from-2.result (balance_in (listed c.args.lists.now)) (balance_in (listed c.take_from.new.lists)) (balance_in (listed c.take_from-2.new.lists)) c.args.keys.0 c.args.keys.1 c.args.amount c.in_ok-take_from.ensures.put c.take_from-2.ensures.put

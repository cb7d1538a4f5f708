use Rattle.std.proofs.Common.{◌≡◌, arith, ap, ◌∙◌}
use Rattle.memory_rows.specs.Lists.{balance_in, listed}
use Rattle.memory_rows.proofs.BalanceLemmas.{with_more-other, twice_with_more}
use Rattle.memory_rows.proofs.changing.appending.add_to_both.Goals as goal

pub add_to-requires-2 : goal.add_to-requires-2
add_to-requires-2 c =
    let b = balance_in (listed c.args.lists.now) in
    let there : balance_in (listed c.add_to.new.lists) c.args.keys.1 ≡ b c.args.keys.1 = ap (λ x. x c.args.keys.1) c.in_ok-add_to.ensures.put ∙ with_more-other b c.args.keys.0 c.args.keys.1 c.args.amount c.requires.apart in
    omega (arith, there, c.requires.total_fits)

pub returns-clause-put : goal.returns-clause-put
returns-clause-put c = twice_with_more c.add_to-2.result (balance_in (listed c.args.lists.now)) (balance_in (listed c.add_to.new.lists)) (balance_in (listed c.add_to-2.new.lists)) c.args.keys.0 c.args.keys.1 c.args.amount c.in_ok-add_to.ensures.put c.add_to-2.ensures.put

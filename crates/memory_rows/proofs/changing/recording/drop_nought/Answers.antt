use Rattle.std.proofs.Common.{◌≡◌, ◌≢◌, Some, rules}
use Rattle.std.specs.BTreeMap.{get}
use Rattle.memory_rows.specs.BalanceKeys.{balance_cmp}
use Rattle.memory_rows.proofs.BalanceLemmas.{nothing_dropped, nought_dropped}
use Rattle.memory_rows.proofs.changing.recording.drop_nought.Goals as goal

pub returns-then-eq-clause-dropped : goal.returns-then-eq-clause-dropped
returns-then-eq-clause-dropped c =
    let there : get balance_cmp c.args.balances.now c.args.key.now ≡ Some 0 = search rules in
    nought_dropped (get balance_cmp c.args.balances.now) _ c.args.key.now there c.remove.ensures.updates.0

pub returns-else-eq-clause-dropped : goal.returns-else-eq-clause-dropped
returns-else-eq-clause-dropped c =
    let other : get balance_cmp c.args.balances.now c.args.key.now ≢ Some 0 = search rules in
    nothing_dropped (get balance_cmp c.args.balances.now) c.args.key.now other

use Rattle.std.proofs.Common.{◌≡◌, Some, None, refl, rules, sym, ap, ◌∙◌, subst}
use Rattle.std.specs.Prelude.{IsSome}
use Rattle.std.specs.Option.{option_copied_mut}
use Rattle.std.specs.BTreeMap.{get}
use Rattle.memory_rows.specs.BalanceKeys.{balance_cmp, put_back, HasNoneBelow}
use Rattle.memory_rows.proofs.BalanceLemmas.{amount_back, nothing_back, recorded}
use Rattle.memory_rows.proofs.FloorLemmas.{floor_back}
use Rattle.memory_rows.proofs.changing.recording.put_back.Goals as goal

-- what is there once the amount was written
written : (c : goal.After-balances-in-Some-get_mut-1) → get balance_cmp (c.get_mut.follows.lender c.in-Some.was) ≡ put_back (get balance_cmp c.args.balances.now) c.args.key.now c.args.was
written c =
    let there : get balance_cmp c.args.balances.now c.args.key.now ≡ Some c.in-Some-get_mut.amount.now = sym c.get_mut.ensures.value ∙ ap option_copied_mut c.in-Some-get_mut.is in
    rw c.in-Some.is (amount_back (get balance_cmp c.args.balances.now) _ c.args.key.now c.in-Some.was c.in-Some-get_mut.amount.now there ((c.get_mut.follows.holds c.in-Some.was).3 (subst IsSome (sym there) refl)).0)

pub returns-in-Some-get_mut-clause-back : goal.returns-in-Some-get_mut-clause-back
returns-in-Some-get_mut-clause-back c = written c

pub returns-in-Some-get_mut-clause-floored : goal.returns-in-Some-get_mut-clause-floored
returns-in-Some-get_mut-clause-floored c floor = subst HasNoneBelow (sym (written c)) (floor_back (get balance_cmp c.args.balances.now) c.args.key.now c.args.was floor)

pub returns-in-None-clause-back : goal.returns-in-None-clause-back
returns-in-None-clause-back c = rw c.in-None.is (recorded (get balance_cmp c.args.balances.now) _ c.args.key.now None c.remove.ensures.updates.0)

pub returns-in_default-clause-back : goal.returns-in_default-clause-back
returns-in_default-clause-back c =
    let none : get balance_cmp c.args.balances.now c.args.key.now ≡ None = search rules in
    let same : get balance_cmp c.get_mut.follows.lender-at-none ≡ get balance_cmp c.args.balances.now = search rules in
    rw c.in-Some.is (same ∙ nothing_back (get balance_cmp c.args.balances.now) c.args.key.now c.in-Some.was none)

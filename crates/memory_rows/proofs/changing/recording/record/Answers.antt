use Rattle.std.proofs.Common.{◌≡◌, Some, None, ap, refl, sym, subst, ◌∙◌}
use Rattle.std.specs.Prelude.{IsSome, unwrap_or}
use Rattle.std.specs.Option.{option_copied_mut}
use Rattle.std.specs.BTreeMap.{get}
use Rattle.memory_rows.specs.BalanceKeys.{balance_cmp, with_record}
use Rattle.memory_rows.specs.Shifts.{shifted}
use Rattle.memory_rows.proofs.BalanceLemmas.{recorded}
use Rattle.memory_rows.proofs.FloorLemmas.{floored_by}
use Rattle.memory_rows.proofs.changing.recording.record.Goals as goal

pub returns-in-Some-clause-put : goal.returns-in-Some-clause-put
returns-in-Some-clause-put c =
    let old = get balance_cmp c.args.balances.now in
    let there : old c.args.key.now ≡ Some c.in-Some.amount.now = sym c.get_mut.ensures.value ∙ ap option_copied_mut c.in-Some.is in
    recorded old _ c.args.key.now (Some c.shifted.result) ((c.get_mut.follows.holds c.shifted.result).3 (subst IsSome (sym there) refl)).0
    ∙ ap (λ v. with_record old c.args.key.now (Some v)) (c.shifted.ensures ∙ ap (λ o. shifted (unwrap_or o 0) c.args.shift) (sym there))

pub returns-in-Some-clause-floored : goal.returns-in-Some-clause-floored
returns-in-Some-clause-floored c = floored_by _ _ c.args.key.now _ c.is_from_least.ensures (returns-in-Some-clause-put c)

pub returns-clause-put : goal.returns-clause-put
returns-clause-put c =
    let old = get balance_cmp c.args.balances.now in
    let none : old c.args.key.now ≡ None = sym c.get_mut.ensures.value ∙ ap option_copied_mut c.in_default.is in
    recorded (get balance_cmp c.get_mut.follows.lender-at-none) (get balance_cmp c.insert.new.self) c.args.key.now (Some c.shifted-2.result) c.in_ok-insert.ensures.updates.0
    ∙ ap (λ m. with_record (get balance_cmp m) c.args.key.now (Some c.shifted-2.result)) c.get_mut.follows.holds-at-none
    ∙ ap (λ v. with_record old c.args.key.now (Some v)) (c.shifted-2.ensures ∙ ap (λ o. shifted (unwrap_or o 0) c.args.shift) (sym none))

pub returns-clause-floored : goal.returns-clause-floored
returns-clause-floored c = floored_by _ _ c.args.key.now _ c.is_from_least.ensures (returns-clause-put c)

use Rattle.std.proofs.Common.{◌≡◌, ap, sym, subst, ◌∙◌}
use Rattle.std.specs.Prelude.{unwrap_or}
use Rattle.memory_rows.specs.BalanceKeys.{HasNoNought}
use Rattle.memory_rows.specs.Lists.{balance_in, listed}
use Rattle.memory_rows.specs.Shifts.{shifted}
use Rattle.memory_rows.proofs.KeepLemmas.{lean_recorded}
use Rattle.memory_rows.proofs.lists.Lists.record_balance.Goals as goal

pub invariant_of-self-else-shifted-eq0-clause-lean : goal.invariant_of-self-else-shifted-eq0-clause-lean
invariant_of-self-else-shifted-eq0-clause-lean c = λ none.
    let amount = shifted (balance_in (listed c.args.self.now) c.args.key.now) c.args.shift in
    let same : c.shifted.result ≡ amount = c.shifted.ensures ∙ ap (λ w. shifted w c.args.shift) (c.unwrap_or.ensures ∙ ap (λ o. unwrap_or o 0) c.in_ok-was.ensures.was) in
    subst HasNoNought (sym c.in_ok-was.ensures.put) (lean_recorded (listed c.args.self.now).balances c.args.key.now amount (λ nought. c.if-shifted-eq0.false (same ∙ nought)) (c.args.self.now.lean none))

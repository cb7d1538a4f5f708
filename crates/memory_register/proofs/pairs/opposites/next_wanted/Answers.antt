use Rattle.std.proofs.Common.{◌≡◌, ◌<◌, ◌≤◌, ℕ, true, false, IfSome, IfNone, subst}
use Rattle.std.specs.BTreeSet.{contains}
use Rattle.memory_register.specs.NumbersByKey.{numbered_cmp}
use Rattle.memory_register.specs.Open.{match_cmp}
use Rattle.memory_register.proofs.pairs.opposites.next_wanted.Goals as goal

pub returns-clause-there : goal.returns-clause-there
returns-clause-there c = subst (λ k. IfSome c.next_number.result (λ n. contains (numbered_cmp match_cmp) c.args.numbers.now (k, n) ≡ true)) c.wanted_key.ensures c.next_number.ensures.there

pub returns-clause-least : goal.returns-clause-least
returns-clause-least c =
    subst (λ k. IfSome c.next_number.result (λ n. (m : ℕ) → c.args.from ≤ m → m < n → contains (numbered_cmp match_cmp) c.args.numbers.now (k, m) ≡ false)) c.wanted_key.ensures c.next_number.ensures.least

pub returns-clause-none : goal.returns-clause-none
returns-clause-none c =
    subst (λ k. IfNone c.next_number.result ((m : ℕ) → c.args.from ≤ m → contains (numbered_cmp match_cmp) c.args.numbers.now (k, m) ≡ false)) c.wanted_key.ensures c.next_number.ensures.none

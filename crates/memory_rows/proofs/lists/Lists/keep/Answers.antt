use Rattle.std.proofs.Common.{ap, sym, subst}
use Rattle.memory_rows.specs.BalanceKeys.{HasNoNought}
use Rattle.memory_rows.specs.Lists.{listed}
use Rattle.memory_rows.proofs.KeepLemmas.{lean_without}
use Rattle.memory_rows.proofs.lists.Lists.keep.Goals as goal

pub returns-in-Moved : goal.returns-in-Moved
returns-in-Moved c = rw c.in-Moved.is (ap (λ z. record (listed c.args.self.now) { balances = z }) c.drop_nought.ensures.dropped)

pub invariant_of-self-clause-lean : goal.invariant_of-self-clause-lean
invariant_of-self-clause-lean c = λ none. subst HasNoNought (sym c.drop_nought.ensures.dropped) (lean_without (listed c.args.self.now).balances c.in-Moved.key (c.args.self.now.lean none))

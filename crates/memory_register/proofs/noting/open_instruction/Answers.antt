use Rattle.std.proofs.Common.{◌≡◌, true, OnOk, subst}
use Rattle.std.specs.BTreeSet.{contains}
use Rattle.memory_register.specs.NumbersByKey.{numbered_cmp}
use Rattle.memory_register.specs.Open.{match_cmp}
use Rattle.memory_register.proofs.noting.open_instruction.Goals as goal

pub returns-clause-opened : goal.returns-clause-opened
returns-clause-opened c = subst (λ k. OnOk c.put_key.result (contains (numbered_cmp match_cmp) c.put_key.new.keys (k, c.args.number) ≡ true)) c.key_of.ensures c.put_key.ensures.there

use Rattle.std.proofs.Common.{◌∙◌, ap, sym}
use Rattle.std.specs.BTreeMap.{get}
use Rattle.memory_register.proofs.PutLemmas.{first_at, not_ok}
use Rattle.memory_register.proofs.entries.first_numbers.put_first.Goals as goal

pub returns-in_err-numbers-clause-put : goal.returns-in_err-numbers-clause-put
returns-in_err-numbers-clause-put g c = not_ok c.from_residual.result _ _ c.from_residual.ensures.1

pub returns-clause-put : goal.returns-clause-put
returns-clause-put g c = λ q.
    let e = c.in_ok-numbers.ensures in
    let put = ap (λ m. get g.K.Ord.cmp m q) (c.numbers-3-1.given.1 (sym e.same_map)) ∙ (e.update.0 c.or_insert.result.now).0 q in
    first_at g.met.K.Ord.total c.args.key q c.args.numbers.now c.numbers-3-1.given.0 c.args.number _ c.or_insert.result.now e.value c.or_insert.ensures.value put

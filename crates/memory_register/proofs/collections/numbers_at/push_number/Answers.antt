use Rattle.std.proofs.Common.{◌∙◌, ap, sym}
use Rattle.std.specs.BTreeMap.{get}
use Rattle.memory_register.proofs.PutLemmas.{not_ok, on_err, pushed_at, same_at}
use Rattle.memory_register.proofs.collections.numbers_at.push_number.Goals as goal

pub returns-in_err-numbers-clause-pushed : goal.returns-in_err-numbers-clause-pushed
returns-in_err-numbers-clause-pushed g c = not_ok c.from_residual.result _ _ c.from_residual.ensures.1

pub returns-in_err-push-clause-pushed : goal.returns-in_err-push-clause-pushed
returns-in_err-push-clause-pushed g c = not_ok c.from_residual-in_err-push.result _ _ c.from_residual-in_err-push.ensures.1

pub returns-in_err-push-clause-err : goal.returns-in_err-push-clause-err
returns-in_err-push-clause-err g c = on_err c.from_residual-in_err-push.result _ (λ q.
    let e = c.in_ok-numbers.ensures in
    let put = ap (λ m. get g.K.Ord.cmp m q) (c.numbers-3-1.given.1 (sym e.same_map)) ∙ (e.update.0 c.push.new.self).0 q in
    same_at g.met.K.Ord.total c.args.key q c.args.numbers.now c.numbers-3-1.given.0 _ c.or_default.result.now c.push.new.self e.value c.or_default.ensures.value c.in_err-push.ensures.items put)

pub returns-clause-pushed : goal.returns-clause-pushed
returns-clause-pushed g c = λ q.
    let e = c.in_ok-numbers.ensures in
    let put = ap (λ m. get g.K.Ord.cmp m q) (c.numbers-3-1.given.1 (sym e.same_map)) ∙ (e.update.0 c.push.new.self).0 q in
    pushed_at g.met.K.Ord.total c.args.key q c.args.numbers.now c.numbers-3-1.given.0 c.args.number _ c.or_default.result.now c.push.new.self e.value c.or_default.ensures.value c.in_ok-push.ensures.items put

use Rattle.std.proofs.Common.{◌≡◌, length, refl, rules}
use Rattle.memory_short.proofs.ResultLemmas.{where_it_went}
use Rattle.memory_short.proofs.WakeLemmas.{learned, nothing_touched}
use Rattle.memory_short.proofs.shortages.Shortages.learn.Goals as goal

pub returns : goal.returns
returns c = λ content due only knows.
    let none : length c.args.touched.now.items ≡ 0 = search rules in
    learned c.args.self.now _ c.args.matched.now c.args.touched.now.items content c.if-self.false refl (where_it_went c.begin_each.result c.if-is_err.ensures.value c.begin_each.ensures) (nothing_touched c.args.touched.now.items none) due only

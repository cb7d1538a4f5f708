use Rattle.std.proofs.Common.{ap, nat_cmp, refl, sym, Some, ◌∙◌}
use Rattle.std.specs.Ordering.{as_partial_cmp}
use Rattle.std.specs.Cmp.Lexicographic.{lists_agrees}
use Rattle.desk_codes.proofs.day.DayPartialOrd.partial_cmp.Goals as goal

pub returns : goal.returns
returns c = ap Some c.cmp.ensures ∙ sym (lists_agrees {R = nat_cmp} {C = as_partial_cmp nat_cmp} (λ x y. refl) c.args.self.now c.args.other.now)

use Rattle.std.proofs.Common.{nat_cmp, sym, ◌∙◌}
use Rattle.std.specs.Cmp.Lexicographic.{slice_cmp}
use Rattle.desk_codes.proofs.PaddedLemmas.{arrays_decide, lengths_decide}
use Rattle.desk_codes.proofs.short_text.ShortTextOrd.cmp.Goals as goal

pub returns-then-is_ne : goal.returns-then-is_ne
returns-then-is_ne g c =
    let own = c.self in
    let other = c.other in
    arrays_decide g.row.N own.inside.bytes other.inside.bytes own.inside.len other.inside.len own.invariant other.invariant c.order_words-order.result c.order_words-order.ensures (sym c.is_ne.ensures ∙ c.if-is_ne.true)
    ∙ (λ i. slice_cmp nat_cmp (own.view_is i) (other.view_is i))

pub returns : goal.returns
returns g c =
    let own = c.self in
    let other = c.other in
    c.cmp.ensures
    ∙ lengths_decide g.row.N own.inside.bytes other.inside.bytes own.inside.len other.inside.len own.invariant other.invariant c.order_words-order.result c.order_words-order.ensures (sym c.is_ne.ensures ∙ c.if-is_ne.false)
    ∙ (λ i. slice_cmp nat_cmp (own.view_is i) (other.view_is i))

use Rattle.std.proofs.Common.{◌≡◌, ◌+◌, ◌++◌, ◌∷◌, [], length, ap, sym, ◌∙◌, subst, arith, append_assoc, rules}
use Rattle.std.proofs.lemmas.List.{length-append}
use Rattle.memory_register.specs.Messages.{AreMessagesOf}
use Rattle.memory_register.proofs.tidying.forget_messages.Goals as goal

pub loop-heading-preserved : goal.loop-heading-preserved
loop-heading-preserved c headings are is =
    let left = c.pop.new.self.items in
    let whole : headings ++ c.loop-heading.told.items ≡ (headings ++ left) ++ c.in-Some.heading ∷ [] = ap (λ z. headings ++ z) c.in-Some.ensures.items ∙ sym (append_assoc headings left (c.in-Some.heading ∷ [])) in
    let parts = length-append headings left in
    let count : c.len.result ≡ length left = search rules in
    let number : c.args.count + c.len.result + 1 ≡ length (headings ++ left) + 1 = omega arith in
    c.forget.ensures (headings ++ left) (subst (AreMessagesOf c.loop-heading.messages) whole (c.loop-heading.invariant headings are is)) number

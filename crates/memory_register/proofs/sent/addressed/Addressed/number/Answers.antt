use Rattle.std.proofs.Common.{arith, ◌≡◌, ◌+◌, ◌∙◌, ap}
use Rattle.std.specs.Prelude.{slice_get}
use Rattle.memory_register.specs.Addressed.{is_to}
use Rattle.memory_register.proofs.AddressedLemmas.{nth_of}
use Rattle.memory_register.proofs.sent.addressed.Addressed.number.Goals as goal

pub returns : goal.returns
returns c headings are =
    let before = c.in_ok-before.before in
    let next : c.args.number ≡ c.in_ok-before.before + 1 = grind arith in
    c.number_behind.ensures ∙ ap (λ z. slice_get z before) (c.numbers_at.ensures ∙ are.numbers c.args.bic.now) ∙ nth_of c.args.number before (is_to c.args.bic.now) headings next

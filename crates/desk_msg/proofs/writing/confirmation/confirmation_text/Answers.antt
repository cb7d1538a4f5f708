use Rattle.std.proofs.Common.{◌≡◌, ◌<◌, ◌^◌, ◌++◌, codes, Some, sym, ◌∙◌, ap, subst}
use Rattle.desk_codes.specs.Number.{written_number}
use Rattle.desk_codes.specs.Currency.{letters_of}
use Rattle.desk_msg.specs.declared.instruction.Cash.{Cash}
use Rattle.desk_msg.specs.ConfirmationText.{paid_parts}
use Rattle.desk_msg.specs.HoldingsPieces.{text_of}
use Rattle.desk_msg.proofs.ConfirmationLaws.{printed_cash, cash_back}
use Rattle.desk_msg.proofs.WrittenConfirmations.{paid_written}
use Rattle.desk_msg.proofs.writing.confirmation.confirmation_text.Goals as goal

one_cash : (a b : Cash) → Some a ≡ Some b → a ≡ b
one_cash a b e = cc

pub confirmation_with-requires-clause-paid : goal.confirmation_with-requires-clause-paid
confirmation_with-requires-clause-paid c =
    let cash = c.in-Some.cash in
    let P : Cash → Type 0 = λ x. x.amount < 2 ^ 64 in
    let printed = printed_cash (Some cash) (cash_back (Some cash) (λ x e. subst P (one_cash cash x e) c.number_text.ensures.fits)) in
    c.paid_lines-paid.ensures
    ∙ ap (λ w. codes ":16R:AMT\r\n:19A::ESTT//" ++ (letters_of cash.ccy ++ (w ++ codes "\r\n:16S:AMT\r\n")))
    (c.deref.ensures.value ∙ c.in_ok-amount-in-Some.ensures.value ∙ ap (λ d. written_number cash.amount d) c.decimals.ensures.value)
    ∙ paid_written cash printed
    ∙ ap (λ p. text_of (paid_parts p)) (sym c.in-Some.is)

pub confirmation_with-requires-clause-fits : goal.confirmation_with-requires-clause-fits
confirmation_with-requires-clause-fits c = λ x e.
    let P : Cash → Type 0 = λ cash. cash.amount < 2 ^ 64 in subst P (one_cash c.in-Some.cash x (sym c.in-Some.is ∙ e)) c.number_text.ensures.fits

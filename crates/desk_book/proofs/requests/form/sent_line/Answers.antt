-- What does not go by the form asks for no sent message.
use Rattle.std.proofs.Common.{ℕ, List, codes, subst, sym}
use Rattle.desk_book.specs.Forms.{IsCount}
use Rattle.desk_book.proofs.FormLemmas.{even_none, one_party}
use Rattle.desk_book.proofs.requests.form.sent_line.Goals as goal

pub returns-in_default-clause-none : goal.returns-in_default-clause-none
returns-in_default-clause-none c = λ receiver number form. c.in_default.ensures.none receiver form.0 form.2

pub returns-in_err-number-clause-none : goal.returns-in_err-number-clause-none
returns-in_err-number-clause-none c =
    even_none c.from_residual.result
    (λ receiver number form.
    let one = one_party (codes "sent ") c.args.said.now c.in-Some.named.0 c.in-Some.named.1.now receiver form.0 c.in-Some.ensures.some form.2 in
    let P : List ℕ → Type 0 = λ d. IsCount d number in
    c.in_err-number.ensures.none number (subst P (sym one.1) form.1))

pub returns-clause-form : goal.returns-clause-form
returns-clause-form c = (c.in-Some.named.1.now, c.in_ok-number.ensures.some, c.in-Some.ensures.some)

-- What does not go by the form names no message.
use Rattle.std.proofs.Common.{ℕ, List, codes, subst, sym}
use Rattle.desk_msg.specs.MessageType.{digits_of_type}
use Rattle.desk_book.specs.Asked.{mt_of}
use Rattle.desk_book.specs.Forms.{NamesParty}
use Rattle.desk_book.proofs.FormLemmas.{even_none, one_party}
use Rattle.desk_book.proofs.requests.form.message_line.Goals as goal

pub returns-in_default-clause-none : goal.returns-in_default-clause-none
returns-in_default-clause-none c = λ sender kind form. c.in_default.ensures.none sender (digits_of_type (mt_of kind)) form

pub returns-in_err-kind-clause-none : goal.returns-in_err-kind-clause-none
returns-in_err-kind-clause-none c =
    even_none c.from_residual.result
    (λ sender kind form.
    c.in_err-kind.ensures.none kind
    (sym (one_party (codes "in ") c.args.said.now c.in-Some.named.0 c.in-Some.named.1.now sender (digits_of_type (mt_of kind)) c.in-Some.ensures.some form).1))

pub returns-clause-form : goal.returns-clause-form
returns-clause-form c =
    let P : List ℕ → Type 0 = λ behind. NamesParty (codes "in ") c.in-Some.named.0 behind c.args.said.now in
    subst P (sym c.in_ok-kind.ensures.found) c.in-Some.ensures.some

-- What names no party, and what names one.
use Rattle.std.proofs.Common.{◌∙◌, ◌++◌, ap}
use Rattle.desk_book.proofs.FormLemmas.{even_none, no_party, no_word, other_party, stripped}
use Rattle.desk_book.proofs.requests.form.behind_party.Goals as goal

pub returns-in_err-rest-clause-none : goal.returns-in_err-rest-clause-none
returns-in_err-rest-clause-none c = even_none c.from_residual.result (λ party behind. no_word c.args.word.now c.args.said.now party behind c.in_err-rest.ensures.cases)

pub returns-in_err-bic-clause-none : goal.returns-in_err-bic-clause-none
returns-in_err-bic-clause-none c =
    let begins = stripped c.args.word.now c.args.said.now c.in_ok-rest.rest.now c.in_ok-rest.ensures.cases.0 c.in_ok-rest.ensures.cases.1 in
    even_none c.from_residual-in_err-bic.result (λ party behind. no_party c.args.word.now c.args.said.now c.in_ok-rest.rest.now party behind begins c.in_err-bic.ensures.none)

pub returns-in_err-party-clause-none : goal.returns-in_err-party-clause-none
returns-in_err-party-clause-none c =
    let begins = stripped c.args.word.now c.args.said.now c.in_ok-rest.rest.now c.in_ok-rest.ensures.cases.0 c.in_ok-rest.ensures.cases.1 in
    let found = c.in_ok-bic.ensures.found in
    even_none c.from_residual-in_err-party.result (other_party c.args.word.now c.args.said.now c.in_ok-rest.rest.now c.in_ok-bic.bic.now c.in_ok-bic.behind.now begins found.0 found.1 c.in_err-party.ensures.none)

pub returns-clause-some : goal.returns-clause-some
returns-clause-some c =
    let begins = stripped c.args.word.now c.args.said.now c.in_ok-rest.rest.now c.in_ok-rest.ensures.cases.0 c.in_ok-rest.ensures.cases.1 in
    (c.in_ok-bic.bic.now, c.in_ok-party.ensures.some, begins ∙ ap (λ x. c.args.word.now ++ x) c.in_ok-bic.ensures.found.0)

-- What is no message's name, and what is one.
use Rattle.desk_book.proofs.FormLemmas.{even_none}
use Rattle.std.proofs.Common.{codes}
use Rattle.desk_drop.proofs.NameLemmas.{ended, named, no_end, no_first, no_second, no_sender, no_type}
use Rattle.desk_drop.proofs.naming.message_name.Goals as goal

pub returns-in_err-front-clause-none : goal.returns-in_err-front-clause-none
returns-in_err-front-clause-none c = even_none c.from_residual.result (λ sender kind. no_end c.args.name.now sender kind c.in_err-front.ensures.cases)

pub returns-in_err-bic-clause-none : goal.returns-in_err-bic-clause-none
returns-in_err-bic-clause-none c =
    let name = c.args.name.now in
    let front = c.in_ok-front.front.now in
    let is = ended (codes ".fin") name front c.in_ok-front.ensures.cases.0 c.in_ok-front.ensures.cases.1 in
    even_none c.from_residual-in_err-bic.result (λ sender kind. no_first name front sender kind is c.in_err-bic.ensures.none)

pub returns-in_err-digits-clause-none : goal.returns-in_err-digits-clause-none
returns-in_err-digits-clause-none c =
    let name = c.args.name.now in
    let front = c.in_ok-front.front.now in
    let is = ended (codes ".fin") name front c.in_ok-front.ensures.cases.0 c.in_ok-front.ensures.cases.1 in
    let first = c.in_ok-bic.ensures.found in
    even_none c.from_residual-in_err-digits.result (λ sender kind. no_second name front c.in_ok-bic.bic.now c.in_ok-bic.behind.now sender kind is first.0 first.1 c.in_err-digits.ensures.none)

pub returns-in_err-sender-clause-none : goal.returns-in_err-sender-clause-none
returns-in_err-sender-clause-none c =
    let name = c.args.name.now in
    let front = c.in_ok-front.front.now in
    let is = ended (codes ".fin") name front c.in_ok-front.ensures.cases.0 c.in_ok-front.ensures.cases.1 in
    let first = c.in_ok-bic.ensures.found in
    even_none c.from_residual-in_err-sender.result (λ sender kind. no_sender name front c.in_ok-bic.bic.now c.in_ok-bic.behind.now sender kind is first.0 first.1 c.in_err-sender.ensures.none)

pub returns-in_err-kind-clause-none : goal.returns-in_err-kind-clause-none
returns-in_err-kind-clause-none c =
    let name = c.args.name.now in
    let front = c.in_ok-front.front.now in
    let is = ended (codes ".fin") name front c.in_ok-front.ensures.cases.0 c.in_ok-front.ensures.cases.1 in
    let first = c.in_ok-bic.ensures.found in
    let second = c.in_ok-digits.ensures.found in
    even_none c.from_residual-in_err-kind.result (λ sender kind. no_type name front c.in_ok-bic.bic.now c.in_ok-bic.behind.now c.in_ok-digits.digits.now c.in_ok-digits._others.now sender kind is first.0 first.1 second.0 second.1 c.in_err-kind.ensures.none)

pub returns-clause-named : goal.returns-clause-named
returns-clause-named c =
    let name = c.args.name.now in
    let front = c.in_ok-front.front.now in
    let is = ended (codes ".fin") name front c.in_ok-front.ensures.cases.0 c.in_ok-front.ensures.cases.1 in
    named name front c.in_ok-bic.bic.now c.in_ok-bic.behind.now c.in_ok-digits.digits.now c.in_ok-digits._others.now c.in_ok-sender.sender c.in_ok-kind.kind is c.in_ok-bic.ensures.found.0 c.in_ok-digits.ensures.found.0
    c.in_ok-sender.ensures.some c.in_ok-kind.ensures.found

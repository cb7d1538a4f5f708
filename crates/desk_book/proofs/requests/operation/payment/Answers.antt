-- The members that were found are all, and one that does not read is in no payment.
use Rattle.std.proofs.Common.{codes, sym, ap}
use Rattle.desk_book.specs.Members.{text_at, number_at}
use Rattle.desk_book.proofs.CommandLemmas.{payment_is}
use Rattle.desk_book.proofs.FormLemmas.{even_none}
use Rattle.desk_book.proofs.requests.operation.payment.Goals as goal

pub returns-in_err-reference-clause-refused : goal.returns-in_err-reference-clause-refused
returns-in_err-reference-clause-refused g c = even_none c.from_residual-in_err-reference.result (λ op name payment party is h. c.in_err-reference.ensures.none payment.reference is (ap (text_at (codes "ref")) h))

pub returns-in_err-bic-clause-refused : goal.returns-in_err-bic-clause-refused
returns-in_err-bic-clause-refused g c = even_none c.from_residual-in_err-bic.result (λ op name payment party is h. c.in_err-bic.ensures.none name payment.bic party (ap (text_at (codes "bic")) h))

pub returns-in_err-ccy-clause-refused : goal.returns-in_err-ccy-clause-refused
returns-in_err-ccy-clause-refused g c = even_none c.from_residual-in_err-ccy.result (λ op name payment party is h. c.in_err-ccy.ensures.none payment.ccy (ap (text_at (codes "ccy")) h))

pub returns-in_err-amount-clause-refused : goal.returns-in_err-amount-clause-refused
returns-in_err-amount-clause-refused g c = even_none c.from_residual-in_err-amount.result (λ op name payment party is h. c.in_err-amount.ensures.none payment.amount payment.some payment.within (ap (number_at (codes "amount")) h))

pub returns-clause-object : goal.returns-clause-object
returns-clause-object g c = λ op is. (
  c.in_ok-bic.ensures.some.0,
  c.in_ok-bic.ensures.some.1,
  payment_is _ op _ _ _ _ c.in_ok-member_count.ensures.ordered (rw c.if-branch-ne5.false at (sym c.in_ok-member_count.ensures.count)) is c.in_ok-reference.ensures.some c.in_ok-bic.ensures.some.2 c.in_ok-ccy.ensures.some c.in_ok-amount.ensures.some,
)

-- The members that were found are all, and one that does not read is in no movement.
use Rattle.std.proofs.Common.{codes, sym, ap}
use Rattle.desk_book.specs.Members.{text_at, number_at}
use Rattle.desk_book.proofs.CommandLemmas.{movement_is}
use Rattle.desk_book.proofs.FormLemmas.{even_none}
use Rattle.desk_book.proofs.requests.operation.movement.Goals as goal

pub returns-in_err-reference-clause-refused : goal.returns-in_err-reference-clause-refused
returns-in_err-reference-clause-refused g c = even_none c.from_residual-in_err-reference.result (λ op movement is h. c.in_err-reference.ensures.none movement.reference is.reference (ap (text_at (codes "ref")) h))

pub returns-in_err-account-clause-refused : goal.returns-in_err-account-clause-refused
returns-in_err-account-clause-refused g c = even_none c.from_residual-in_err-account.result (λ op movement is h. c.in_err-account.ensures.none movement.account is.account (ap (text_at (codes "account")) h))

pub returns-in_err-isin-clause-refused : goal.returns-in_err-isin-clause-refused
returns-in_err-isin-clause-refused g c = even_none c.from_residual-in_err-isin.result (λ op movement is h. c.in_err-isin.ensures.none movement.isin is.isin (ap (text_at (codes "isin")) h))

pub returns-in_err-quantity-clause-refused : goal.returns-in_err-quantity-clause-refused
returns-in_err-quantity-clause-refused g c = even_none c.from_residual-in_err-quantity.result (λ op movement is h. c.in_err-quantity.ensures.none movement.quantity movement.some movement.within (ap (number_at (codes "quantity")) h))

pub returns-clause-read : goal.returns-clause-read
returns-clause-read g c =
    record { reference = c.in_ok-reference.ensures.read; account = c.in_ok-account.ensures.read; isin = c.in_ok-isin.ensures.read; some = c.in_ok-quantity.ensures.least; within = c.in_ok-quantity.ensures.most }

pub returns-clause-object : goal.returns-clause-object
returns-clause-object g c = λ op is.
    movement_is _ op _ _ _ _ c.in_ok-member_count.ensures.ordered (rw c.if-branch-ne5.false at (sym c.in_ok-member_count.ensures.count)) is c.in_ok-reference.ensures.some c.in_ok-account.ensures.some c.in_ok-isin.ensures.some c.in_ok-quantity.ensures.some

-- The members that were found are all, and one that does not read is in no command.
use Rattle.std.proofs.Common.{codes, sym, ap}
use Rattle.desk_book.specs.Members.{text_at}
use Rattle.desk_book.proofs.CommandLemmas.{participant_is}
use Rattle.desk_book.proofs.FormLemmas.{even_none}
use Rattle.desk_book.proofs.requests.operation.participant.Goals as goal

pub returns-in_err-bic-clause-refused : goal.returns-in_err-bic-clause-refused
returns-in_err-bic-clause-refused g c = even_none c.from_residual-in_err-bic.result (λ reference bic h. c.in_err-bic.ensures.none h.0 bic h.1 (ap (text_at (codes "bic")) h.3))

pub returns-clause-read : goal.returns-clause-read
returns-clause-read g c = (c.in_ok-bic.ensures.some.0, c.in_ok-bic.ensures.some.1, c.in_ok-reference.ensures.read, participant_is _ _ _ c.in_ok-member_count.ensures.ordered (rw c.if-branch-ne3.false at (sym c.in_ok-member_count.ensures.count)) c.requires c.in_ok-reference.ensures.some c.in_ok-bic.ensures.some.2)

-- The members that were found are all, and one that does not read is in no command.
use Rattle.std.proofs.Common.{codes, sym, ap}
use Rattle.desk_book.specs.Members.{text_at}
use Rattle.desk_book.proofs.CommandLemmas.{security_is}
use Rattle.desk_book.proofs.FormLemmas.{even_none}
use Rattle.desk_book.proofs.requests.operation.security.Goals as goal

pub returns-in_err-isin-clause-refused : goal.returns-in_err-isin-clause-refused
returns-in_err-isin-clause-refused g c = even_none c.from_residual-in_err-isin.result (λ reference isin kind h. c.in_err-isin.ensures.none isin h.1 (ap (text_at (codes "isin")) h.2))

pub returns-in_err-kind-clause-refused : goal.returns-in_err-kind-clause-refused
returns-in_err-kind-clause-refused g c = even_none c.from_residual-in_err-kind.result (λ reference isin kind h. c.in_err-kind.ensures.none kind (ap (text_at (codes "kind")) h.2))

pub returns-clause-read : goal.returns-clause-read
returns-clause-read g c = (c.in_ok-reference.ensures.read, c.in_ok-isin.ensures.read, security_is _ _ _ _ c.in_ok-member_count.ensures.ordered (rw c.if-branch-ne4.false at (sym c.in_ok-member_count.ensures.count)) c.requires c.in_ok-reference.ensures.some c.in_ok-isin.ensures.some c.in_ok-kind.ensures.some)

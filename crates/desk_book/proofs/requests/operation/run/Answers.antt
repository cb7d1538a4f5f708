-- The members that were found are all, and one that does not read is in no command.
use Rattle.std.proofs.Common.{codes, sym, ap, refl}
use Rattle.desk_book.specs.Members.{text_at}
use Rattle.desk_book.proofs.CommandLemmas.{run_is}
use Rattle.desk_book.proofs.FormLemmas.{even_none}
use Rattle.desk_book.proofs.requests.operation.run.Goals as goal

pub returns-in_err-day-clause-refused : goal.returns-in_err-day-clause-refused
returns-in_err-day-clause-refused g c = even_none c.from_residual-in_err-day.result (λ reference day h. c.in_err-day.ensures.none day h.1 (ap (text_at (codes "day")) h.2))

pub returns-clause-read : goal.returns-clause-read
returns-clause-read g c = (c.in_ok-reference.ensures.read, c.in_ok-day.ensures.read, run_is _ _ _ c.in_ok-member_count.ensures.ordered (rw c.if-branch-ne3.false at (sym c.in_ok-member_count.ensures.count)) c.requires c.in_ok-reference.ensures.some c.in_ok-day.ensures.some, refl)

-- A movement that was read is one that the operation names.
use Rattle.std.proofs.Common.{codes}
use Rattle.desk_book.proofs.FormLemmas.{even_none}
use Rattle.desk_book.proofs.requests.operation.redeem.Goals as goal

pub returns-in_err-movement-clause-refused : goal.returns-in_err-movement-clause-refused
returns-in_err-movement-clause-refused g c = even_none c.from_residual.result (λ movement h. c.in_err-movement.ensures.refused (codes "redeem") movement h.0 h.1)

pub returns-clause-read : goal.returns-clause-read
returns-clause-read g c = (c.in_ok-movement.ensures.read, c.in_ok-movement.ensures.object (codes "redeem") c.requires)

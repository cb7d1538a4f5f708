-- A payment that was read is one that the operation names.
use Rattle.std.proofs.Common.{codes}
use Rattle.desk_book.proofs.FormLemmas.{even_none}
use Rattle.desk_book.proofs.requests.operation.pay_in.Goals as goal

pub returns-in_err-payment-clause-refused : goal.returns-in_err-payment-clause-refused
returns-in_err-payment-clause-refused g c = even_none c.from_residual.result (λ payment h. c.in_err-payment.ensures.refused (codes "payin") h.0 payment h.1 h.2 h.3)

pub returns-clause-read : goal.returns-clause-read
returns-clause-read g c = let object = c.in_ok-payment.ensures.object (codes "payin") c.requires in (object.0, object.1, c.in_ok-payment.ensures.read, object.2)

use Rattle.desk_msg.proofs.FormLemmas.{quantity_excludes}
use Rattle.desk_msg.proofs.reading.value.quantity_of.Goals as goal

pub returns-in_err-kind : goal.returns-in_err-kind
returns-in_err-kind c = rw c.from_residual.ensures (λ y h. c.in_err-kind.ensures (y.0, h.0) h.1)

pub returns-in-Err : goal.returns-in-Err
returns-in-Err c = quantity_excludes c.args.text.now c.in_ok-kind.number.now c.in_ok-kind.kind c.in-Err.field-0 c.in_ok-kind.ensures c.in-Err.ensures

use Rattle.std.proofs.Common.{rules}
use Rattle.desk_reasons.proofs.quantities.quantity_reason.Goals as goal

pub returns : goal.returns
returns c = (search rules, rw (← c.rest_of.ensures) c.number_reason.ensures)

use Rattle.std.proofs.Common.{rules}
use Rattle.desk_reasons.proofs.amounts.amount_reason.Goals as goal

pub returns-in-Some : goal.returns-in-Some
returns-in-Some c = (c.in-Some.ccy, search rules, rw (← c.rest_of.ensures) c.number_in.ensures)

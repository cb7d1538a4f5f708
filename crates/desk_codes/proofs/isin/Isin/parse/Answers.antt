use Rattle.std.proofs.Common.{rules}
use Rattle.desk_codes.proofs.isin.Isin.parse.Goals as goal

pub returns-in_default : goal.returns-in_default
returns-in_default c = (search rules, search rules, rw (← c.copy_from_slice.ensures.after) c.in_default.ensures)

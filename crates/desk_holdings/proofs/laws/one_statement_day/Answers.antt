use Rattle.desk_holdings.proofs.OneDay.{one_day}
use Rattle.desk_holdings.proofs.laws.one_statement_day.Goals as goal

pub returns : goal.returns
returns c = one_day

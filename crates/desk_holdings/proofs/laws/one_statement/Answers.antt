use Rattle.desk_holdings.proofs.GatheringLemmas.{holdings_exist}
use Rattle.desk_holdings.proofs.OneStatement.{one_list}
use Rattle.desk_holdings.proofs.laws.one_statement.Goals as goal

pub returns : goal.returns
returns c = record { exists = holdings_exist; unique = one_list }

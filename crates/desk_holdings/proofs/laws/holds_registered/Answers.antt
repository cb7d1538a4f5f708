use Rattle.desk_holdings.proofs.RegisteredLemmas as registered
use Rattle.desk_holdings.proofs.laws.holds_registered.Goals as goal

pub returns : goal.returns
returns c = registered.holds_registered

use Rattle.desk_http.proofs.DecisionLemmas.{outcome_then}
use Rattle.desk_http.proofs.laws.outcome_stays.Goals as goal

pub returns : goal.returns
returns c = outcome_then

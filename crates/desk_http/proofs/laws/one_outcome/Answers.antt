use Rattle.desk_http.proofs.OutcomeLemmas.{outcome_is}
use Rattle.desk_http.proofs.laws.one_outcome.Goals as goal

pub returns : goal.returns
returns c = outcome_is

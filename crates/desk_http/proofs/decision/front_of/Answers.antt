use Rattle.desk_http.proofs.DecisionLemmas.{front_is}
use Rattle.desk_http.proofs.decision.front_of.Goals as goal

pub returns : goal.returns
returns c = front_is c.args.bytes.now c.min.result c.min.ensures

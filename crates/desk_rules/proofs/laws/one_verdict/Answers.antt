use Rattle.desk_rules.proofs.OneVerdict as laws
use Rattle.desk_rules.proofs.laws.one_verdict.Goals as goal

pub returns : goal.returns
returns c = laws.one_verdict

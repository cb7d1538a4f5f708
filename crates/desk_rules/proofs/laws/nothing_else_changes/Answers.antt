use Rattle.desk_rules.proofs.LegsMoved as moved
use Rattle.desk_rules.proofs.laws.nothing_else_changes.Goals as goal

pub returns : goal.returns
returns c = moved.changes

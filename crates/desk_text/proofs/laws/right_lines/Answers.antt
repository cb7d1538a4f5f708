use Rattle.desk_text.proofs.OpenLemmas.{some-open, one-open, right-goes_on, follows-right}
use Rattle.desk_text.proofs.laws.right_lines.Goals as goal

pub returns-clause-names : goal.returns-clause-names
returns-clause-names c = some-open

pub returns-clause-one : goal.returns-clause-one
returns-clause-one c = one-open

pub returns-clause-follows : goal.returns-clause-follows
returns-clause-follows c = right-goes_on

pub returns-clause-only : goal.returns-clause-only
returns-clause-only c = follows-right

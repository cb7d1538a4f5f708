use Rattle.desk_text.proofs.LawLemmas.{value-right, value-line}
use Rattle.desk_text.proofs.laws.one_line.Goals as goal

pub returns-clause-right : goal.returns-clause-right
returns-clause-right c = value-right

pub returns-clause-lines : goal.returns-clause-lines
returns-clause-lines c = value-line

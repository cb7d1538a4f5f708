use Rattle.desk_text.proofs.LawLemmas.{line-feed, line-return, line-last}
use Rattle.desk_text.proofs.laws.line_ends.Goals as goal

pub returns-clause-feed : goal.returns-clause-feed
returns-clause-feed c = line-feed

pub returns-clause-returns : goal.returns-clause-returns
returns-clause-returns c = line-return

pub returns-clause-last : goal.returns-clause-last
returns-clause-last c = line-last

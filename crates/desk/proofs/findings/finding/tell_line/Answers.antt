use Rattle.desk.specs.Finding.{line_of}
use Rattle.desk.proofs.findings.finding.tell_line.Goals as goal

pub returns-clause-written : goal.returns-clause-written
unfolding line_of
returns-clause-written g c = c.tell_explained.ensures.written

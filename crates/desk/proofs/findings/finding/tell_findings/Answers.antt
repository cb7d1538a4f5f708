use Rattle.desk.specs.Finding.{line_of, refused_by, refused_text}
use Rattle.desk_words.specs.Causes.{catalogue}
use Rattle.desk.proofs.FindingLemmas.{told_then}
use Rattle.desk.proofs.findings.finding.tell_findings.Goals as goal

pub returns-clause-written : goal.returns-clause-written
unfolding catalogue line_of
returns-clause-written g c = told_then c.tell_counts.result refused_text refused_by c.args.findings.now _ _ _ _ c.in_ok-tell_lines.ensures.written c.tell_counts.ensures.written

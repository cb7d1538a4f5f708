use Rattle.std.proofs.Common.{◌≡◌, ◌+◌, ◌≤◌, ◌++◌, length, map}
use Rattle.desk_book.specs.Lines.{script_lines}
use Rattle.desk.specs.Finding.{findings_from, findings_in, found_of}
use Rattle.desk.specs.Told.{told_by}
use Rattle.desk.proofs.findings.finding.findings_in.Given as goal

abbrev pub invariant-loop-line : goal.invariant-loop-line
invariant-loop-line l = record {
  few : l.count + length l.rest ≤ length l.script;
  found : findings_in l.script (map told_by l.told) ≡ map found_of l.findings.items ++ findings_from (l.count + 1) l.in_body (script_lines l.rest) (map told_by l.left);
}

abbrev pub decreases-loop-line : goal.decreases-loop-line
decreases-loop-line l = length l.rest

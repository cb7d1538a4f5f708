use Rattle.std.proofs.Common.{length}
use Rattle.desk.proofs.findings.reason.reference_in.Given as goal

abbrev pub decreases-loop-line : goal.decreases-loop-line
decreases-loop-line l = length l.rest

use Rattle.std.proofs.Common.{take}
use Rattle.std.specs.List.{flat_map}
use Rattle.std.specs.Io.KnownBytes.{Appends}
use Rattle.desk.specs.Finding.{line_of}
use Rattle.desk.proofs.findings.finding.tell_lines.Given as goal

abbrev pub invariant-loop-finding : goal.invariant-loop-finding
invariant-loop-finding g l = Appends (g.W.Write.contents l.initial.writer) (g.W.Write.contents l.writer) (flat_map line_of (take l.finding-index l.findings))

use Rattle.std.proofs.Common.{map, take}
use Rattle.std.specs.List.{flat_map}
use Rattle.std.specs.Io.KnownBytes.{Appends}
use Rattle.desk.specs.Finding.{count_text, refused_by}
use Rattle.desk.proofs.findings.finding.tell_counts.Given as goal

abbrev pub invariant-loop-cause : goal.invariant-loop-cause
invariant-loop-cause g l = Appends (g.W.Write.contents l.initial.writer) (g.W.Write.contents l.writer) (flat_map (λ cause. count_text (map refused_by l.findings) cause.0) (take l.cause-index l.causes))

use Rattle.std.proofs.Common.{subst}
use Rattle.std.specs.Io.KnownBytes.{Appends}
use Rattle.desk.specs.Finding.{line_of}
use Rattle.desk.specs.declared.findings.finding.Explained.{Explained}
use Rattle.desk_words.proofs.WritingLemmas.{written}
use Rattle.desk.proofs.findings.finding.tell_lines.Goals as goal

pub loop-finding-preserved : goal.loop-finding-preserved
loop-finding-preserved g c =
    let P : Explained → Type 0 = λ x. Appends (g.W.Write.contents c.loop-finding.writer) (g.W.Write.contents c.tell_line.new.writer) (line_of x) in
    written line_of c.args.findings.now _ _ _ c.loop-finding.finding-index c.finding-item.result c.loop-finding-test.true c.loop-finding.invariant (subst P c.finding-item.is c.in_ok-tell_line.ensures.written)

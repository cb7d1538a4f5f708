use Rattle.std.proofs.Common.{map}
use Rattle.desk.specs.Finding.{count_text, refused_by}
use Rattle.desk_words.proofs.WritingLemmas.{written}
use Rattle.desk.proofs.findings.finding.tell_counts.Goals as goal

pub loop-cause-preserved : goal.loop-cause-preserved
loop-cause-preserved g c = written (λ cause. count_text (map refused_by c.args.findings.now) cause.0) c.args.causes.now _ _ _ c.loop-cause.cause-index _ c.loop-cause-test.true c.loop-cause.invariant c.in_ok-tell_count.ensures.written

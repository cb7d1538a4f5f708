use Rattle.desk_words.specs.Causes.{cause_text, value_of_cause}
use Rattle.desk_words.proofs.WritingLemmas.{written}
use Rattle.desk_words.proofs.writing.write_causes.Goals as goal

pub loop-cause-preserved : goal.loop-cause-preserved
loop-cause-preserved g c =
    written (λ cause. cause_text (value_of_cause cause)) c.args.causes.now _ _ _ c.loop-cause.cause-index _ c.loop-cause-test.true c.loop-cause.invariant c.in_ok-write_cause.ensures.written

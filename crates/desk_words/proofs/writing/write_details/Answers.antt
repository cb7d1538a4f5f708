use Rattle.desk_words.specs.Topics.{detail_text, value_of_detail}
use Rattle.desk_words.proofs.WritingLemmas.{written}
use Rattle.desk_words.proofs.writing.write_details.Goals as goal

pub loop-detail-preserved : goal.loop-detail-preserved
loop-detail-preserved g c =
    written (λ detail. detail_text (value_of_detail detail)) c.args.details.now _ _ _ c.loop-detail.detail-index _ c.loop-detail-test.true c.loop-detail.invariant c.in_ok-write_detail.ensures.written

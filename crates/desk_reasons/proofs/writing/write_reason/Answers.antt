use Rattle.std.proofs.Common.{◌∙◌}
use Rattle.desk_reasons.proofs.WritingLemmas.{two_written}
use Rattle.desk_reasons.proofs.writing.write_reason.Goals as goal

pub returns-clause-written : goal.returns-clause-written
returns-clause-written g c =
    two_written _ _ _ _ _ _ _ (c.as_bytes.ensures.value ∙ c.front_words.ensures) c.tail_of.ensures c.in_ok-put.ensures.bytes c.in_ok-write_tail.ensures.written

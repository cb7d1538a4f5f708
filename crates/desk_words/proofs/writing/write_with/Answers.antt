use Rattle.desk_words.proofs.WritingLemmas.{one_behind}
use Rattle.desk_words.proofs.writing.write_with.Goals as goal

pub returns-clause-written : goal.returns-clause-written
returns-clause-written g c = one_behind _ _ _ _ _ c.write_details.result c.in_ok-write_cause.ensures.written c.write_details.ensures.written

use Rattle.std.proofs.Common.{Err, ap}
use Rattle.std.proofs.lemmas.Result.{IfOk-weaker}
use Rattle.desk.specs.ReadAnswer.{told_input, told_long, told_no_room}
use Rattle.desk.proofs.ReadLemmas.{text_told}
use Rattle.desk.proofs.answers.read.answer_read.Goals as goal

pub returns-in-Ok-clause-told : goal.returns-in-Ok-clause-told
returns-in-Ok-clause-told g c =
    text_told c.answer_text.result c.args.mt (g.R.Read.remaining c.args.reader.now) _ _ _ _ (rw c.as_slice.ensures.value c.in-Ok.ensures.whole) (rw c.as_slice.ensures.len c.in-Ok.ensures.fits) c.answer_text.ensures.told

pub returns-in-Err-TooLong-clause-told : goal.returns-in-Err-TooLong-clause-told
returns-in-Err-TooLong-clause-told g c =
    IfOk-weaker c.tell_refusal.result _ _ (λ status told. told_long (c.in-Err-TooLong.ensures.too_long (ap Err c.in-Err-TooLong.field-0-is)) told) c.tell_refusal.ensures.told

pub returns-in-Err-ReadFailed-clause-told : goal.returns-in-Err-ReadFailed-clause-told
returns-in-Err-ReadFailed-clause-told g c =
    IfOk-weaker c.tell_failure.result _ _ (λ status told. told_input (c.in-Err-ReadFailed.ensures.unread (ap Err c.in-Err-ReadFailed.field-0-is)) told) c.tell_failure.ensures.told

pub returns-in-Err-Memory-clause-told : goal.returns-in-Err-Memory-clause-told
returns-in-Err-Memory-clause-told g c =
    IfOk-weaker c.tell_failure-in-Err-Memory.result _ _ (λ status told. told_no_room (c.in-Err-Memory.ensures.memory (ap Err c.in-Err-Memory.field-0-is)) told) c.tell_failure-in-Err-Memory.ensures.told

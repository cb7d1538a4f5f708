use Rattle.std.proofs.Common.{◌≡◌, refl, rules}
use Rattle.std.proofs.lemmas.Result.{IfOk-weaker}
use Rattle.desk_msg.specs.FieldsText.{message_text}
use Rattle.desk.specs.ReadAnswer.{told_fields, told_memory}
use Rattle.desk.proofs.ReadLemmas.{message_may_be, refusal_told}
use Rattle.desk.proofs.answers.read.answer_text.Goals as goal

pub returns-in_ok-write_line-in-Ok-fields_text-clause-told : goal.returns-in_ok-write_line-in-Ok-fields_text-clause-told
returns-in_ok-write_line-in-Ok-fields_text-clause-told g c =
    let line : c.as_slice.result.now ≡ message_text c.in-Ok.message = search rules in
    told_fields c.in-Ok.message c.in-Ok.ensures refl (rw line at c.in_ok-write_line-in-Ok-fields_text.ensures.written)

pub returns-in-Err-clause-told : goal.returns-in-Err-clause-told
returns-in-Err-clause-told g c =
    IfOk-weaker c.tell_failure.result _ _ (λ status told. told_memory (message_may_be c.args.mt c.args.text.now c.in-Ok.message c.in-Ok.ensures) told) c.tell_failure.ensures.told

pub returns-in-Err-Refused-clause-told : goal.returns-in-Err-Refused-clause-told
returns-in-Err-Refused-clause-told g c =
    let read = rw c.in-Err-Refused.field-0-is at c.in-Err-Refused.ensures in
    refusal_told c.tell_refusal.result c.args.mt c.args.text.now _ c.in-Err-Refused.refusal _ c.in-Err-Refused.refusal-is c.tell_refusal.ensures.told read

pub returns-in-Err-Memory-clause-told : goal.returns-in-Err-Memory-clause-told
returns-in-Err-Memory-clause-told g c =
    let read = rw c.in-Err-Memory.field-0-is at c.in-Err-Memory.ensures in
    IfOk-weaker c.tell_failure-in-Err-Memory.result _ _ (λ status told. told_memory read told) c.tell_failure-in-Err-Memory.ensures.told

use Rattle.std.proofs.Common.{◌≡◌, None, refl}
use Rattle.std.specs.Io.KnownBytes.{Appends}
use Rattle.clap.specs.Words.{kind_of}
use Rattle.desk_words.specs.Words.{value_of_call, play}
use Rattle.desk.proofs.RunLemmas.{answered, error_told, memory_told, said}
use Rattle.desk.proofs.run.answer_words.Goals as goal

pub returns-in-Ok-clause-asked : goal.returns-in-Ok-clause-asked
returns-in-Ok-clause-asked g c = λ program asked right are.
    let same : value_of_call c.in-Ok.call ≡ asked = c.in-Ok.ensures.asked program asked right are in
    rw same at (answered c.answer.result _ _ _ _ (value_of_call c.in-Ok.call) c.answer.ensures.told)

pub returns-in-Err-clause-asked : goal.returns-in-Err-clause-asked
returns-in-Err-clause-asked g c = λ program asked right are.
    memory_told c.tell_error.result (g.R.Read.remaining c.args.reader.now) _ g.R.Source.may_fail (Appends (g.W.Write.contents c.args.writer.now) (g.W.Write.contents c.tell_error.new.writer)) asked (kind_of c.in-Err.error) refl (c.in-Err.ensures.asked program asked right are) c.tell_error.ensures.memory

pub returns-in-Ok-clause-nothing : goal.returns-in-Ok-clause-nothing
returns-in-Ok-clause-nothing g c = λ program are.
    let same : value_of_call c.in-Ok.call ≡ play None = c.in-Ok.ensures.nothing program are in
    rw same at (answered c.answer.result _ _ _ _ (value_of_call c.in-Ok.call) c.answer.ensures.told)

pub returns-in-Err-clause-nothing : goal.returns-in-Err-clause-nothing
returns-in-Err-clause-nothing g c = λ program are.
    memory_told c.tell_error.result (g.R.Read.remaining c.args.reader.now) _ g.R.Source.may_fail (Appends (g.W.Write.contents c.args.writer.now) (g.W.Write.contents c.tell_error.new.writer)) (play None) (kind_of c.in-Err.error) refl (c.in-Err.ensures.nothing program are) c.tell_error.ensures.memory

pub returns-in-Ok-clause-told : goal.returns-in-Ok-clause-told
returns-in-Ok-clause-told g c = said c.answer.result _ _ _ _ (value_of_call c.in-Ok.call) _ c.in-Ok.ensures.said c.answer.ensures.told

pub returns-in-Err-clause-told : goal.returns-in-Err-clause-told
returns-in-Err-clause-told g c =
    error_told c.tell_error.result _ _ _ _ _ (kind_of c.in-Err.error) refl c.in-Err.ensures.wrong c.tell_error.ensures.status c.tell_error.ensures.memory

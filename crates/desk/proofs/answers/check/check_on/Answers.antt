use Rattle.std.proofs.Common.{Err, refl}
use Rattle.desk.proofs.CheckLemmas.{script_told, told_why}
use Rattle.desk.proofs.answers.check.check_on.Goals as goal

pub returns-in-Ok-clause-told : goal.returns-in-Ok-clause-told
returns-in-Ok-clause-told g c = λ books keeps.
    script_told c.check_script.result books c.args.format (g.R.Read.remaining c.args.reader.now) _ _ _ _ (rw c.as_slice.ensures.value c.in-Ok.ensures.whole) (c.check_script.ensures.told books keeps)

pub returns-in-Err-clause-told : goal.returns-in-Err-clause-told
returns-in-Err-clause-told g c = λ books keeps.
    told_why (Err c.in-Err.fault) c.tell_failure.result c.in-Err.fault _ books c.args.format (g.R.Read.remaining c.args.reader.now) _ _ _ refl c.in-Err.ensures.memory c.in-Err.ensures.unread c.in-Err.ensures.too_long c.from.ensures c.tell_failure.ensures.told

use Rattle.std.proofs.Common.{sym, subst}
use Rattle.desk.specs.PlayAnswer.{IsPlayed}
use Rattle.desk.proofs.CheckLemmas.{none_told}
use Rattle.desk.proofs.answers.check.check_script.Goals as goal

pub returns-in-Some-clause-told : goal.returns-in-Some-clause-told
returns-in-Some-clause-told g c = λ books keeps.
    c.check_answers.ensures.told books (subst (IsPlayed books c.args.script.now) (sym c.as_slice.ensures.value) (c.in-Some.ensures books keeps))

pub returns-in-None-clause-told : goal.returns-in-None-clause-told
returns-in-None-clause-told g c = λ books keeps. none_told c.tell_failure.result books c.args.format c.args.script.now _ c.requires.short c.tell_failure.ensures.told

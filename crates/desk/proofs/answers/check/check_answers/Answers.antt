use Rattle.desk.proofs.CheckLemmas.{none_told, told_of}
use Rattle.desk.proofs.answers.check.check_answers.Goals as goal

pub returns-in-Some-clause-told : goal.returns-in-Some-clause-told
returns-in-Some-clause-told g c = λ books played.
    told_of c.tell_found.result books c.args.format c.args.script.now c.args.answers.now c.in-Some.requests c.in-Some.findings.items _ _ c.as_slice.ensures.value c.requires played c.in-Some.ensures.requests c.in-Some.ensures.found
    c.tell_found.ensures.told

pub returns-in-None-clause-told : goal.returns-in-None-clause-told
returns-in-None-clause-told g c = λ books played. none_told c.tell_failure.result books c.args.format c.args.script.now _ c.requires c.tell_failure.ensures.told

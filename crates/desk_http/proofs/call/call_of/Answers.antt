use Rattle.std.proofs.Common.{◌∙◌}
use Rattle.desk_http.specs.Paths.{path_of}
use Rattle.desk_http.proofs.CallLemmas.{agrees, called, differs, length_refused, no_method, no_name, no_path}
use Rattle.desk_http.proofs.call.call_of.Goals as goal

pub returns-in_default : goal.returns-in_default
returns-in_default c = λ h at. no_path h c.of.result.now (c.of.ensures ∙ at.path) c.in_default.ensures.none

pub returns-then-ne : goal.returns-then-ne
returns-then-ne c = λ h at. no_method h c.of.result.now c.of-2.result.now (path_of c.in-Some.path) (c.of.ensures ∙ at.path) (c.of-2.ensures ∙ at.method) c.in-Some.ensures.some (differs _ _ _ c.if-ne.ensures c.method.ensures)

pub returns-in_default-question : goal.returns-in_default-question
returns-in_default-question c = λ h at. no_name h c.of.result.now c.of-2.result.now (path_of c.in-Some.path) (c.of.ensures ∙ at.path) (c.of-2.ensures ∙ at.method) c.in-Some.ensures.some (agrees _ _ _ c.if-ne.ensures c.method.ensures) c.in_default-question.ensures.none

pub returns-in-Err : goal.returns-in-Err
returns-in-Err c = λ h at.
    length_refused h c.of.result.now c.of-2.result.now (path_of c.in-Some.path) c.in-Some-question.question _ c.in-Err.refusal (c.of.ensures ∙ at.path) (c.of-2.ensures ∙ at.method) c.in-Some.ensures.some (agrees _ _ _ c.if-ne.ensures c.method.ensures)
    c.in-Some-question.ensures.some at.fields c.in-Err.ensures.posted c.in-Err.ensures.bodiless

pub returns-in-Ok : goal.returns-in-Ok
returns-in-Ok c = λ h at.
    called h c.of.result.now c.of-2.result.now (path_of c.in-Some.path) c.in-Some-question.question _ c.in-Ok.length (c.of.ensures ∙ at.path) (c.of-2.ensures ∙ at.method) c.in-Some.ensures.some (agrees _ _ _ c.if-ne.ensures c.method.ensures)
    c.in-Some-question.ensures.some at.fields c.in-Ok.ensures.posted c.in-Ok.ensures.bodiless

use Rattle.std.proofs.Common.{◌∙◌, refl}
use Rattle.std.proofs.lemmas.Result.{err_from_is_err_and}
use Rattle.desk_engine.proofs.AcceptingLemmas.{want_one}
use Rattle.desk_engine.proofs.StepLaws.{change_step, step_then}
use Rattle.desk_engine.proofs.sending.confirm.Goals as goal

pub returns-clause-step : goal.returns-clause-step
returns-clause-step g c =
    let v0 = g.R.Register.view c.args.register.now in
    let v1 = g.R.Register.view c.next_message.new.register in
    let first = c.in_ok-number.ensures.read in
    step_then v0 v1 (g.R.Register.view c.send.new.self) first.ok first.later c.send.result (change_step v1 (g.R.Register.view c.send.new.self) (first.ok.stage ∙ c.requires.stage) c.send.result c.send.ensures.change)

pub returns-in_err-message-clause-step : goal.returns-in_err-message-clause-step
returns-in_err-message-clause-step g c =
    let first = c.in_ok-number.ensures.read in
    let p = err_from_is_err_and c.from_residual-in_err-message.result c.from_residual-in_err-message.ensures.1 in
    rw (p.1, p.2) (want_one _ (g.R.Register.view c.args.register.now) (g.R.Register.view c.next_message.new.register) c.requires.stage first.ok first.later refl)

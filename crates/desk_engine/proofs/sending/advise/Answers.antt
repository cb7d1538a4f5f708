use Rattle.std.proofs.Common.{◌≡◌, refl, ◌∙◌, rules}
use Rattle.std.specs.Prelude.{Err}
use Rattle.std.proofs.lemmas.Result.{err_from_is_err_and}
use Rattle.desk_register.proofs.ViewLemmas.{later_then, stays_then}
use Rattle.desk_engine.proofs.AcceptingLemmas.{read_fails, want_step}
use Rattle.desk_engine.proofs.StepEnds.{read_breaks}
use Rattle.desk_engine.proofs.StepLaws.{change_step, step_ok, step_then}
use Rattle.desk_engine.proofs.sending.advise.Goals as goal

pub returns-clause-step : goal.returns-clause-step
returns-clause-step g c =
    let v0 = g.R.Register.view c.args.register.now in
    let v1 = g.R.Register.view c.instructed.new.register in
    let v2 = g.R.Register.view c.next_message.new.register in
    let v3 = g.R.Register.view c.send.new.self in
    let first = c.in_ok-paired.ensures.read in
    let second = c.in_ok-number.ensures.read in
    let stays = stays_then v0 v1 v2 first.ok first.later second.later second.ok in
    step_then v0 v2 v3 stays (later_then v0 v1 v2 first.ok first.later second.later) c.send.result (change_step v2 v3 (stays.stage ∙ c.requires.stage) c.send.result c.send.ensures.change)

pub returns-in_err-message-clause-step : goal.returns-in_err-message-clause-step
returns-in_err-message-clause-step g c =
    let first = c.in_ok-paired.ensures.read in
    let second = c.in_ok-number.ensures.read in
    let p = err_from_is_err_and c.from_residual-in_err-message.result c.from_residual-in_err-message.ensures.1 in
    rw (p.1, p.2)
    (want_step _ (g.R.Register.view c.args.register.now) (g.R.Register.view c.instructed.new.register) (g.R.Register.view c.next_message.new.register) c.requires.stage first.ok first.later second.ok second.later refl)

pub returns-in_err-paired-clause-step : goal.returns-in_err-paired-clause-step
returns-in_err-paired-clause-step g c =
    let is : c.from_residual.result ≡ Err c.in_err-paired.field-0.0 = search rules in
    rw is (read_fails c.in_err-paired.field-0.0 (g.R.Register.view c.args.register.now) (g.R.Register.view c.instructed.new.register) c.requires.stage c.in_err-paired.ensures.read)

pub returns-in_default-clause-step : goal.returns-in_default-clause-step
returns-in_default-clause-step g c =
    let r = c.in_ok-paired.ensures.read in
    step_ok _ (g.R.Register.view c.args.register.now) (g.R.Register.view c.instructed.new.register) r.ok r.later

pub returns-in_err-number-clause-step : goal.returns-in_err-number-clause-step
returns-in_err-number-clause-step g c =
    let v0 = g.R.Register.view c.args.register.now in
    let v1 = g.R.Register.view c.instructed.new.register in
    let v2 = g.R.Register.view c.next_message.new.register in
    let r = c.in_ok-paired.ensures.read in
    let is : c.from_residual-in_err-number.result ≡ Err c.in_err-number.field-0.0 = search rules in
    rw is (read_breaks v0 v1 v2 r.ok r.later c.in_err-number.field-0.0 c.requires.stage c.in_err-number.ensures.read)

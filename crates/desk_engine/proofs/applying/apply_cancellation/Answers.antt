use Rattle.std.proofs.Common.{◌≡◌, ◌≢◌, refl, sym, ap, ◌∙◌, rules}
use Rattle.std.specs.Prelude.{Err}
use Rattle.desk_register.specs.declared.register.Stage.TheVariants.{Failed}
use Rattle.desk_register.proofs.ViewLemmas.{begun_goes, later_then, stays_then}
use Rattle.desk_rules.specs.Content.{Content, history_of}
use Rattle.desk_rules.specs.Verdict.{named_by}
use Rattle.desk_engine.specs.Cancelling.{off_by}
use Rattle.desk_engine.proofs.AcceptingLemmas.{accepted_still, cancelled_step, read_fails, room_of, want_step}
use Rattle.desk_engine.proofs.StepEnds.{change_breaks, goes_well, read_breaks}
use Rattle.desk_engine.proofs.applying.apply_cancellation.Goals as goal

pub add_cancellation-requires-clause-accepted : goal.add_cancellation-requires-clause-accepted
add_cancellation-requires-clause-accepted g c = λ honest sure.
    let r = c.in_ok-number.ensures.read in
    let f = c.in_ok-off.ensures.read in
    let honest1 = f.later.honest honest in
    let honest0 = r.later.honest honest1 in
    let sure1 = f.later.sure honest sure in
    let sure0 = r.later.sure honest1 sure1 in
    accepted_still (g.R.Register.view c.args.register.now) (g.R.Register.view c.calls_off.new.register) _ (c.requires.accepted honest0 sure0) (f.same honest sure1 ∙ r.same honest1 sure0) (f.later.room ∙ r.later.room)

pub add_cancellation-requires-clause-off : goal.add_cancellation-requires-clause-off
add_cancellation-requires-clause-off g c = λ honest sure.
    let r = c.in_ok-number.ensures.read in
    let f = c.in_ok-off.ensures in
    let sure1 = f.read.later.sure honest sure in
    let well : (g.R.Register.view c.next_number.new.register).stage ≢ Failed = begun_goes _ (r.ok.stage ∙ c.requires.stage) in
    f.value honest sure1 well ∙ ap (λ (x : Content). off_by x.standing (named_by (history_of x) c.args.sender c.args.order)) (sym (f.read.same honest sure1))

pub returns-clause-applied : goal.returns-clause-applied
returns-clause-applied g c = λ books honest sure keeps.
    let r = c.in_ok-number.ensures in
    let f = c.in_ok-off.ensures in
    let add = c.in_ok-add_cancellation.ensures in
    let honest2 = add.change.later.honest honest in
    let honest1 = f.read.later.honest honest2 in
    let honest0 = r.read.later.honest honest1 in
    let sure1 = r.read.ok.sure honest1 sure in
    let sure2 = f.read.ok.sure honest2 sure1 in
    let v0 = g.R.Register.view c.args.register.now in
    let can = c.requires.accepted honest0 sure in
    let well : (g.R.Register.view c.next_number.new.register).stage ≢ Failed = begun_goes _ (r.read.ok.stage ∙ c.requires.stage) in
    let is_off = f.value honest2 sure1 well ∙ ap (λ (x : Content). off_by x.standing (named_by (history_of x) c.args.sender c.args.order)) (r.read.same honest1 sure) in
    cancelled_step v0 (g.R.Register.view c.calls_off.new.register) (g.R.Register.view c.add_cancellation.new.register) books c.args.sender c.args.order c.in_ok-reply.reply c.in_ok-number.number c.in_ok-off.off _
    (f.read.same honest2 sure1 ∙ r.read.same honest1 sure) (f.read.later.room ∙ r.read.later.room) (add.tables books honest sure2) (rw c.in_ok-kept.ensures.reply at (add.added honest sure2)) is_off can
    (r.value honest1 sure (room_of v0.room _ v0.content can)) refl refl refl refl refl c.state.ensures c.in_ok-reply.ensures.reply keeps

pub returns-in_err-number-clause-step : goal.returns-in_err-number-clause-step
returns-in_err-number-clause-step g c =
    let v0 = g.R.Register.view c.args.register.now in
    let v1 = g.R.Register.view c.next_number.new.register in
    let is : c.from_residual.result ≡ Err c.in_err-number.field-0.0 = search rules in
    rw is (read_fails c.in_err-number.field-0.0 v0 v1 c.requires.stage c.in_err-number.ensures.read)

pub returns-in_err-off-clause-step : goal.returns-in_err-off-clause-step
returns-in_err-off-clause-step g c =
    let v0 = g.R.Register.view c.args.register.now in
    let v1 = g.R.Register.view c.next_number.new.register in
    let v2 = g.R.Register.view c.calls_off.new.register in
    let r = c.in_ok-number.ensures.read in
    let is : c.from_residual-in_err-off.result ≡ Err c.in_err-off.field-0.0 = search rules in
    rw is (read_breaks v0 v1 v2 r.ok r.later c.in_err-off.field-0.0 c.requires.stage c.in_err-off.ensures.read)

pub returns-in_err-reply-clause-step : goal.returns-in_err-reply-clause-step
returns-in_err-reply-clause-step g c =
    let v0 = g.R.Register.view c.args.register.now in
    let v1 = g.R.Register.view c.next_number.new.register in
    let v2 = g.R.Register.view c.calls_off.new.register in
    let r = c.in_ok-number.ensures.read in
    let p = c.in_ok-off.ensures.read in
    let is : c.from_residual-in_err-reply.result ≡ Err c.in_err-reply.field-0.0 = search rules in
    rw is (want_step c.in_err-reply.field-0.0 v0 v1 v2 c.requires.stage r.ok r.later p.ok p.later c.in_err-reply.ensures.memory)

pub returns-in_err-kept-clause-step : goal.returns-in_err-kept-clause-step
returns-in_err-kept-clause-step g c =
    let v0 = g.R.Register.view c.args.register.now in
    let v1 = g.R.Register.view c.next_number.new.register in
    let v2 = g.R.Register.view c.calls_off.new.register in
    let r = c.in_ok-number.ensures.read in
    let p = c.in_ok-off.ensures.read in
    let is : c.from_residual-in_err-kept.result ≡ Err c.in_err-kept.field-0.0 = search rules in
    rw is (want_step c.in_err-kept.field-0.0 v0 v1 v2 c.requires.stage r.ok r.later p.ok p.later c.in_err-kept.ensures.memory)

pub returns-in_err-add_cancellation-clause-step : goal.returns-in_err-add_cancellation-clause-step
returns-in_err-add_cancellation-clause-step g c =
    let v0 = g.R.Register.view c.args.register.now in
    let v1 = g.R.Register.view c.next_number.new.register in
    let v2 = g.R.Register.view c.calls_off.new.register in
    let v3 = g.R.Register.view c.add_cancellation.new.register in
    let r = c.in_ok-number.ensures.read in
    let p = c.in_ok-off.ensures.read in
    let stays = stays_then v0 v1 v2 r.ok r.later p.later p.ok in
    let before = later_then v0 v1 v2 r.ok r.later p.later in
    let is : c.from_residual-in_err-add_cancellation.result ≡ Err c.in_err-add_cancellation.field-0.0 = search rules in
    rw is (change_breaks v0 v2 v3 stays before c.in_err-add_cancellation.field-0.0 c.requires.stage c.in_err-add_cancellation.ensures.change)

pub returns-clause-step : goal.returns-clause-step
returns-clause-step g c =
    let v0 = g.R.Register.view c.args.register.now in
    let v1 = g.R.Register.view c.next_number.new.register in
    let v2 = g.R.Register.view c.calls_off.new.register in
    let v3 = g.R.Register.view c.add_cancellation.new.register in
    let r = c.in_ok-number.ensures.read in
    let p = c.in_ok-off.ensures.read in
    let stays = stays_then v0 v1 v2 r.ok r.later p.later p.ok in
    let before = later_then v0 v1 v2 r.ok r.later p.later in
    let add = c.in_ok-add_cancellation.ensures.change in
    goes_well v0 v2 v3 stays before _ add.later add.ok

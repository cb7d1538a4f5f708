use Rattle.std.proofs.Common.{refl, ap, ◌∙◌, ◌≡◌, rules}
use Rattle.desk_rules.specs.Content.{Content}
use Rattle.desk_engine.proofs.AcceptingLemmas.{can_run_still, number_after, passed_of, room_of, run_step, tables_still, read_fails, want_step}
use Rattle.std.specs.Prelude.{Err}
use Rattle.desk_engine.proofs.StepEnds.{change_breaks, goes_well, step_breaks}
use Rattle.desk_register.proofs.ViewLemmas.{later_then, stays_then}
use Rattle.desk_engine.proofs.applying.apply_run.Goals as goal

pub run_passes-requires-clause-number : goal.run_passes-requires-clause-number
run_passes-requires-clause-number g c = λ honest sure.
    let r = c.in_ok-number.ensures in
    let v0 = g.R.Register.view c.args.register.now in
    let v1 = g.R.Register.view c.next_number.new.register in
    let honest0 = r.read.later.honest honest in
    let sure0 = r.read.later.sure honest sure in
    number_after v0 v1 v1 _ c.in_ok-number.number (c.requires.accepted honest0 sure0) (r.read.same honest sure0) refl (r.value honest sure0)

pub run_passes-requires-clause-tables : goal.run_passes-requires-clause-tables
run_passes-requires-clause-tables g c = λ honest sure.
    let r = c.in_ok-number.ensures.read in
    let honest0 = r.later.honest honest in
    let sure0 = r.later.sure honest sure in
    can_run_still (g.R.Register.view c.args.register.now) (g.R.Register.view c.next_number.new.register) _ (c.requires.accepted honest0 sure0) (r.same honest sure0) r.later.room

pub add_run-requires-clause-passed : goal.add_run-requires-clause-passed
add_run-requires-clause-passed g c = λ honest sure.
    let r = c.in_ok-number.ensures.read in
    let p = c.in_ok-made.ensures in
    let honest1 = p.step.later.honest honest in
    let honest0 = r.later.honest honest1 in
    let sure1 = p.step.later.sure honest sure in
    let sure0 = r.later.sure honest1 sure1 in
    let v0 = g.R.Register.view c.args.register.now in
    let v1 = g.R.Register.view c.next_number.new.register in
    let v2 = g.R.Register.view c.run_passes.new.register in
    let can = c.requires.accepted honest0 sure0 in
    passed_of v0 v2 v2 c.args.reference c.args.day c.args.rule _ _ _ can
    (p.ran can.books c.args.reference honest sure1 (tables_still v0 v1 can.books can.keeps (r.same honest1 sure0) r.later.room)) refl (p.step.later.room ∙ r.later.room)

pub returns-clause-applied : goal.returns-clause-applied
returns-clause-applied g c = λ books honest sure keeps.
    let r = c.in_ok-number.ensures in
    let p = c.in_ok-made.ensures in
    let add = c.in_ok-add_run.ensures in
    let honest2 = add.change.later.honest honest in
    let honest1 = p.step.later.honest honest2 in
    let honest0 = r.read.later.honest honest1 in
    let sure1 = r.read.ok.sure honest1 sure in
    let sure2 = p.step.ok.sure honest2 sure1 in
    let v0 = g.R.Register.view c.args.register.now in
    let v1 = g.R.Register.view c.next_number.new.register in
    let v2 = g.R.Register.view c.run_passes.new.register in
    let can = c.requires.accepted honest0 sure in
    let same = r.read.same honest1 sure in
    run_step v0 v2 v2 (g.R.Register.view c.add_run.new.register) books c.args.reference c.args.day c.args.rule c.in_ok-reply.reply c.in_ok-number.number _
    can (p.ran books c.args.reference honest2 sure1 (tables_still v0 v1 books keeps same r.read.later.room)) (p.kept honest2 sure1 ∙ ap (λ (x : Content). x.register) same) refl (rw c.in_ok-kept.ensures.reply at (add.added honest sure2))
    (r.value honest1 sure (room_of v0.room _ v0.content can)) refl refl c.in_ok-reply.ensures.reply keeps

pub returns-in_err-number-clause-step : goal.returns-in_err-number-clause-step
returns-in_err-number-clause-step g c =
    let v0 = g.R.Register.view c.args.register.now in
    let v1 = g.R.Register.view c.next_number.new.register in
    let is : c.from_residual.result ≡ Err c.in_err-number.field-0.0 = search rules in
    rw is (read_fails c.in_err-number.field-0.0 v0 v1 c.requires.stage c.in_err-number.ensures.read)

pub returns-in_err-made-clause-step : goal.returns-in_err-made-clause-step
returns-in_err-made-clause-step g c =
    let v0 = g.R.Register.view c.args.register.now in
    let v1 = g.R.Register.view c.next_number.new.register in
    let v2 = g.R.Register.view c.run_passes.new.register in
    let r = c.in_ok-number.ensures.read in
    let is : c.from_residual-in_err-made.result ≡ Err c.in_err-made.field-0.0 = search rules in
    rw is (step_breaks v0 v1 v2 r.ok r.later c.in_err-made.field-0.0 c.in_err-made.ensures.step)

pub returns-in_err-reply-clause-step : goal.returns-in_err-reply-clause-step
returns-in_err-reply-clause-step g c =
    let v0 = g.R.Register.view c.args.register.now in
    let v1 = g.R.Register.view c.next_number.new.register in
    let v2 = g.R.Register.view c.run_passes.new.register in
    let r = c.in_ok-number.ensures.read in
    let p = c.in_ok-made.ensures.step in
    let is : c.from_residual-in_err-reply.result ≡ Err c.in_err-reply.field-0.0 = search rules in
    rw is (want_step c.in_err-reply.field-0.0 v0 v1 v2 c.requires.stage r.ok r.later p.ok p.later c.in_err-reply.ensures.memory)

pub returns-in_err-kept-clause-step : goal.returns-in_err-kept-clause-step
returns-in_err-kept-clause-step g c =
    let v0 = g.R.Register.view c.args.register.now in
    let v1 = g.R.Register.view c.next_number.new.register in
    let v2 = g.R.Register.view c.run_passes.new.register in
    let r = c.in_ok-number.ensures.read in
    let p = c.in_ok-made.ensures.step in
    let is : c.from_residual-in_err-kept.result ≡ Err c.in_err-kept.field-0.0 = search rules in
    rw is (want_step c.in_err-kept.field-0.0 v0 v1 v2 c.requires.stage r.ok r.later p.ok p.later c.in_err-kept.ensures.memory)

pub returns-in_err-add_run-clause-step : goal.returns-in_err-add_run-clause-step
returns-in_err-add_run-clause-step g c =
    let v0 = g.R.Register.view c.args.register.now in
    let v1 = g.R.Register.view c.next_number.new.register in
    let v2 = g.R.Register.view c.run_passes.new.register in
    let v3 = g.R.Register.view c.add_run.new.register in
    let r = c.in_ok-number.ensures.read in
    let p = c.in_ok-made.ensures.step in
    let stays = stays_then v0 v1 v2 r.ok r.later p.later p.ok in
    let before = later_then v0 v1 v2 r.ok r.later p.later in
    let is : c.from_residual-in_err-add_run.result ≡ Err c.in_err-add_run.field-0.0 = search rules in
    rw is (change_breaks v0 v2 v3 stays before c.in_err-add_run.field-0.0 c.requires.stage c.in_err-add_run.ensures.change)

pub returns-clause-step : goal.returns-clause-step
returns-clause-step g c =
    let v0 = g.R.Register.view c.args.register.now in
    let v1 = g.R.Register.view c.next_number.new.register in
    let v2 = g.R.Register.view c.run_passes.new.register in
    let v3 = g.R.Register.view c.add_run.new.register in
    let r = c.in_ok-number.ensures.read in
    let p = c.in_ok-made.ensures.step in
    let stays = stays_then v0 v1 v2 r.ok r.later p.later p.ok in
    let before = later_then v0 v1 v2 r.ok r.later p.later in
    let add = c.in_ok-add_run.ensures.change in
    goes_well v0 v2 v3 stays before _ add.later add.ok

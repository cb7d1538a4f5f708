use Rattle.std.proofs.Common.{◌≡◌, refl, ◌∙◌, rules}
use Rattle.std.specs.Prelude.{Err}
use Rattle.desk_engine.proofs.AcceptingLemmas.{accepted_still, read_fails, want_step, instructed_step, number_after, room_of}
use Rattle.desk_engine.proofs.StepEnds.{goes_well, read_breaks, step_breaks}
use Rattle.desk_register.proofs.ViewLemmas.{later_then, stays_then}
use Rattle.desk_engine.proofs.applying.apply_instruction.Goals as goal

pub add_instruction-requires-clause-number : goal.add_instruction-requires-clause-number
add_instruction-requires-clause-number g c = λ honest sure.
    let r = c.in_ok-number.ensures in
    let f = c.in_ok-mate.ensures.read in
    let honest1 = f.later.honest honest in
    let honest0 = r.read.later.honest honest1 in
    let sure1 = f.later.sure honest sure in
    let sure0 = r.read.later.sure honest1 sure1 in
    let v0 = g.R.Register.view c.args.register.now in
    number_after v0 (g.R.Register.view c.next_number.new.register) (g.R.Register.view c.first_opposite.new.self) _ c.in_ok-number.number
    (c.requires.accepted honest0 sure0) (r.read.same honest1 sure0) (f.same honest sure1) (r.value honest1 sure0)

pub returns-clause-applied : goal.returns-clause-applied
returns-clause-applied g c = λ books honest sure keeps.
    let r = c.in_ok-number.ensures in
    let f = c.in_ok-mate.ensures in
    let add = c.in_ok-add_instruction.ensures in
    let honest2 = add.step.later.honest honest in
    let honest1 = f.read.later.honest honest2 in
    let honest0 = r.read.later.honest honest1 in
    let sure1 = r.read.ok.sure honest1 sure in
    let sure2 = f.read.ok.sure honest2 sure1 in
    let v0 = g.R.Register.view c.args.register.now in
    let can = c.requires.accepted honest0 sure in
    instructed_step v0 (g.R.Register.view c.first_opposite.new.self) (g.R.Register.view c.add_instruction.new.register) books c.args.sender c.args.instruction c.in_ok-reply.reply c.in_ok-number.number c.in_ok-mate.mate _
    (f.read.same honest2 sure1 ∙ r.read.same honest1 sure) (f.read.later.room ∙ r.read.later.room) (add.tables books honest sure2) (rw c.in_ok-kept.ensures.reply at (add.added honest sure2)) (r.value honest1 sure (room_of v0.room _ v0.content can))
    refl refl refl refl refl c.in_ok-reply.ensures.reply keeps

pub add_instruction-requires-clause-accepted : goal.add_instruction-requires-clause-accepted
add_instruction-requires-clause-accepted g c = λ honest sure.
    let r = c.in_ok-number.ensures in
    let f = c.in_ok-mate.ensures.read in
    let honest1 = f.later.honest honest in
    let honest0 = r.read.later.honest honest1 in
    let sure1 = f.later.sure honest sure in
    let sure0 = r.read.later.sure honest1 sure1 in
    accepted_still (g.R.Register.view c.args.register.now) (g.R.Register.view c.first_opposite.new.self) _ (c.requires.accepted honest0 sure0) (f.same honest sure1 ∙ r.read.same honest1 sure0) (f.later.room ∙ r.read.later.room)

pub returns-in_err-number-clause-step : goal.returns-in_err-number-clause-step
returns-in_err-number-clause-step g c =
    let v0 = g.R.Register.view c.args.register.now in
    let v1 = g.R.Register.view c.next_number.new.register in
    let is : c.from_residual.result ≡ Err c.in_err-number.field-0.0 = search rules in
    rw is (read_fails c.in_err-number.field-0.0 v0 v1 c.requires.stage c.in_err-number.ensures.read)

pub returns-in_err-mate-clause-step : goal.returns-in_err-mate-clause-step
returns-in_err-mate-clause-step g c =
    let v0 = g.R.Register.view c.args.register.now in
    let v1 = g.R.Register.view c.next_number.new.register in
    let v2 = g.R.Register.view c.first_opposite.new.self in
    let r = c.in_ok-number.ensures.read in
    let is : c.from_residual-in_err-mate.result ≡ Err c.in_err-mate.field-0.0 = search rules in
    rw is (read_breaks v0 v1 v2 r.ok r.later c.in_err-mate.field-0.0 c.requires.stage c.in_err-mate.ensures.read)

pub returns-in_err-reply-clause-step : goal.returns-in_err-reply-clause-step
returns-in_err-reply-clause-step g c =
    let v0 = g.R.Register.view c.args.register.now in
    let v1 = g.R.Register.view c.next_number.new.register in
    let v2 = g.R.Register.view c.first_opposite.new.self in
    let r = c.in_ok-number.ensures.read in
    let p = c.in_ok-mate.ensures.read in
    let is : c.from_residual-in_err-reply.result ≡ Err c.in_err-reply.field-0.0 = search rules in
    rw is (want_step c.in_err-reply.field-0.0 v0 v1 v2 c.requires.stage r.ok r.later p.ok p.later c.in_err-reply.ensures.memory)

pub returns-in_err-kept-clause-step : goal.returns-in_err-kept-clause-step
returns-in_err-kept-clause-step g c =
    let v0 = g.R.Register.view c.args.register.now in
    let v1 = g.R.Register.view c.next_number.new.register in
    let v2 = g.R.Register.view c.first_opposite.new.self in
    let r = c.in_ok-number.ensures.read in
    let p = c.in_ok-mate.ensures.read in
    let is : c.from_residual-in_err-kept.result ≡ Err c.in_err-kept.field-0.0 = search rules in
    rw is (want_step c.in_err-kept.field-0.0 v0 v1 v2 c.requires.stage r.ok r.later p.ok p.later c.in_err-kept.ensures.memory)

pub returns-in_err-add_instruction-clause-step : goal.returns-in_err-add_instruction-clause-step
returns-in_err-add_instruction-clause-step g c =
    let v0 = g.R.Register.view c.args.register.now in
    let v1 = g.R.Register.view c.next_number.new.register in
    let v2 = g.R.Register.view c.first_opposite.new.self in
    let v3 = g.R.Register.view c.add_instruction.new.register in
    let r = c.in_ok-number.ensures.read in
    let p = c.in_ok-mate.ensures.read in
    let stays = stays_then v0 v1 v2 r.ok r.later p.later p.ok in
    let before = later_then v0 v1 v2 r.ok r.later p.later in
    let is : c.from_residual-in_err-add_instruction.result ≡ Err c.in_err-add_instruction.field-0.0 = search rules in
    rw is (step_breaks v0 v2 v3 stays before c.in_err-add_instruction.field-0.0 c.in_err-add_instruction.ensures.step)

pub returns-clause-step : goal.returns-clause-step
returns-clause-step g c =
    let v0 = g.R.Register.view c.args.register.now in
    let v1 = g.R.Register.view c.next_number.new.register in
    let v2 = g.R.Register.view c.first_opposite.new.self in
    let v3 = g.R.Register.view c.add_instruction.new.register in
    let r = c.in_ok-number.ensures.read in
    let p = c.in_ok-mate.ensures.read in
    let stays = stays_then v0 v1 v2 r.ok r.later p.later p.ok in
    let before = later_then v0 v1 v2 r.ok r.later p.later in
    let add = c.in_ok-add_instruction.ensures.step in
    goes_well v0 v2 v3 stays before _ add.later add.ok

use Rattle.std.proofs.Common.{refl, ◌≡◌, rules}
use Rattle.desk_engine.proofs.AcceptingLemmas.{accepted_still, booked_step, room_of, read_fails, want_one}
use Rattle.std.specs.Prelude.{Err}
use Rattle.desk_engine.proofs.StepEnds.{change_breaks, goes_well}
use Rattle.desk_engine.proofs.applying.apply_booking.Goals as goal

pub returns-clause-applied : goal.returns-clause-applied
returns-clause-applied g c = λ books honest sure keeps.
    let r = c.in_ok-number.ensures in
    let add = c.in_ok-add_booking.ensures in
    let honest1 = add.change.later.honest honest in
    let honest0 = r.read.later.honest honest1 in
    let sure1 = r.read.ok.sure honest1 sure in
    let v0 = g.R.Register.view c.args.register.now in
    let can = c.requires.accepted honest0 sure in
    booked_step v0 (g.R.Register.view c.next_number.new.register) (g.R.Register.view c.add_booking.new.register) books c.args.entry c.in_ok-reply.reply c.in_ok-number.number _
    (r.read.same honest1 sure) r.read.later.room c.requires.kind (add.tables books honest sure1) (rw c.in_ok-kept.ensures.reply at (add.added honest sure1)) (r.value honest1 sure (room_of v0.room c.args.entry v0.content can))
    refl refl refl refl refl c.in_ok-reply.ensures.reply keeps

pub add_booking-requires-clause-accepted : goal.add_booking-requires-clause-accepted
add_booking-requires-clause-accepted g c = λ honest sure.
    let r = c.in_ok-number.ensures.read in
    let honest0 = r.later.honest honest in
    let sure0 = r.later.sure honest sure in
    accepted_still (g.R.Register.view c.args.register.now) (g.R.Register.view c.next_number.new.register) c.args.entry (c.requires.accepted honest0 sure0) (r.same honest sure0) r.later.room

pub returns-in_err-number-clause-step : goal.returns-in_err-number-clause-step
returns-in_err-number-clause-step g c =
    let v0 = g.R.Register.view c.args.register.now in
    let v1 = g.R.Register.view c.next_number.new.register in
    let is : c.from_residual.result ≡ Err c.in_err-number.field-0.0 = search rules in
    rw is (read_fails c.in_err-number.field-0.0 v0 v1 c.requires.stage c.in_err-number.ensures.read)

pub returns-in_err-reply-clause-step : goal.returns-in_err-reply-clause-step
returns-in_err-reply-clause-step g c =
    let v0 = g.R.Register.view c.args.register.now in
    let v1 = g.R.Register.view c.next_number.new.register in
    let r = c.in_ok-number.ensures.read in
    let is : c.from_residual-in_err-reply.result ≡ Err c.in_err-reply.field-0.0 = search rules in
    rw is (want_one c.in_err-reply.field-0.0 v0 v1 c.requires.stage r.ok r.later c.in_err-reply.ensures.memory)

pub returns-in_err-kept-clause-step : goal.returns-in_err-kept-clause-step
returns-in_err-kept-clause-step g c =
    let v0 = g.R.Register.view c.args.register.now in
    let v1 = g.R.Register.view c.next_number.new.register in
    let r = c.in_ok-number.ensures.read in
    let is : c.from_residual-in_err-kept.result ≡ Err c.in_err-kept.field-0.0 = search rules in
    rw is (want_one c.in_err-kept.field-0.0 v0 v1 c.requires.stage r.ok r.later c.in_err-kept.ensures.memory)

pub returns-in_err-add_booking-clause-step : goal.returns-in_err-add_booking-clause-step
returns-in_err-add_booking-clause-step g c =
    let v0 = g.R.Register.view c.args.register.now in
    let v1 = g.R.Register.view c.next_number.new.register in
    let v2 = g.R.Register.view c.add_booking.new.register in
    let r = c.in_ok-number.ensures.read in
    let is : c.from_residual-in_err-add_booking.result ≡ Err c.in_err-add_booking.field-0.0 = search rules in
    rw is (change_breaks v0 v1 v2 r.ok r.later c.in_err-add_booking.field-0.0 c.requires.stage c.in_err-add_booking.ensures.change)

pub returns-clause-step : goal.returns-clause-step
returns-clause-step g c =
    let v0 = g.R.Register.view c.args.register.now in
    let v1 = g.R.Register.view c.next_number.new.register in
    let v2 = g.R.Register.view c.add_booking.new.register in
    let r = c.in_ok-number.ensures.read in
    let add = c.in_ok-add_booking.ensures.change in
    goes_well v0 v1 v2 r.ok r.later _ add.later add.ok

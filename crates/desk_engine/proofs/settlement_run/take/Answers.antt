use Rattle.std.proofs.Common.{◌≡◌, rules}
use Rattle.std.specs.Prelude.{Err}
use Rattle.desk_codes.specs.Number.{number_of}
use Rattle.desk_engine.proofs.AcceptingLemmas.{read_fails}
use Rattle.desk_engine.proofs.NextLemmas.{due_here, fares_so, try_here}
use Rattle.desk_engine.proofs.StepEnds.{goes_well, step_breaks}
use Rattle.desk_engine.proofs.StepLaws.{step_ok}
use Rattle.desk_engine.proofs.settlement_run.take.Goals as goal

pub returns-in_err-next_pair-clause-step : goal.returns-in_err-next_pair-clause-step
returns-in_err-next_pair-clause-step g c =
    let v0 = g.R.Register.view c.args.register.now in
    let v1 = g.R.Register.view c.next_pair.new.register in
    let is : c.from_residual.result ≡ Err c.in_err-next_pair.field-0.0 = search rules in
    rw is (read_fails c.in_err-next_pair.field-0.0 v0 v1 c.requires.stage c.in_err-next_pair.ensures.read)

pub settles-requires-clause-due : goal.settles-requires-clause-due
settles-requires-clause-due g c = λ honest sure.
    let v0 = g.R.Register.view c.args.register.now in
    let v1 = g.R.Register.view c.next_pair.new.register in
    let r = c.in_ok-next_pair.ensures.read in
    let sure0 = r.later.sure honest sure in
    due_here v0.content v1.content (r.same honest sure0) c.args.again (number_of c.args.day) c.args.place c.in_ok-next_pair.field-0 c.in-Some.next c.in-Some.is (c.in_ok-next_pair.ensures.next honest sure0)

pub settles-requires-clause-fits : goal.settles-requires-clause-fits
settles-requires-clause-fits g c = λ honest sure.
    let v0 = g.R.Register.view c.args.register.now in
    let v1 = g.R.Register.view c.next_pair.new.register in
    let r = c.in_ok-next_pair.ensures.read in
    let sure0 = r.later.sure honest sure in
    try_here v0.content v1.content (r.same honest sure0) v0.room v1.room c.in-Some.next.number (number_of c.args.day) r.later.room
    (c.requires.fits (r.later.honest honest) sure0 c.in-Some.next (rw c.in-Some.is at (c.in_ok-next_pair.ensures.next honest sure0)))

pub returns-in_err-settles-in-Some-clause-step : goal.returns-in_err-settles-in-Some-clause-step
returns-in_err-settles-in-Some-clause-step g c =
    let v0 = g.R.Register.view c.args.register.now in
    let v1 = g.R.Register.view c.next_pair.new.register in
    let v2 = g.R.Register.view c.settles.new.register in
    let r = c.in_ok-next_pair.ensures.read in
    let is : c.from_residual-in_err-settles-in-Some.result ≡ Err c.in_err-settles-in-Some.field-0.0 = search rules in
    rw is (step_breaks v0 v1 v2 r.ok r.later c.in_err-settles-in-Some.field-0.0 c.in_err-settles-in-Some.ensures.step)

pub returns-in-None-clause-taken : goal.returns-in-None-clause-taken
returns-in-None-clause-taken g c = λ honest sure. (rw c.in-None.is at (c.in_ok-next_pair.ensures.next honest sure), c.in_ok-next_pair.ensures.read.same honest sure)

pub returns-in-None-clause-step : goal.returns-in-None-clause-step
returns-in-None-clause-step g c =
    let v0 = g.R.Register.view c.args.register.now in
    let v1 = g.R.Register.view c.next_pair.new.register in
    let r = c.in_ok-next_pair.ensures.read in
    step_ok _ v0 v1 r.ok r.later

pub returns-in_ok-settles-in-Some-clause-taken : goal.returns-in_ok-settles-in-Some-clause-taken
returns-in_ok-settles-in-Some-clause-taken g c = λ honest sure.
    let v0 = g.R.Register.view c.args.register.now in
    let v1 = g.R.Register.view c.next_pair.new.register in
    let v2 = g.R.Register.view c.settles.new.register in
    let r = c.in_ok-next_pair.ensures in
    let s = c.in_ok-settles-in-Some.ensures in
    let honest1 = s.step.later.honest honest in
    (rw c.in-Some.is at (r.next honest1 sure), fares_so v0.content v1.content (r.read.same honest1 sure) c.in-Some.next.number c.args.day c.in_ok-settles-in-Some.settles v2.content (s.fares honest (r.read.ok.sure honest1 sure)))

pub returns-in_ok-settles-in-Some-clause-step : goal.returns-in_ok-settles-in-Some-clause-step
returns-in_ok-settles-in-Some-clause-step g c =
    let v0 = g.R.Register.view c.args.register.now in
    let v1 = g.R.Register.view c.next_pair.new.register in
    let v2 = g.R.Register.view c.settles.new.register in
    let r = c.in_ok-next_pair.ensures.read in
    let s = c.in_ok-settles-in-Some.ensures.step in
    goes_well v0 v1 v2 r.ok r.later _ s.later s.ok

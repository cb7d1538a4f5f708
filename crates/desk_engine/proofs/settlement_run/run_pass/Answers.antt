use Rattle.std.proofs.Common.{◌≡◌, refl, ◌+◌, ◌-◌, ◌≤◌, ◌∙◌, ap, arith, rules}
use Rattle.std.specs.Prelude.{Err}
use Rattle.std.proofs.lemmas.Bool.{ltb-true}
use Rattle.desk_register.specs.declared.register.Fault.TheVariants.{Storage}
use Rattle.desk_engine.specs.declared.settlement_run.Ran.{Ran}
use Rattle.desk_register.proofs.ViewLemmas.{stays_then, later_then}
use Rattle.desk_rules.specs.Content.{Content}
use Rattle.desk_engine.proofs.StepEnds.{goes_well, step_breaks}
use Rattle.desk_engine.proofs.StepLaws.{gives_up}
use Rattle.desk_engine.proofs.TryingLemmas.{trying_begins, trying_goes_on, trying_can_try, trying_ends, trying_ends_so, trying_settles_few}
use Rattle.desk_engine.proofs.settlement_run.run_pass.Goals as goal

pub pairs-init : goal.pairs-init
pairs-init g c = (let v0 = g.R.Register.view c.args.register.now in trying_begins v0.room v0 c.args.day _)

pub take-requires-clause-stage : goal.take-requires-clause-stage
take-requires-clause-stage g c = c.pairs.invariant.stays.stage ∙ c.requires.stage

pub take-requires-clause-fits : goal.take-requires-clause-fits
take-requires-clause-fits g c =
    let v0 = g.R.Register.view c.args.register.now in
    trying_can_try v0.room v0 (g.R.Register.view c.pairs.register) c.args.day _ c.pairs.place c.pairs.tried c.pairs.settled c.pairs.invariant c.args.number c.args.before refl c.requires.fits

pub pairs-preserved : goal.pairs-preserved
pairs-preserved g c =
    let v0 = g.R.Register.view c.args.register.now in
    let t = c.in_ok-take.ensures in
    trying_goes_on v0.room v0 (g.R.Register.view c.pairs.register) c.args.day _ c.pairs.place c.pairs.tried c.pairs.settled c.pairs.invariant
    (g.R.Register.view c.take.new.register) c.counted-settled.result c.in-Some.taken t.step.ok t.step.later (rw c.in-Some.is at t.taken) c.counted-settled.ensures

pub returns-clause-step : goal.returns-clause-step
returns-clause-step g c =
    let v0 = g.R.Register.view c.args.register.now in
    let v = g.R.Register.view c.pairs.register in
    let i = c.pairs.invariant in
    let all : c.args.number ≤ c.pairs.tried = omega arith in
    gives_up {X = Ran} Storage v0 v c.requires.stage i.stays i.later
    (trying_ends_so v0.room v0 v c.args.day _ c.pairs.place c.pairs.tried c.pairs.settled i c.args.number c.args.before refl c.requires.fits c.requires.number all)

pub returns-in_err-ran-in-None-clause-step : goal.returns-in_err-ran-in-None-clause-step
returns-in_err-ran-in-None-clause-step g c =
    let v0 = g.R.Register.view c.args.register.now in
    let v = g.R.Register.view c.pairs.register in
    let w = g.R.Register.view c.take.new.register in
    let i = c.pairs.invariant in
    let t = c.in_ok-take.ensures.step in
    let is : c.from_residual-in_err-ran-in-None.result ≡ Err c.in_err-ran-in-None.field-0.0 = search rules in
    let all : c.over.result.settled ≡ c.begun-begun.result.settled + c.pairs.settled = ap (λ (r : Ran). r.settled) c.over.ensures in
    let before : c.begun-begun.result.settled ≡ c.args.before.settled = ap (λ (r : Ran). r.settled) c.begun-begun.ensures in
    let many : c.args.number ≤ c.args.before.settled + c.pairs.settled = (let m = c.in_err-ran-in-None.ensures.many in omega arith) in
    rw is
    (gives_up {X = Ran} c.in_err-ran-in-None.field-0.0 v0 w c.requires.stage (stays_then v0 v w i.stays i.later t.later t.ok) (later_then v0 v w i.stays i.later t.later)
    (λ honest sure. trying_settles_few v0.room v0 v c.args.day _ c.pairs.place c.pairs.tried c.pairs.settled i c.args.number c.args.before refl c.requires.fits c.requires.number many (t.later.honest honest) sure))

pub returns-in-None-clause-ran : goal.returns-in-None-clause-ran
returns-in-None-clause-ran g c = λ books reference rule start honest sure made.
    let v0 = g.R.Register.view c.args.register.now in
    let t = c.in_ok-take.ensures in
    let same = c.in_ok-ran-in-None.ensures.same ∙ c.over.ensures in
    let last : c.in_ok-ran-in-None.ran.last ≡ c.pairs.settled = ap (λ (r : Ran). r.last) same in
    let waiting : c.in_ok-ran-in-None.ran.waiting ≡ c.due_in-due.result - c.pairs.settled = ap (λ (r : Ran). r.waiting) same in
    rw (last, waiting)
    (trying_ends v0.room v0 (g.R.Register.view c.pairs.register) c.args.day _ c.pairs.place c.pairs.tried c.pairs.settled c.pairs.invariant (g.R.Register.view c.take.new.register) c.due_in-due.result c.args.before books reference rule start
    c.due_in-due.ensures.first c.due_in-due.ensures.further (λ is. ltb-true 0 c.args.before.passes is) t.step.later (rw c.in-None.is at t.taken) honest sure made)

pub returns-in_err-take-clause-step : goal.returns-in_err-take-clause-step
returns-in_err-take-clause-step g c =
    let v0 = g.R.Register.view c.args.register.now in
    let v1 = g.R.Register.view c.pairs.register in
    let v2 = g.R.Register.view c.take.new.register in
    let i = c.pairs.invariant in
    let is : c.from_residual.result ≡ Err c.in_err-take.field-0.0 = search rules in
    rw is (step_breaks v0 v1 v2 i.stays i.later c.in_err-take.field-0.0 c.in_err-take.ensures.step)

pub returns-in-None-clause-kept : goal.returns-in-None-clause-kept
returns-in-None-clause-kept g c = λ honest sure.
    let i = c.pairs.invariant in
    let t = c.in_ok-take.ensures in
    let honest1 = t.step.later.honest honest in
    let taken = rw c.in-None.is at (t.taken honest (i.stays.sure honest1 sure)) in
    ap (λ (z : Content). z.register) taken.1 ∙ i.kept honest1 sure

pub returns-in-None-clause-step : goal.returns-in-None-clause-step
returns-in-None-clause-step g c =
    let v0 = g.R.Register.view c.args.register.now in
    let v1 = g.R.Register.view c.pairs.register in
    let v2 = g.R.Register.view c.take.new.register in
    let i = c.pairs.invariant in
    let t = c.in_ok-take.ensures.step in
    goes_well v0 v1 v2 i.stays i.later _ t.later t.ok

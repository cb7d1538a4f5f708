use Rattle.std.proofs.Common.{◌≡◌, rules, refl, sym, ◌≤◌, ◌∙◌, arith}
use Rattle.desk_register.specs.declared.register.Fault.TheVariants.{Storage}
use Rattle.std.specs.Prelude.{Err}
use Rattle.desk_engine.proofs.StepEnds.{goes_well, step_breaks}
use Rattle.desk_engine.proofs.StepLaws.{gives_up}
use Rattle.desk_engine.proofs.RunningLemmas.{passing_begins, passing_can_go, passing_number, passing_goes_on, passing_ends, passing_ends_so, makes_another, makes_no_other}
use Rattle.desk_engine.proofs.settlement_run.run_passes.Goals as goal

pub passes-init : goal.passes-init
passes-init g c =
    let v0 = g.R.Register.view c.args.register.now in
    passing_begins v0.room v0 c.args.day c.args.rule c.args.number _ c.none-ran.ensures

pub run_pass-requires-clause-number : goal.run_pass-requires-clause-number
run_pass-requires-clause-number g c =
    let v0 = g.R.Register.view c.args.register.now in
    passing_number v0.room v0 (g.R.Register.view c.passes.register) c.args.day c.args.rule c.passes._begun c.args.number c.passes.ran refl c.passes.invariant c.requires.number

pub run_pass-requires-clause-fits : goal.run_pass-requires-clause-fits
run_pass-requires-clause-fits g c =
    let v0 = g.R.Register.view c.args.register.now in
    passing_can_go v0.room v0 (g.R.Register.view c.passes.register) c.args.day c.args.rule c.passes._begun c.args.number c.passes.ran refl c.passes.invariant c.requires.tables

pub passes-preserved : goal.passes-preserved
passes-preserved g c =
    let v0 = g.R.Register.view c.args.register.now in
    let p = c.in_ok-ran.ensures in
    let more = makes_another c.args.rule c.in_ok-ran.ran.last (sym c.makes_another.ensures ∙ c.if-not-makes_another.false) in
    passing_goes_on v0.room v0 (g.R.Register.view c.passes.register) c.args.day c.args.rule c.passes._begun c.args.number c.passes.ran refl c.passes.invariant
    (g.R.Register.view c.run_pass.new.register) c.in_ok-ran.ran p.passes p.settled (λ books reference rule start honest sure. p.ran books reference rule start honest sure) p.step.later more.0 more.1 p.step.ok p.kept p.few

pub returns-then-not-makes_another-clause-ran : goal.returns-then-not-makes_another-clause-ran
returns-then-not-makes_another-clause-ran g c = λ books reference honest sure tables.
    let v0 = g.R.Register.view c.args.register.now in
    let p = c.in_ok-ran.ensures in
    passing_ends v0.room v0 (g.R.Register.view c.passes.register) c.args.day c.args.rule c.passes._begun c.args.number c.passes.ran refl c.passes.invariant
    (g.R.Register.view c.run_pass.new.register) c.in_ok-ran.ran p.passes p.settled (λ books reference rule start honest sure. p.ran books reference rule start honest sure) p.step.later books reference
    (makes_no_other c.args.rule c.in_ok-ran.ran.last (sym c.makes_another.ensures ∙ c.if-not-makes_another.true)) honest sure tables

pub returns-clause-step : goal.returns-clause-step
returns-clause-step g c =
    let v0 = g.R.Register.view c.args.register.now in
    let v = g.R.Register.view c.passes.register in
    let i = c.passes.invariant in
    let all : c.args.number ≤ c.passes._begun = omega arith in
    gives_up Storage v0 v c.requires.stage i.stays i.later
    (passing_ends_so v0.room v0 v c.args.day c.args.rule c.passes._begun c.args.number c.passes.ran refl i c.requires.tables c.requires.number all)

pub returns-in_err-ran-clause-step : goal.returns-in_err-ran-clause-step
returns-in_err-ran-clause-step g c =
    let v0 = g.R.Register.view c.args.register.now in
    let v1 = g.R.Register.view c.passes.register in
    let v2 = g.R.Register.view c.run_pass.new.register in
    let i = c.passes.invariant in
    let is : c.from_residual.result ≡ Err c.in_err-ran.field-0.0 = search rules in
    rw is (step_breaks v0 v1 v2 i.stays i.later c.in_err-ran.field-0.0 c.in_err-ran.ensures.step)

pub returns-then-not-makes_another-clause-kept : goal.returns-then-not-makes_another-clause-kept
returns-then-not-makes_another-clause-kept g c = λ honest sure.
    let i = c.passes.invariant in
    let p = c.in_ok-ran.ensures in
    let honest1 = p.step.later.honest honest in
    p.kept honest (i.stays.sure honest1 sure) ∙ i.kept honest1 sure

pub returns-then-not-makes_another-clause-step : goal.returns-then-not-makes_another-clause-step
returns-then-not-makes_another-clause-step g c =
    let v0 = g.R.Register.view c.args.register.now in
    let v1 = g.R.Register.view c.passes.register in
    let v2 = g.R.Register.view c.run_pass.new.register in
    let i = c.passes.invariant in
    let p = c.in_ok-ran.ensures.step in
    goes_well v0 v1 v2 i.stays i.later _ p.later p.ok

use Rattle.std.proofs.Common.{◌≡◌, false, subst, sym, ◌∙◌, rules}
use Rattle.std.specs.Prelude.{Err}
use Rattle.desk_codes.specs.Number.{number_of}
use Rattle.desk_register.specs.declared.register.Fault.TheVariants.{Storage}
use Rattle.desk_register.proofs.ReadLemmas.{read_none}
use Rattle.desk_rules.specs.Content.{Content}
use Rattle.desk_register.proofs.ViewLemmas.{begun_goes}
use Rattle.desk_engine.specs.Pass.{Fares}
use Rattle.desk_engine.proofs.AcceptingLemmas.{read_fails}
use Rattle.desk_engine.proofs.DecisionLemmas.{not_both}
use Rattle.desk_engine.proofs.NextLemmas.{fares_so, try_here}
use Rattle.desk_engine.proofs.ShortLemmas.{short_fares}
use Rattle.desk_engine.proofs.StepEnds.{goes_well, step_breaks}
use Rattle.desk_engine.proofs.StepLaws.{gives_up, step_ok}
use Rattle.desk_engine.proofs.settlement_run.settles.Goals as goal

pub returns-then-branch-clause-fares : goal.returns-then-branch-clause-fares
returns-then-branch-clause-fares g c = λ honest sure.
    let v0 = g.R.Register.view c.args.register.now in
    let short = c.in_ok-stays_short.ensures in
    let honest0 = short.read.later.honest honest in
    let P : Content → Type 0 = λ z. Fares v0.content c.args.next.number c.args.day false z in
    subst P (sym (short.read.same honest sure))
    (short_fares v0.content c.args.next.number (short.value honest sure (begun_goes _ c.requires.stage) c.if-branch.true (c.requires.due honest0 sure).pair) c.args.day)

pub returns-then-not-is_past-clause-step : goal.returns-then-not-is_past-clause-step
returns-then-not-is_past-clause-step g c =
    let v0 = g.R.Register.view c.args.register.now in
    let none = read_none v0 in
    gives_up Storage v0 v0 c.requires.stage none.ok none.later (λ honest sure. not_both _ (c.requires.due honest sure).above (sym c.is_past.ensures ∙ c.if-not-is_past.true))

pub returns-in_err-stays_short-clause-step : goal.returns-in_err-stays_short-clause-step
returns-in_err-stays_short-clause-step g c =
    let v0 = g.R.Register.view c.args.register.now in
    let v1 = g.R.Register.view c.stays_short.new.self in
    let is : c.from_residual.result ≡ Err c.in_err-stays_short.field-0.0 = search rules in
    rw is (read_fails c.in_err-stays_short.field-0.0 v0 v1 c.requires.stage c.in_err-stays_short.ensures.read)

pub returns-then-branch-clause-step : goal.returns-then-branch-clause-step
returns-then-branch-clause-step g c =
    let v0 = g.R.Register.view c.args.register.now in
    let v1 = g.R.Register.view c.stays_short.new.self in
    let r = c.in_ok-stays_short.ensures.read in
    step_ok _ v0 v1 r.ok r.later

pub try_pair-requires-clause-fits : goal.try_pair-requires-clause-fits
try_pair-requires-clause-fits g c = λ honest sure.
    let v0 = g.R.Register.view c.args.register.now in
    let v1 = g.R.Register.view c.stays_short.new.self in
    let r = c.in_ok-stays_short.ensures.read in
    let sure0 = r.later.sure honest sure in
    try_here v0.content v1.content (r.same honest sure0) v0.room v1.room c.args.next.number (number_of c.args.day) r.later.room (c.requires.fits (r.later.honest honest) sure0)

pub returns-in_err-outcome-clause-step : goal.returns-in_err-outcome-clause-step
returns-in_err-outcome-clause-step g c =
    let v0 = g.R.Register.view c.args.register.now in
    let v1 = g.R.Register.view c.stays_short.new.self in
    let v2 = g.R.Register.view c.try_pair.new.register in
    let r = c.in_ok-stays_short.ensures.read in
    let is : c.from_residual-in_err-outcome.result ≡ Err c.in_err-outcome.field-0.0 = search rules in
    rw is (step_breaks v0 v1 v2 r.ok r.later c.in_err-outcome.field-0.0 c.in_err-outcome.ensures.step)

pub returns-clause-fares : goal.returns-clause-fares
returns-clause-fares g c = λ honest sure.
    let v0 = g.R.Register.view c.args.register.now in
    let v1 = g.R.Register.view c.stays_short.new.self in
    let v2 = g.R.Register.view c.try_pair.new.register in
    let r = c.in_ok-stays_short.ensures.read in
    let t = c.in_ok-outcome.ensures in
    let honest1 = t.step.later.honest honest in
    fares_so v0.content v1.content (r.same honest1 sure) c.args.next.number c.args.day c.has_settled.result v2.content
    (record { outcome = c.in_ok-outcome.outcome; settled = sym c.has_settled.ensures; tried = t.tried honest (r.ok.sure honest1 sure) })

pub returns-clause-step : goal.returns-clause-step
returns-clause-step g c =
    let v0 = g.R.Register.view c.args.register.now in
    let v1 = g.R.Register.view c.stays_short.new.self in
    let v2 = g.R.Register.view c.try_pair.new.register in
    let r = c.in_ok-stays_short.ensures.read in
    let t = c.in_ok-outcome.ensures.step in
    goes_well v0 v1 v2 r.ok r.later _ t.later t.ok

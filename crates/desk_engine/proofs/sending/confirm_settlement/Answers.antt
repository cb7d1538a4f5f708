use Rattle.std.proofs.Common.{◌≡◌, ◌∙◌, None, Option, Some, subst, sym}
use Rattle.std.specs.Prelude.{OnOk}
use Rattle.desk_rules.specs.Content.{Content}
use Rattle.desk_register.specs.Changes.{IsPairAt}
use Rattle.desk_register.specs.declared.told.KnownPair.{KnownPair}
use Rattle.desk_engine.specs.Sending.{with_both_confirmed}
use Rattle.desk_engine.proofs.StepLaws.{step_then}
use Rattle.desk_engine.proofs.sending.confirm_settlement.Goals as goal

pub confirm_both-requires-clause-known : goal.confirm_both-requires-clause-known
confirm_both-requires-clause-known g c = λ honest sure.
    let first = c.in_ok-pair.ensures in
    let pair = c.in-Some.pair in
    let sure0 = first.read.later.sure honest sure in
    subst (λ z. IsPairAt z pair.number pair.mate pair.earlier pair.later) (sym (first.read.same honest sure0)) (rw c.in-Some.is at first.known honest sure0).is_pair

pub returns-in_default-clause-sent : goal.returns-in_default-clause-sent
returns-in_default-clause-sent g c = λ mate earlier later honest sure pair.
    let found = c.in_ok-pair.ensures.found mate earlier later honest sure pair in
    let none : ◌≡◌ {A = Option KnownPair} None (Some (record { mate = mate; number = c.args.number; earlier = earlier; later = later })) = sym c.in_default.is ∙ found in
    absurd (cc)

pub returns-clause-sent : goal.returns-clause-sent
returns-clause-sent g c = λ mate earlier later honest sure pair.
    let first = c.in_ok-pair.ensures in
    let both = c.confirm_both.ensures in
    let honest1 = both.step.later.honest honest in
    let its : KnownPair = record { mate = mate; number = c.args.number; earlier = earlier; later = later } in
    let pairs : Some c.in-Some.pair ≡ Some its = sym c.in-Some.is ∙ first.found mate earlier later honest1 sure pair in
    let same : c.in-Some.pair ≡ its = cc in
    let v1 = (g.R.Register.view c.pair_of.new.register).content in
    let Sends : KnownPair → Content → Type 0 = λ p z. OnOk c.confirm_both.result ((g.R.Register.view c.confirm_both.new.register).content ≡ with_both_confirmed p.mate p.number p.earlier c.args.day z) in
    subst (Sends its) (first.read.same honest1 sure) (subst (λ p. Sends p v1) same (both.sent honest (first.read.ok.sure honest1 sure)))

pub returns-clause-step : goal.returns-clause-step
returns-clause-step g c =
    let first = c.in_ok-pair.ensures.read in
    step_then (g.R.Register.view c.args.register.now) (g.R.Register.view c.pair_of.new.register) (g.R.Register.view c.confirm_both.new.register) first.ok first.later c.confirm_both.result c.confirm_both.ensures.step

use Rattle.std.proofs.Common.{◌≡◌, ◌≢◌, true, sym, ◌∙◌, rules}
use Rattle.desk_register.specs.declared.register.Stage.TheVariants.{Failed}
use Rattle.desk_engine.proofs.DecisionLemmas.{pay_in_refused}
use Rattle.desk_engine.proofs.checks.refuse_pay_in.Goals as goal

pub returns-then-is_over_limit-clause-value : goal.returns-then-is_over_limit-clause-value
returns-then-is_over_limit-clause-value g c = λ honest sure well.
    let first = c.in_ok-participant.ensures in
    let second = c.in_ok-paid.ensures in
    let honest1 = second.read.later.honest honest in
    let well1 : (g.R.Register.view c.participant.new.self).stage ≢ Failed = λ failed. well (sym first.read.ok.stage ∙ failed) in
    let known : c.in_ok-participant.field-0 ≡ true = search rules in
    let refused = pay_in_refused (g.R.Register.view c.args.register.now).content (g.R.Register.view c.participant.new.self).content c.args.payment.now c.in_ok-participant.field-0 c.in_ok-paid.paid c.is_over_limit.result
    (first.read.same honest1 sure) (first.value honest1 sure well) known (second.value honest (first.read.ok.sure honest1 sure) well1) c.is_over_limit.ensures in
    sym (rw c.if-is_over_limit.true at refused)

pub returns-clause-value : goal.returns-clause-value
returns-clause-value g c = λ honest sure well.
    let first = c.in_ok-participant.ensures in
    let second = c.in_ok-paid.ensures in
    let honest1 = second.read.later.honest honest in
    let well1 : (g.R.Register.view c.participant.new.self).stage ≢ Failed = λ failed. well (sym first.read.ok.stage ∙ failed) in
    let known : c.in_ok-participant.field-0 ≡ true = search rules in
    let refused = pay_in_refused (g.R.Register.view c.args.register.now).content (g.R.Register.view c.participant.new.self).content c.args.payment.now c.in_ok-participant.field-0 c.in_ok-paid.paid c.is_over_limit.result
    (first.read.same honest1 sure) (first.value honest1 sure well) known (second.value honest (first.read.ok.sure honest1 sure) well1) c.is_over_limit.ensures in
    sym (rw c.if-is_over_limit.false at refused)

use Rattle.std.proofs.Common.{◌≢◌, sym, ◌∙◌}
use Rattle.desk_register.specs.declared.register.Stage.TheVariants.{Failed}
use Rattle.desk_engine.proofs.DecisionLemmas.{standing_refused}
use Rattle.desk_engine.proofs.checks.refuse_cancellation.Goals as goal

pub returns-clause-value : goal.returns-clause-value
returns-clause-value g c = λ honest sure well.
    let first = c.in_ok-number.ensures in
    let second = c.in_ok-standing.ensures in
    let honest1 = second.read.later.honest honest in
    let well1 : (g.R.Register.view c.instruction_named.new.register).stage ≢ Failed = λ failed. well (sym first.read.ok.stage ∙ failed) in
    standing_refused (g.R.Register.view c.args.register.now).content (g.R.Register.view c.instruction_named.new.register).content c.args.sender.now c.args.order.now c.in-Some.number c.in_ok-standing.standing
    c.refuse_by_standing.result (first.read.same honest1 sure) (rw c.in-Some.is at (first.value honest1 sure well)) (second.value honest (first.read.ok.sure honest1 sure) well1) c.refuse_by_standing.ensures

use Rattle.std.proofs.Common.{◌≢◌, sym, ◌∙◌, ap}
use Rattle.desk_register.specs.declared.register.Stage.TheVariants.{Failed}
use Rattle.desk_rules.specs.Content.{history_of}
use Rattle.desk_engine.proofs.DecisionLemmas.{named_known}
use Rattle.desk_engine.proofs.naming.instruction_named.Goals as goal

pub returns-clause-value : goal.returns-clause-value
returns-clause-value g c = λ honest sure well.
    let first = c.in_ok-number.ensures in
    let second = c.in_ok-found.ensures in
    let honest1 = second.read.later.honest honest in
    let well1 : (g.R.Register.view c.number_of.new.self).stage ≢ Failed = λ failed. well (sym first.read.ok.stage ∙ failed) in
    c.of_type.ensures ∙ named_known (history_of (g.R.Register.view c.args.register.now).content) (history_of (g.R.Register.view c.number_of.new.self).content) c.args.sender.now c.args.order.now
    c.in-Some.number c.in_ok-found.found (ap history_of (first.read.same honest1 sure)) (rw c.in-Some.is at (first.value honest1 sure well)) (second.value honest (first.read.ok.sure honest1 sure) well1)

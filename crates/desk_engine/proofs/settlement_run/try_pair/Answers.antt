use Rattle.desk_engine.proofs.SendingLemmas.{tried_settled}
use Rattle.desk_engine.proofs.settlement_run.try_pair.Goals as goal

pub returns-in_ok-confirm_settlement-in-Settled-clause-tried :
    goal.returns-in_ok-confirm_settlement-in-Settled-clause-tried
returns-in_ok-confirm_settlement-in-Settled-clause-tried g c = λ honest sure.
    let first = c.in_ok-outcome.ensures in
    let second = c.in_ok-confirm_settlement-in-Settled.ensures in
    let honest1 = second.step.later.honest honest in
    let sure1 = first.change.ok.sure honest1 sure in
    tried_settled (g.R.Register.view c.args.register.now).content (g.R.Register.view c.settle_pair.new.self).content (g.R.Register.view c.confirm_settlement.new.register).content c.args.number c.args.day
    c.in_ok-outcome.outcome c.in-Settled.is (first.settled honest1 sure) (λ m earlier later. second.sent m earlier later honest sure1)

use Rattle.desk_engine.proofs.FinishLemmas.{run_added}
use Rattle.desk_engine.proofs.AppendLemmas.{can_add_run}
use Rattle.desk_engine.proofs.settlement_run.add_run.Goals as goal

pub append-requires-clause-fits : goal.append-requires-clause-fits
append-requires-clause-fits g c = λ honest sure.
    let v0 = g.R.Register.view c.args.register.now in
    can_add_run v0.room c.args.reference c.args.day c.args.rule c.args.reply v0.content (c.requires.passed honest sure) c.requires.status

pub returns-clause-tables : goal.returns-clause-tables
returns-clause-tables g c = λ honest sure.
    let later = c.append.ensures.change.later.honest honest in
    run_added (g.R.Register.view c.args.register.now).room c.args.reference c.args.day c.args.rule (g.R.Register.view c.args.register.now).content (g.R.Register.view c.append.new.self).content c.args.reply
    c.append.result (c.requires.passed later sure) (c.append.ensures.added honest sure)

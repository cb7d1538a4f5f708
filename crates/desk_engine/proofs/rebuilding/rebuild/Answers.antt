use Rattle.desk_engine.proofs.RebuildLemmas.{holds_entries}
use Rattle.desk_engine.proofs.rebuilding.rebuild.Goals as goal

pub returns-in-Ok-clause-holds : goal.returns-in-Ok-clause-holds
returns-in-Ok-clause-holds g c = λ honest sure.
    let v0 = g.R.Register.view c.args.register.now in
    let v1 = g.R.Register.view c.begin.new.self in
    let v2 = g.R.Register.view c.put_all.new.register in
    let begins = c.in_default.ensures in
    let honest1 = c.in-Ok.ensures.later.honest honest in
    holds_entries v0.room v1.room c.args.entries.now v2.content begins.later.room (c.in-Ok.ensures.keeps honest (begins.ok.sure honest1 sure))

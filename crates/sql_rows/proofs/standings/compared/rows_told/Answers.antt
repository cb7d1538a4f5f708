use Rattle.std.proofs.Common.{◌↔◌, subst, IfOk, IsTrue}
use Rattle.desk_rules.specs.Content.{Content}
use Rattle.desk_register.proofs.ViewLemmas.{idle_goes}
use Rattle.sql_rows.specs.StandingsTold.{as_said, AreTold}
use Rattle.sql_rows.proofs.standings.compared.rows_told.Goals as goal

pub returns-clause-told : goal.returns-clause-told
returns-clause-told g c = λ honest sure.
    let read = c.in_ok-count.ensures.read in
    let honest1 = c.standings_told.ensures.read.later.honest honest in
    let same = read.same honest1 sure in
    let told = c.standings_told.ensures.told honest (read.ok.sure honest1 sure) in
    let count = c.in_ok-count.ensures.value honest1 sure (idle_goes (g.R.Register.view c.args.register.now).stage c.requires.stage) in
    subst (λ n. IfOk c.standings_told.result (λ all. IsTrue all ↔ AreTold (λ k. as_said c.args.version ((g.R.Register.view c.args.register.now).content.standing k)) n c.args.rows.now)) count
    (subst (λ (x : Content). IfOk c.standings_told.result (λ all. IsTrue all ↔ AreTold (λ k. as_said c.args.version (x.standing k)) c.in_ok-count.count c.args.rows.now)) same told)

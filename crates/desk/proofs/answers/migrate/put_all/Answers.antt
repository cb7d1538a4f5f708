use Rattle.std.proofs.Common.{refl, subst}
use Rattle.desk_file.specs.declared.fault.Difference.TheVariants.{OtherTables}
use Rattle.desk_file.specs.declared.fault.OpenFault.TheVariants as opening
use Rattle.desk_engine.specs.Rebuilt.{HoldsEntries}
use Rattle.desk.proofs.answers.migrate.put_all.Goals as goal

pub returns-in-Ok-clause-failure : goal.returns-in-Ok-clause-failure
returns-in-Ok-clause-failure g c = (opening.NotOurFile OtherTables, refl)

pub returns-in-Ok-rebuild-clause-holds : goal.returns-in-Ok-rebuild-clause-holds
returns-in-Ok-rebuild-clause-holds g c = λ honest.
    let mid = c.in-Ok-rebuild.ensures.later.honest honest in
    let read = c.in-Ok-eq0.ensures.read in
    let sure = read.ok.sure mid (c.requires.ready.sure refl (read.later.honest mid)) in
    subst (λ room. HoldsEntries room c.args.entries.now (g.R.Register.view c.rebuild.new.register).content) read.later.room (c.in-Ok-rebuild.ensures.holds honest sure)

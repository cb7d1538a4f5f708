use Rattle.std.specs.Io.KnownBytes.{Appends}
use Rattle.memory_register.specs.ListsView.{view_of_lists}
use Rattle.desk.proofs.OverviewLemmas.{told_none, told_of_script}
use Rattle.desk.proofs.answers.report.answer_overview.Goals as goal

pub returns-in-Ok-clause-told : goal.returns-in-Ok-clause-told
returns-in-Ok-clause-told g c =
    let after = c.in-Ok.ensures.after in
    told_of_script c.tell_overview.result c.args.shown c.args.format (g.R.Read.remaining c.args.reader.now) _ g.R.Source.may_fail (Appends (g.W.Write.contents c.args.writer.now) (g.W.Write.contents c.tell_overview.new.writer)) (view_of_lists c.in-Ok.register) after
    (c.tell_overview.ensures.told after.books tt after.room after.keeps)

pub returns-in-Err-clause-told : goal.returns-in-Err-clause-told
returns-in-Err-clause-told g c =
    told_none c.tell_failure.result c.in-Err.failure c.args.shown c.args.format (g.R.Read.remaining c.args.reader.now) _ g.R.Source.may_fail (Appends (g.W.Write.contents c.args.writer.now) (g.W.Write.contents c.tell_failure.new.writer)) c.in-Err.ensures.none c.tell_failure.ensures.told

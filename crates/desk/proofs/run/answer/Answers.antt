use Rattle.std.proofs.Common.{refl}
use Rattle.std.specs.Io.KnownBytes.{Appends}
use Rattle.desk.proofs.RunLemmas.{told_of, told_unread}
use Rattle.desk.specs.ExplainAnswer.{IsExplainAnswer}
use Rattle.desk.specs.MigrateAnswer.{IsMigrateAnswer}
use Rattle.desk_words.specs.Topics.{words_quoted}
use Rattle.desk_words.specs.declared.topics.Quoted.{Quoted}
use Rattle.desk_words.specs.Words.{explain, migrate}
use Rattle.desk.specs.declared.answers.report.Shown.TheVariants as shown
use Rattle.desk_words.specs.declared.calls.Call.TheVariants as call
use Rattle.desk.proofs.run.answer.Goals as goal

pub returns-in-Read-clause-told : goal.returns-in-Read-clause-told
returns-in-Read-clause-told g c =
    told_of c.answer_read.result (g.R.Read.remaining c.args.reader.now) _ g.R.Source.may_fail (Appends (g.W.Write.contents c.args.writer.now) (g.W.Write.contents c.answer_read.new.writer)) c.args.call.now (call.Read c.in-Read.mt) c.in-Read.is c.answer_read.ensures.told

pub returns-in-Play-clause-told : goal.returns-in-Play-clause-told
returns-in-Play-clause-told g c =
    told_of c.answer_play.result (g.R.Read.remaining c.args.reader.now) _ g.R.Source.may_fail (Appends (g.W.Write.contents c.args.writer.now) (g.W.Write.contents c.answer_play.new.writer)) c.args.call.now call.Play c.in-Play.is c.answer_play.ensures.told

pub returns-in-TryOn-clause-told : goal.returns-in-TryOn-clause-told
returns-in-TryOn-clause-told g c =
    told_of c.over_real_file-in-TryOn.result (g.R.Read.remaining c.args.reader.now) _ g.R.Source.may_fail (Appends (g.W.Write.contents c.args.writer.now) (g.W.Write.contents c.over_real_file-in-TryOn.new.writer)) c.args.call.now (call.TryOn c.in-TryOn.db) c.in-TryOn.is
    c.over_real_file-in-TryOn.ensures.told

pub returns-in-Check-clause-told : goal.returns-in-Check-clause-told
returns-in-Check-clause-told g c =
    told_of c.answer_check.result (g.R.Read.remaining c.args.reader.now) _ g.R.Source.may_fail (Appends (g.W.Write.contents c.args.writer.now) (g.W.Write.contents c.answer_check.new.writer)) c.args.call.now (call.Check c.in-Check.format) c.in-Check.is c.answer_check.ensures.told

pub returns-in-CheckOn-clause-told : goal.returns-in-CheckOn-clause-told
returns-in-CheckOn-clause-told g c =
    told_of c.over_real_file-in-CheckOn.result (g.R.Read.remaining c.args.reader.now) _ g.R.Source.may_fail (Appends (g.W.Write.contents c.args.writer.now) (g.W.Write.contents c.over_real_file-in-CheckOn.new.writer)) c.args.call.now (call.CheckOn c.in-CheckOn.db c.in-CheckOn.format) c.in-CheckOn.is
    c.over_real_file-in-CheckOn.ensures.told

pub returns-in-Explain-clause-told : goal.returns-in-Explain-clause-told
returns-in-Explain-clause-told g c =
    let P = (Appends (g.W.Write.contents c.args.writer.now) (g.W.Write.contents c.answer_explain.new.writer)) in
    let quoted : Quoted = c.in-Explain.quoted in
    told_of c.answer_explain.result (g.R.Read.remaining c.args.reader.now) _ g.R.Source.may_fail P c.args.call.now (call.Explain quoted) c.in-Explain.is
    (told_unread c.answer_explain.result (g.R.Read.remaining c.args.reader.now) _ g.R.Source.may_fail P (explain (words_quoted quoted)) (λ status. IsExplainAnswer (words_quoted quoted) status P) refl c.answer_explain.ensures.told (λ status unread t. (unread, t)))

pub returns-in-Report-clause-told : goal.returns-in-Report-clause-told
returns-in-Report-clause-told g c =
    told_of c.answer_overview.result (g.R.Read.remaining c.args.reader.now) _ g.R.Source.may_fail (Appends (g.W.Write.contents c.args.writer.now) (g.W.Write.contents c.answer_overview.new.writer)) c.args.call.now (call.Report c.in-Report.parts c.in-Report.format) c.in-Report.is
    c.answer_overview.ensures.told

pub returns-in-Journal-clause-told : goal.returns-in-Journal-clause-told
returns-in-Journal-clause-told g c =
    told_of c.answer_overview-in-Journal.result (g.R.Read.remaining c.args.reader.now) _ g.R.Source.may_fail (Appends (g.W.Write.contents c.args.writer.now) (g.W.Write.contents c.answer_overview-in-Journal.new.writer)) c.args.call.now (call.Journal c.in-Journal.from c.in-Journal.format) c.in-Journal.is
    c.answer_overview-in-Journal.ensures.told

pub returns-in-PlayOn-clause-told : goal.returns-in-PlayOn-clause-told
returns-in-PlayOn-clause-told g c =
    told_of c.over_real_file.result (g.R.Read.remaining c.args.reader.now) _ g.R.Source.may_fail (Appends (g.W.Write.contents c.args.writer.now) (g.W.Write.contents c.over_real_file.new.writer)) c.args.call.now (call.PlayOn c.in-PlayOn.db) c.in-PlayOn.is
    c.over_real_file.ensures.told

pub returns-in-ServeOn-clause-told : goal.returns-in-ServeOn-clause-told
returns-in-ServeOn-clause-told g c =
    told_of c.over_real_file-in-ServeOn.result (g.R.Read.remaining c.args.reader.now) _ g.R.Source.may_fail (Appends (g.W.Write.contents c.args.writer.now) (g.W.Write.contents c.over_real_file-in-ServeOn.new.writer)) c.args.call.now (call.ServeOn c.in-ServeOn.db c.in-ServeOn.port c.in-ServeOn.count) c.in-ServeOn.is
    c.over_real_file-in-ServeOn.ensures.told

pub returns-in-Holdings-clause-told : goal.returns-in-Holdings-clause-told
returns-in-Holdings-clause-told g c =
    told_of c.over_real_file-in-Holdings.result (g.R.Read.remaining c.args.reader.now) _ g.R.Source.may_fail (Appends (g.W.Write.contents c.args.writer.now) (g.W.Write.contents c.over_real_file-in-Holdings.new.writer)) c.args.call.now (call.Holdings c.in-Holdings.db c.in-Holdings.owner c.in-Holdings.account) c.in-Holdings.is
    (rw c.as_bytes-in-Holdings.ensures.value at c.over_real_file-in-Holdings.ensures.told)

pub returns-in-Sums-clause-told : goal.returns-in-Sums-clause-told
returns-in-Sums-clause-told g c =
    told_of c.over_real_file-in-Sums.result (g.R.Read.remaining c.args.reader.now) _ g.R.Source.may_fail (Appends (g.W.Write.contents c.args.writer.now) (g.W.Write.contents c.over_real_file-in-Sums.new.writer)) c.args.call.now (call.Sums c.in-Sums.db) c.in-Sums.is
    c.over_real_file-in-Sums.ensures.told

pub returns-in-Folder-clause-told : goal.returns-in-Folder-clause-told
returns-in-Folder-clause-told g c =
    told_of c.over_real_file-in-Folder.result (g.R.Read.remaining c.args.reader.now) _ g.R.Source.may_fail (Appends (g.W.Write.contents c.args.writer.now) (g.W.Write.contents c.over_real_file-in-Folder.new.writer)) c.args.call.now (call.Folder c.in-Folder.db c.in-Folder.from c.in-Folder.to) c.in-Folder.is
    c.over_real_file-in-Folder.ensures.told

pub returns-in-ReportOn-clause-told : goal.returns-in-ReportOn-clause-told
returns-in-ReportOn-clause-told g c =
    told_of c.over_real_file-in-ReportOn.result (g.R.Read.remaining c.args.reader.now) _ g.R.Source.may_fail (Appends (g.W.Write.contents c.args.writer.now) (g.W.Write.contents c.over_real_file-in-ReportOn.new.writer)) c.args.call.now (call.ReportOn c.in-ReportOn.db c.in-ReportOn.parts c.in-ReportOn.format) c.in-ReportOn.is
    c.over_real_file-in-ReportOn.ensures.told

pub returns-in-JournalOn-clause-told : goal.returns-in-JournalOn-clause-told
returns-in-JournalOn-clause-told g c =
    told_of c.over_real_file-in-JournalOn.result (g.R.Read.remaining c.args.reader.now) _ g.R.Source.may_fail (Appends (g.W.Write.contents c.args.writer.now) (g.W.Write.contents c.over_real_file-in-JournalOn.new.writer)) c.args.call.now (call.JournalOn c.in-JournalOn.db c.in-JournalOn.from c.in-JournalOn.format) c.in-JournalOn.is
    c.over_real_file-in-JournalOn.ensures.told

pub returns-in-Migrate-clause-told : goal.returns-in-Migrate-clause-told
returns-in-Migrate-clause-told g c =
    let P = (Appends (g.W.Write.contents c.args.writer.now) (g.W.Write.contents c.migrate_real_file.new.writer)) in
    told_of c.migrate_real_file.result (g.R.Read.remaining c.args.reader.now) _ g.R.Source.may_fail P c.args.call.now (call.Migrate c.in-Migrate.old c.in-Migrate.new) c.in-Migrate.is
    (told_unread c.migrate_real_file.result (g.R.Read.remaining c.args.reader.now) _ g.R.Source.may_fail P (migrate c.in-Migrate.old.now c.in-Migrate.new.now) (λ status. IsMigrateAnswer status P) refl c.migrate_real_file.ensures.told (λ status unread t. (unread, t)))

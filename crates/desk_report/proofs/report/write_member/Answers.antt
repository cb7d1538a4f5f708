use Rattle.std.proofs.Common.{◌++◌}
use Rattle.serde_json.specs.Written.{comma_if}
use Rattle.desk_report.specs.ReportWritten.{IsMemberText, IsPartText, label_of}
use Rattle.desk_report.proofs.PartLemmas.{named}
use Rattle.desk_report.proofs.PieceLemmas.{behind}
use Rattle.desk_report.proofs.report.write_member.Goals as goal

pub returns-clause-written : goal.returns-clause-written
returns-clause-written g c = λ books honest sure keeps.
    let content = (g.R.Register.view c.args.register.now).content in
    let part = c.args.part in
    let contents = g.W.Write.contents in
    behind (IsPartText books content part) (IsMemberText books content part c.args.is_later) (comma_if c.args.is_later ++ label_of part) (named books content part c.args.is_later) (contents c.args.writer.now) (contents c.write_label.new.writer)
    (contents c.write_value.new.writer) c.in_ok-write_label.ensures.written c.write_value.result (c.write_value.ensures.written books honest sure keeps)

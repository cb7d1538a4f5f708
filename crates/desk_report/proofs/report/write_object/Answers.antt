use Rattle.std.proofs.Common.{[], ◌∷◌}
use Rattle.desk_report.proofs.NumberedLemmas.{handed_on}
use Rattle.desk_report.specs.Report.{IsReportText}
use Rattle.desk_report.specs.ReportWritten.{AreMembersText}
use Rattle.desk_report.proofs.PartLemmas.{in_braces}
use Rattle.desk_report.proofs.PieceLemmas.{broken, ended}
use Rattle.desk_report.proofs.report.write_object.Goals as goal

pub returns-in_err-write_members-clause-written : goal.returns-in_err-write_members-clause-written
returns-in_err-write_members-clause-written g c = λ books honest sure keeps.
    let content = (g.R.Register.view c.args.register.now).content in
    let parts = c.args.parts in
    let contents = g.W.Write.contents in
    let fault = c.in_err-write_members.field-0.0 in
    handed_on (IsReportText books content parts) fault c.from_residual-in_err-write_members.result (contents c.args.writer.now) (contents c.write_members.new.writer) c.from_residual-in_err-write_members.ensures.1
    (broken (AreMembersText books content parts) (IsReportText books content parts) (123 ∷ []) (125 ∷ []) (in_braces books content parts) (contents c.args.writer.now) (contents c.write_text.new.writer) (contents c.write_members.new.writer)
    c.in_ok-write_text.ensures.written (Unit {0}) (Unit {0}) fault (c.in_err-write_members.ensures.written books honest sure keeps))

pub returns-clause-written : goal.returns-clause-written
returns-clause-written g c = λ books honest sure keeps.
    let content = (g.R.Register.view c.args.register.now).content in
    let parts = c.args.parts in
    let contents = g.W.Write.contents in
    ended (AreMembersText books content parts) (IsReportText books content parts) (123 ∷ []) (125 ∷ []) (in_braces books content parts) (contents c.args.writer.now) (contents c.write_text.new.writer) (contents c.write_members.new.writer)
    c.in_ok-write_text.ensures.written c.write_text-2.result (contents c.write_text-2.new.writer) (c.in_ok-write_members.ensures.written books honest sure keeps) c.write_text-2.ensures.written c.write_text-2.ensures.fault

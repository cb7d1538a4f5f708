use Rattle.std.proofs.Common.{[], ◌∷◌, refl}
use Rattle.desk_report.proofs.NumberedLemmas.{handed_on}
use Rattle.desk_report.specs.ReportWritten.{AreRowsOf, IsPartText}
use Rattle.desk_report.proofs.PartLemmas.{in_brackets}
use Rattle.desk_report.proofs.PieceLemmas.{broken, ended}
use Rattle.desk_report.proofs.report.write_array.Goals as goal

pub returns-in_err-write_rows-clause-written : goal.returns-in_err-write_rows-clause-written
returns-in_err-write_rows-clause-written g c = λ books honest sure keeps not_sums.
    let content = (g.R.Register.view c.args.register.now).content in
    let part = c.args.part in
    let contents = g.W.Write.contents in
    let fault = c.in_err-write_rows.field-0.0 in
    handed_on (IsPartText books content part) fault c.from_residual-in_err-write_rows.result (contents c.args.writer.now) (contents c.write_rows.new.writer) c.from_residual-in_err-write_rows.ensures.1
    (broken (AreRowsOf books content part) (IsPartText books content part) (91 ∷ []) (93 ∷ []) (in_brackets books content part) (contents c.args.writer.now) (contents c.write_text.new.writer) (contents c.write_rows.new.writer)
    c.in_ok-write_text.ensures.written (Unit {0}) (Unit {0}) fault (c.in_err-write_rows.ensures.written refl books honest sure keeps not_sums))

pub returns-clause-written : goal.returns-clause-written
returns-clause-written g c = λ books honest sure keeps not_sums.
    let content = (g.R.Register.view c.args.register.now).content in
    let part = c.args.part in
    let contents = g.W.Write.contents in
    ended (AreRowsOf books content part) (IsPartText books content part) (91 ∷ []) (93 ∷ []) (in_brackets books content part) (contents c.args.writer.now) (contents c.write_text.new.writer) (contents c.write_rows.new.writer)
    c.in_ok-write_text.ensures.written c.write_text-2.result (contents c.write_text-2.new.writer) (c.in_ok-write_rows.ensures.written refl books honest sure keeps not_sums) c.write_text-2.ensures.written c.write_text-2.ensures.fault

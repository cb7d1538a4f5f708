use Rattle.desk_report.proofs.TotalLemmas.{totals_broke, totals_whole}
use Rattle.desk_report.proofs.report.write_totals.Goals as goal

pub returns-in_err-write_sums-clause-written : goal.returns-in_err-write_sums-clause-written
returns-in_err-write_sums-clause-written g c = λ books honest sure keeps.
    let view = g.R.Register.view in
    let v0 = view c.args.register.now in
    totals_broke books v0 c.requires.ready (c.in_err-write_sums.ensures.read.later.honest honest) keeps c.in_err-write_sums.field-0.0 c.from_residual.result (g.W.Write.contents c.args.writer.now) (g.W.Write.contents c.write_sums.new.writer) c.from_residual.ensures.1
    (c.in_err-write_sums.ensures.written books honest sure keeps)

pub returns-clause-written : goal.returns-clause-written
returns-clause-written g c = λ books honest sure keeps.
    totals_whole books (g.R.Register.view c.args.register.now).content c.in_ok-write_sums.field-0 (g.W.Write.contents c.args.writer.now) (g.W.Write.contents c.write_sums.new.writer) (c.in_ok-write_sums.ensures.written books honest sure keeps)

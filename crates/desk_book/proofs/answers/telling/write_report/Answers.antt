use Rattle.std.proofs.Common.{refl}
use Rattle.desk_book.specs.RowByRow.{IsReported, told_of_walk}
use Rattle.desk_book.specs.Statement.{TellsHoldings}
use Rattle.desk_book.specs.declared.answers.telling.Report.TheVariants.{Holdings}
use Rattle.desk_book.proofs.TellingLemmas.{writes_as}
use Rattle.desk_book.proofs.answers.telling.write_report.Goals as goal

pub returns-in-Holdings-clause-written : goal.returns-in-Holdings-clause-written
returns-in-Holdings-clause-written g c = λ books honest sure keeps.
    let limit = (g.R.Register.view c.args.register.now).room in
    let report = Holdings c.in-Holdings.owner c.in-Holdings.account in
    rw c.in-Holdings.is
    (writes_as (TellsHoldings books c.in-Holdings.owner c.in-Holdings.account) (IsReported limit books report) (told_of_walk c.write_holdings.result) (g.W.Write.contents c.args.writer.now)
    (g.W.Write.contents c.write_holdings.new.writer) (λ reply told. (told, refl)) (c.write_holdings.ensures.written books honest sure keeps))

pub returns-in-Totals-clause-written : goal.returns-in-Totals-clause-written
returns-in-Totals-clause-written g c = λ books honest sure keeps. rw c.in-Totals.is (c.write_sums.ensures.written books honest sure keeps)

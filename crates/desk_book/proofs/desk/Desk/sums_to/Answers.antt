use Rattle.desk_book.proofs.TellingLemmas.{sums_step}
use Rattle.desk_book.proofs.desk.Desk.sums_to.Goals as goal

pub returns-clause-written : goal.returns-clause-written
returns-clause-written g c = λ books honest holds.
    sums_step (g.R.Register.view c.args.self.now.register).room books c.report.result (g.W.Write.contents c.args.writer.now) (g.W.Write.contents c.report.new.writer) (c.report.ensures.written books honest holds)

use Rattle.desk_book.proofs.TellingLemmas.{holdings_step}
use Rattle.desk_book.proofs.desk.Desk.holdings_to.Goals as goal

pub returns-clause-written : goal.returns-clause-written
returns-clause-written g c = λ books honest holds.
    let read = c.read-account.ensures in
    holdings_step (g.R.Register.view c.args.self.now.register).room books c.args.owner c.args.account.now c.read-account.result c.report.result (g.W.Write.contents c.args.writer.now)
    (g.W.Write.contents c.report.new.writer) read.found.0 read.found.1 read.value (c.report.ensures.written books honest holds)

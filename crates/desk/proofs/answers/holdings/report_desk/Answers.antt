use Rattle.std.proofs.Common.{refl}
use Rattle.desk.specs.ReportAnswer.{asked_for}
use Rattle.desk.proofs.ReportLemmas.{left_written, told_written}
use Rattle.desk.proofs.answers.holdings.report_desk.Goals as goal

pub returns-clause-reported : goal.returns-clause-reported
returns-clause-reported g c =
    let view = g.D.Register.view in
    let contents = g.W.Write.contents in
    let old = c.args.desk.now in
    let now = c.write_report-written.new.desk in
    let w = c.write_report-written.ensures in
    let asked = asked_for c.args.owner c.args.account.now in
    record {
      told = λ books held.
          told_written (contents c.args.writer.now) (contents c.write_report-written.new.writer) (contents c.tell_written.new.writer) (view old.register).room books asked c.tell_written.result c.write_report-written.result (w.open c.requires)
          (w.written books held.0 (λ is. held.1)) c.tell_written.ensures.told;
      left = λ books held. (now.is_closed, record { closed = refl; holds = w.keeps books held.0 (λ is. held.1) });
      stays = λ books held. left_written view now books c.tell_written.result c.write_report-written.result _ w.told (w.keeps books held.0 (λ is. held.1)) c.tell_written.ensures.told;
    }

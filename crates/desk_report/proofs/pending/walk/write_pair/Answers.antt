-- The row that was read is the one that is written.
use Rattle.desk_report.proofs.PendingWalkLemmas.{row_written}
use Rattle.desk_report.proofs.pending.walk.write_pair.Goals as goal

pub returns-clause-written : goal.returns-clause-written
returns-clause-written g c = λ json honest sure.
    row_written (g.R.Register.view c.args.register.now).content c.args.place c.args.is_later c.in_ok-row.row c.write_pending_pair.result (g.W.Write.contents c.args.writer.now) (g.W.Write.contents c.write_pending_pair.new.writer)
    (c.in_ok-row.ensures.value honest sure) (c.write_pending_pair.ensures.written json)

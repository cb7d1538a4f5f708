use Rattle.std.proofs.Common.{rules, ◌∙◌}
use Rattle.std.proofs.lemmas.Result.{on_ok_weaker}
use Rattle.desk_msg.proofs.TakenRows.{all_taken, rows_written}
use Rattle.desk_msg.proofs.writing.holdings.write_statement.Goals as goal

pub returns-clause-written : goal.returns-clause-written
returns-clause-written g c =
    let new = c.new-statement.ensures in
    let by = all_taken g.W.Write.contents c.new-statement.result c.args.rows.now c.take_all.new.sink new.no_row c.in_ok-take_all.ensures.took in
    let name = by.same_writer ∙ new.same_writer in
    let bytes = on_ok_weaker c.finish.result
    (rows_written g.W.Write.contents c.new-statement.result c.args.rows.now c.take_all.new.sink c.args.writer.now c.finish.new.self.0 c.args.entries c.args.day c.args.account.now new.nothing_written new.heading new.no_row c.in_ok-take_all.ensures.took)
    c.finish.ensures.written in
    search rules

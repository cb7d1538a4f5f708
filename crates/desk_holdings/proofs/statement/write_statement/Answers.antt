use Rattle.std.proofs.Common.{◌≡◌, Err, ap, min, rules, subst, sym, ◌∙◌}
use Rattle.desk_msg.proofs.TakenRows.{all_taken, rows_written}
use Rattle.desk_holdings.specs.Statement.{WritesFront, WritesStatement}
use Rattle.desk_msg.specs.HoldingsPieces.{TakesRow}
use Rattle.desk_holdings.proofs.StatementLemmas.{HasAnswered, front_written, read_two, told_so, took_unless, took_whole, wanted_memory, written_by_break}
use Rattle.desk_register.proofs.BrokenWalks.{sink_broke_off, walk_broke_off}
use Rattle.desk_register.proofs.ReadingLemmas.{read_on}
use Rattle.desk_register.specs.declared.fault.WalkFault.TheVariants.{Sink}
use Rattle.desk_holdings.proofs.statement.write_statement.Goals as goal

pub returns-in_err-holdings_rows-clause-read : goal.returns-in_err-holdings_rows-clause-read
returns-in_err-holdings_rows-clause-read g c =
    let v0 = g.R.Register.view c.args.register.now in
    let v1 = g.R.Register.view c.count.new.self in
    let v2 = g.R.Register.view c.statement_day.new.register in
    let v3 = g.R.Register.view c.holdings_rows.new.register in
    walk_broke_off c.in_err-holdings_rows.field-0.0 c.from_residual-in_err-holdings_rows.result v0 v2 v3 c.from_residual-in_err-holdings_rows.ensures.1
    (read_two c.in_ok-count.field-0 c.in_ok-day.day v0 v1 v2 c.in_ok-count.ensures.read c.in_ok-day.ensures.read)
    c.in_err-holdings_rows.ensures.read

pub returns-in_err-finish-clause-read : goal.returns-in_err-finish-clause-read
returns-in_err-finish-clause-read g c =
    let v0 = g.R.Register.view c.args.register.now in
    let v1 = g.R.Register.view c.count.new.self in
    let v2 = g.R.Register.view c.statement_day.new.register in
    let v3 = g.R.Register.view c.holdings_rows.new.register in
    sink_broke_off c.in_err-finish.field-0.0 c.from_residual-in_err-finish.result v0 v3 c.from_residual-in_err-finish.ensures.1
    (read_on v0 v2
    (read_two c.in_ok-count.field-0 c.in_ok-day.day v0 v1 v2 c.in_ok-count.ensures.read c.in_ok-day.ensures.read)
    tt v3 c.in_ok-holdings_rows.ensures.read)

pub returns-in_err-holdings_rows-clause-written : goal.returns-in_err-holdings_rows-clause-written
returns-in_err-holdings_rows-clause-written g c =
    let v0 = g.R.Register.view c.args.register.now in
    let v1 = g.R.Register.view c.count.new.self in
    let v2 = g.R.Register.view c.statement_day.new.register in
    let v3 = g.R.Register.view c.holdings_rows.new.register in
    let new = c.new-statement.ensures in
    let least : c.min-entries.result ≡ min c.in_ok-count.field-0 c.limit-limit.result = search rules in
    let answered : HasAnswered v0 v1 v2 c.in_ok-count.field-0 c.limit-limit.result c.min-entries.result c.in_ok-day.day = record {
      idle = c.requires.stage;
      first = c.in_ok-count.ensures.read;
      second = c.in_ok-day.ensures.read;
      counted = c.in_ok-count.ensures.value;
      room = c.limit-limit.ensures.limit;
      least = least;
      dated = c.in_ok-day.ensures.day;
    } in
    written_by_break c.args.account v0 v3 (g.W.Write.contents c.args.writer.now) c.in_err-holdings_rows.field-0.0 c.from_residual-in_err-holdings_rows.result _ c.from_residual-in_err-holdings_rows.ensures.1
    (λ other.
    let took = took_unless (TakesRow g.W.Write.contents) c.args.account v2 v3 c.new-statement.result c.holdings_rows.new.sink c.in_err-holdings_rows.field-0.0 other c.in_err-holdings_rows.ensures.took in
    let by = all_taken g.W.Write.contents c.new-statement.result took.rows c.holdings_rows.new.sink new.no_row took.taken in
    let name = by.same_writer ∙ new.same_writer in
    let front : WritesFront c.args.account v0 v3 (g.W.Write.contents c.args.writer.now) (g.W.Write.contents c.holdings_rows.new.sink.writer.now) =
    front_written v0 v1 v2 c.in_ok-count.field-0 c.limit-limit.result c.min-entries.result c.in_ok-day.day answered g.W.Write.contents c.args.account v3 c.args.writer.now c.new-statement.result c.holdings_rows.new.sink
    c.in_err-holdings_rows.ensures.read.later new.nothing_written new.heading new.no_row took in
    search rules)

pub returns-in_err-finish-clause-written : goal.returns-in_err-finish-clause-written
returns-in_err-finish-clause-written g c =
    let v0 = g.R.Register.view c.args.register.now in
    let v1 = g.R.Register.view c.count.new.self in
    let v2 = g.R.Register.view c.statement_day.new.register in
    let v3 = g.R.Register.view c.holdings_rows.new.register in
    let new = c.new-statement.ensures in
    let least : c.min-entries.result ≡ min c.in_ok-count.field-0 c.limit-limit.result = search rules in
    let answered : HasAnswered v0 v1 v2 c.in_ok-count.field-0 c.limit-limit.result c.min-entries.result c.in_ok-day.day = record {
      idle = c.requires.stage;
      first = c.in_ok-count.ensures.read;
      second = c.in_ok-day.ensures.read;
      counted = c.in_ok-count.ensures.value;
      room = c.limit-limit.ensures.limit;
      least = least;
      dated = c.in_ok-day.ensures.day;
    } in
    written_by_break c.args.account v0 v3 (g.W.Write.contents c.args.writer.now) (Sink c.in_err-finish.field-0.0) c.from_residual-in_err-finish.result _ c.from_residual-in_err-finish.ensures.1
    (λ other.
    let took = took_whole (TakesRow g.W.Write.contents) c.args.account v2 v3 c.new-statement.result c.holdings_rows.new.sink c.in_ok-holdings_rows.ensures.took in
    let by = all_taken g.W.Write.contents c.new-statement.result took.rows c.holdings_rows.new.sink new.no_row took.taken in
    let name = by.same_writer ∙ new.same_writer in
    let same : c.finish.new.self.0 ≡ c.holdings_rows.new.sink.writer.now = c.in_err-finish.ensures.memory (ap Err (wanted_memory c.in_err-finish.field-0.0 other)) in
    let front : WritesFront c.args.account v0 v3 (g.W.Write.contents c.args.writer.now) (g.W.Write.contents c.finish.new.self.0) =
    subst (λ w. WritesFront c.args.account v0 v3 (g.W.Write.contents c.args.writer.now) (g.W.Write.contents w)) (sym same)
    (front_written v0 v1 v2 c.in_ok-count.field-0 c.limit-limit.result c.min-entries.result c.in_ok-day.day answered g.W.Write.contents c.args.account v3 c.args.writer.now c.new-statement.result c.holdings_rows.new.sink
    c.in_ok-holdings_rows.ensures.read.later new.nothing_written new.heading new.no_row took) in
    search rules)

pub returns-clause-written : goal.returns-clause-written
returns-clause-written g c =
    let v0 = g.R.Register.view c.args.register.now in
    let v1 = g.R.Register.view c.count.new.self in
    let v2 = g.R.Register.view c.statement_day.new.register in
    let v3 = g.R.Register.view c.holdings_rows.new.register in
    let new = c.new-statement.ensures in
    let least : c.min-entries.result ≡ min c.in_ok-count.field-0 c.limit-limit.result = search rules in
    let answered : HasAnswered v0 v1 v2 c.in_ok-count.field-0 c.limit-limit.result c.min-entries.result c.in_ok-day.day = record {
      idle = c.requires.stage;
      first = c.in_ok-count.ensures.read;
      second = c.in_ok-day.ensures.read;
      counted = c.in_ok-count.ensures.value;
      room = c.limit-limit.ensures.limit;
      least = least;
      dated = c.in_ok-day.ensures.day;
    } in
    let took = c.in_ok-holdings_rows.ensures.took in
    let by = all_taken g.W.Write.contents c.new-statement.result took.rows c.holdings_rows.new.sink new.no_row took.taken in
    let name = by.same_writer ∙ new.same_writer in
    let written : WritesStatement c.args.account v0 v3 (g.W.Write.contents c.args.writer.now) (g.W.Write.contents c.finish.new.self.0) = record {
      entries = c.min-entries.result;
      day = c.in_ok-day.day;
      rows = took.rows;
      written = rows_written g.W.Write.contents c.new-statement.result took.rows c.holdings_rows.new.sink c.args.writer.now c.finish.new.self.0 c.min-entries.result c.in_ok-day.day c.args.account new.nothing_written new.heading new.no_row took.taken c.in_ok-finish.ensures.written;
      told = told_so v0 v1 v2 c.in_ok-count.field-0 c.limit-limit.result c.min-entries.result c.in_ok-day.day answered c.args.account took.rows v3 c.in_ok-holdings_rows.ensures.read.later took.are;
    } in
    search rules

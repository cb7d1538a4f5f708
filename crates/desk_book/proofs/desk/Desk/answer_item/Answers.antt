use Rattle.std.proofs.Common.{[], refl}
use Rattle.std.specs.Io.KnownBytes.{append_known}
use Rattle.desk_streams.specs.Waiting.{waits}
use Rattle.desk_book.specs.Asked.{asked_by}
use Rattle.desk_book.specs.WrittenAnswers.{written_answer, written_fault}
use Rattle.desk_book.proofs.PlayLemmas.{bad_line_played, bad_line_told, item_written, one_played}
use Rattle.desk_book.proofs.desk.Desk.answer_item.Goals as goal

pub returns-in-Ok-clause-played : goal.returns-in-Ok-clause-played
returns-in-Ok-clause-played g c = λ books honest holds.
    let v0 = g.R.Register.view c.args.self.now.register in
    let v1 = g.R.Register.view c.ask.new.self.register in
    let a = c.ask.ensures in
    item_written c.args.self.now.is_closed books c.args.item.now c.in-Ask.request c.ask.result (written_answer c.in-Ok.reply.status c.in-Ok.reply.mt c.in-Ok.reply.text) _ _ c.ask.new.self.is_closed v0 v1 c.add_answer.result c.in-Ask.is
    (rw c.in-Ok.is refl) (one_played g.R.Register.view g.R.Register.in_memory books (asked_by c.in-Ask.request) c.ask.result c.args.self.now c.ask.new.self a.answers (a.step books honest holds))
    (rw c.as_bytes.ensures at c.add_answer.ensures.written)

pub returns-in-Ok-clause-front : goal.returns-in-Ok-clause-front
returns-in-Ok-clause-front g c = λ books honest holds.
    let a = c.ask.ensures in
    rw c.in-Ask.is
    (_, one_played g.R.Register.view g.R.Register.in_memory books (asked_by c.in-Ask.request) c.ask.result c.args.self.now c.ask.new.self a.answers (a.step books honest holds))

pub returns-in-Err-clause-played : goal.returns-in-Err-clause-played
returns-in-Err-clause-played g c = λ books honest holds.
    let v0 = g.R.Register.view c.args.self.now.register in
    let v1 = g.R.Register.view c.ask.new.self.register in
    let a = c.ask.ensures in
    item_written c.args.self.now.is_closed books c.args.item.now c.in-Ask.request c.ask.result (written_fault c.in-Err.fault) _ _ c.ask.new.self.is_closed v0 v1 c.add_fault.result c.in-Ask.is
    (rw c.in-Err.is refl) (one_played g.R.Register.view g.R.Register.in_memory books (asked_by c.in-Ask.request) c.ask.result c.args.self.now c.ask.new.self a.answers (a.step books honest holds))
    c.add_fault.ensures.written

pub returns-in-Err-clause-front : goal.returns-in-Err-clause-front
returns-in-Err-clause-front g c = λ books honest holds.
    let a = c.ask.ensures in
    rw c.in-Ask.is
    (_, one_played g.R.Register.view g.R.Register.in_memory books (asked_by c.in-Ask.request) c.ask.result c.args.self.now c.ask.new.self a.answers (a.step books honest holds))

pub returns-in-BadLine-clause-played : goal.returns-in-BadLine-clause-played
returns-in-BadLine-clause-played g c = λ books honest holds.
    bad_line_told c.args.self.now.is_closed books c.args.item.now (append_known (g.O.Write.contents c.args.writer.now) (waits c.args.outbox.now)) (append_known (g.O.Write.contents c.add_bad_line.new.writer) (waits c.add_bad_line.new.outbox)) (g.R.Register.view c.args.self.now.register) c.add_bad_line.result
    c.in-BadLine.is holds c.add_bad_line.ensures.written

pub returns-in-BadLine-clause-front : goal.returns-in-BadLine-clause-front
returns-in-BadLine-clause-front g c = λ books honest holds.
    rw c.in-BadLine.is
    ([], bad_line_played c.args.self.now.is_closed books (g.R.Register.view c.args.self.now.register) holds)

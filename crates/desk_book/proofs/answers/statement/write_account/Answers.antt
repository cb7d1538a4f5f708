use Rattle.std.proofs.Common.{refl}
use Rattle.desk_book.proofs.StatementLemmas.{registered, statement_broke_off, statement_written}
use Rattle.desk_book.proofs.answers.statement.write_account.Goals as goal

pub write_statement-requires-clause-registered : goal.write_statement-requires-clause-registered
write_statement-requires-clause-registered g c = λ honest sure.
    let v0 = g.R.Register.view c.args.register.now in
    let kept = c.requires.ready.books refl honest in
    registered v0 kept.0 c.args.account kept.1.tables

pub returns-in_err-write_statement-clause-written : goal.returns-in_err-write_statement-clause-written
returns-in_err-write_statement-clause-written g c = λ books honest sure keeps.
    statement_broke_off (g.R.Register.view c.args.register.now) (g.R.Register.view c.write_statement.new.register) books c.args.account keeps honest sure (g.W.Write.contents c.args.writer.now)
    (g.W.Write.contents c.write_statement.new.writer) c.in_err-write_statement.field-0.0 c.from_residual.result c.from_residual.ensures.1 c.in_err-write_statement.ensures.written

pub returns-clause-written : goal.returns-clause-written
returns-clause-written g c = λ books honest sure keeps.
    statement_written (g.R.Register.view c.args.register.now) (g.R.Register.view c.write_statement.new.register) books c.args.account keeps honest sure (g.W.Write.contents c.args.writer.now)
    (g.W.Write.contents c.write_statement.new.writer) c.in_ok-write_statement.ensures.written

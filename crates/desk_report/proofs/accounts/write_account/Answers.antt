-- The holdings, or that there are none.
use Rattle.std.proofs.Common.{Bool}
use Rattle.desk_register.proofs.ReadingLemmas.{read_on}
use Rattle.desk_register.proofs.ReadLemmas.{read_none}
use Rattle.desk_report.proofs.AccountLemmas.{account_broke, account_ended, account_written}
use Rattle.desk_report.proofs.EndLemmas.{row_then, walk_broke}
use Rattle.desk_report.proofs.accounts.write_account.Goals as goal

pub returns-in_err-holds_some-clause-written : goal.returns-in_err-holds_some-clause-written
returns-in_err-holds_some-clause-written g c = λ json honest sure held are.
    account_broke c.args.owner c.args.account c.args.is_later held c.in_err-holds_some.field-0.0 c.from_residual.result (g.W.Write.contents c.args.writer.now) (g.W.Write.contents c.write_holdings.new.writer)
    c.from_residual.ensures.1 (c.in_err-holds_some.ensures.written json honest sure held are)

pub returns-in_err-holds_some-clause-read : goal.returns-in_err-holds_some-clause-read
returns-in_err-holds_some-clause-read g c =
    let v0 = g.R.Register.view c.args.register.now in
    walk_broke Bool c.in_err-holds_some.field-0.0 c.from_residual.result v0 v0 (g.R.Register.view c.write_holdings.new.register) c.from_residual.ensures.1 (read_none v0) c.in_err-holds_some.ensures.read

pub returns-then-holds_some-clause-written : goal.returns-then-holds_some-clause-written
returns-then-holds_some-clause-written g c = λ json honest sure held are.
    account_written c.args.owner c.args.account c.args.is_later held c.in_ok-holds_some.holds_some (g.W.Write.contents c.args.writer.now) (g.W.Write.contents c.write_holdings.new.writer)
    (c.in_ok-holds_some.ensures.written json honest sure held are) c.if-holds_some.true

pub returns-clause-written : goal.returns-clause-written
returns-clause-written g c = λ json honest sure held are.
    account_ended c.args.owner c.args.account c.args.is_later held c.in_ok-holds_some.holds_some c.write_account_row.result (g.W.Write.contents c.args.writer.now) (g.W.Write.contents c.write_holdings.new.writer)
    (g.W.Write.contents c.write_account_row.new.writer) (c.in_ok-holds_some.ensures.written json honest sure held are) c.if-holds_some.false (c.write_account_row.ensures.written json)

pub returns-clause-read : goal.returns-clause-read
returns-clause-read g c =
    let v0 = g.R.Register.view c.args.register.now in
    let v1 = g.R.Register.view c.write_holdings.new.register in
    row_then c.write_account_row.result v0 v1 c.write_account_row.ensures.register (read_on v0 v0 (read_none v0) tt v1 c.in_ok-holds_some.ensures.read)

use Rattle.std.proofs.Common.{[], ◌∷◌}
use Rattle.desk_register.proofs.ReadLemmas.{read_none, read_one}
use Rattle.desk_register.proofs.ReadingLemmas.{read_so}
use Rattle.desk_report.specs.RowData.{cash_data}
use Rattle.desk_report.specs.Cash.{balance_rows}
use Rattle.desk_report.proofs.EndLemmas.{row_broke}
use Rattle.desk_report.proofs.RowsLemmas.{rows_failed}
use Rattle.desk_report.proofs.StepLemmas.{register_broke}
use Rattle.desk_report.proofs.cash.write_balance.Goals as goal

pub returns-in_err-amount-clause-written : goal.returns-in_err-amount-clause-written
returns-in_err-amount-clause-written g c = λ json honest sure.
    rows_failed cash_data (balance_rows (g.R.Register.view c.args.register.now).content c.args.bic (c.args.ccy ∷ [])) c.args.is_later c.in_err-amount.field-0.0 c.from_residual.result (g.W.Write.contents c.args.writer.now)
    c.from_residual.ensures.1

pub returns-in_err-amount-clause-read : goal.returns-in_err-amount-clause-read
returns-in_err-amount-clause-read g c =
    let v0 = g.R.Register.view c.args.register.now in
    register_broke c.in_err-amount.field-0.0 c.from_residual.result v0 v0 (g.R.Register.view c.cash.new.self) c.from_residual.ensures.1 (read_none v0) c.in_err-amount.ensures.read

pub returns-in_err-write_cash_row-clause-read : goal.returns-in_err-write_cash_row-clause-read
returns-in_err-write_cash_row-clause-read g c =
    let v0 = g.R.Register.view c.args.register.now in
    let v1 = g.R.Register.view c.cash.new.self in
    row_broke (Unit {0}) c.in_err-write_cash_row.field-0.0 c.from_residual-in_err-write_cash_row.result v0 v1 c.from_residual-in_err-write_cash_row.ensures.1 c.in_err-write_cash_row.ensures.register
    (read_one c.in_ok-amount.amount v0 v1 c.in_ok-amount.ensures.read)

pub returns-clause-read : goal.returns-clause-read
returns-clause-read g c =
    let v0 = g.R.Register.view c.args.register.now in
    let v1 = g.R.Register.view c.cash.new.self in
    read_so v0 v1 (read_one c.in_ok-amount.amount v0 v1 c.in_ok-amount.ensures.read) tt

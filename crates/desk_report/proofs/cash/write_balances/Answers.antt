-- Currency by currency.
use Rattle.std.proofs.Common.{◌≡◌, ◌≤◌, Bool, length, Err, Ok, subst, arith}
use Rattle.std.specs.Prelude.{List}
use Rattle.desk_register.proofs.ReadLemmas.{read_none}
use Rattle.desk_report.specs.declared.rows.balances.CashRow.{CashRow}
use Rattle.desk_report.specs.declared.format.Format.TheVariants.{Json}
use Rattle.desk_report.specs.RowData.{cash_data}
use Rattle.desk_report.specs.Cash.{currencies}
use Rattle.desk_report.specs.RowsWriting.{WritesRows}
use Rattle.desk_report.proofs.CashLemmas.{NoneGiven, all_balances, all_currencies, all_told, balance_turn, rows_by_currency}
use Rattle.desk_report.proofs.EndLemmas.{walk_broke}
use Rattle.desk_report.proofs.LoopLemmas.{looping_begins, looping_breaks, looping_ends, looping_goes_on}
use Rattle.desk_report.proofs.RowsLemmas.{rows_broke, rows_ended}
use Rattle.desk_report.proofs.cash.write_balances.Goals as goal

pub currencies-init : goal.currencies-init
currencies-init g c =
    let v0 = g.R.Register.view c.args.register.now in
    looping_begins cash_data NoneGiven all_currencies (rows_by_currency c.args.bic) (c.args.format ≡ Json) v0 v0 c.args.is_later (g.W.Write.contents c.args.writer.now) (read_none v0)

pub returns-in_err-is_later-clause-written : goal.returns-in_err-is_later-clause-written
returns-in_err-is_later-clause-written g c = λ json honest sure.
    let v0 = g.R.Register.view c.args.register.now in
    let v = g.R.Register.view c.currencies.register in
    let v1 = g.R.Register.view c.write_balance.new.register in
    let before = g.W.Write.contents c.args.writer.now in
    let between = g.W.Write.contents c.currencies.writer in
    let now = g.W.Write.contents c.write_balance.new.writer in
    let w = c.in_err-is_later.ensures in
    let fault = c.in_err-is_later.field-0.0 in
    let P : List CashRow → Type 0 = λ rows. WritesRows cash_data rows c.args.is_later c.from_residual.result before now in
    subst P (all_balances v0.content c.args.bic)
    (rows_broke cash_data _ c.args.is_later fault c.from_residual.result before now c.from_residual.ensures.1
    (looping_breaks cash_data NoneGiven all_currencies (rows_by_currency c.args.bic) (c.args.format ≡ Json) v0 v c.currencies.index c.args.is_later c.currencies.is_later before between c.currencies.invariant v1 now fault
    c.from_residual.result c.from_residual.ensures.1 w.read.later
    (λ told really known x given. balance_turn c.args.bic v.content c.currencies.index _ c.currencies.is_later (Err fault) between now c.currencies-test.true (w.written told really known)) json honest sure tt tt))

pub returns-in_err-is_later-clause-read : goal.returns-in_err-is_later-clause-read
returns-in_err-is_later-clause-read g c =
    let v0 = g.R.Register.view c.args.register.now in
    let v = g.R.Register.view c.currencies.register in
    let v1 = g.R.Register.view c.write_balance.new.register in
    walk_broke Bool c.in_err-is_later.field-0.0 c.from_residual.result v0 v v1 c.from_residual.ensures.1 c.currencies.invariant.read c.in_err-is_later.ensures.read

pub currencies-preserved : goal.currencies-preserved
currencies-preserved g c =
    let v0 = g.R.Register.view c.args.register.now in
    let v = g.R.Register.view c.currencies.register in
    let v1 = g.R.Register.view c.write_balance.new.register in
    let before = g.W.Write.contents c.args.writer.now in
    let between = g.W.Write.contents c.currencies.writer in
    let now = g.W.Write.contents c.write_balance.new.writer in
    let w = c.in_ok-is_later.ensures in
    looping_goes_on cash_data NoneGiven all_currencies (rows_by_currency c.args.bic) (c.args.format ≡ Json) v0 v c.currencies.index c.args.is_later c.currencies.is_later before between c.currencies.invariant v1 c.in_ok-is_later.is_later now
    w.read
    (λ told really known x given. balance_turn c.args.bic v.content c.currencies.index _ c.currencies.is_later (Ok c.in_ok-is_later.is_later) between now c.currencies-test.true (w.written told really known))

pub returns-clause-written : goal.returns-clause-written
returns-clause-written g c = λ json honest sure.
    let v0 = g.R.Register.view c.args.register.now in
    let v = g.R.Register.view c.currencies.register in
    let before = g.W.Write.contents c.args.writer.now in
    let now = g.W.Write.contents c.currencies.writer in
    let all : length currencies ≤ c.currencies.index = all_told c.currencies.index (omega arith) in
    let P : List CashRow → Type 0 = λ rows. WritesRows cash_data rows c.args.is_later (Ok c.currencies.is_later) before now in
    subst P (all_balances v0.content c.args.bic)
    (rows_ended cash_data _ c.args.is_later c.currencies.is_later before now
    (looping_ends cash_data NoneGiven all_currencies (rows_by_currency c.args.bic) (c.args.format ≡ Json) v0 v c.currencies.index c.args.is_later c.currencies.is_later before now c.currencies.invariant (λ really known. all) json honest sure
    tt tt))

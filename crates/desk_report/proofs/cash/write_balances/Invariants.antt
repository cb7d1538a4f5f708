use Rattle.std.proofs.Common.{◌≡◌}
use Rattle.desk_report.specs.RowData.{cash_data}
use Rattle.desk_report.specs.declared.format.Format.TheVariants.{Json}
use Rattle.desk_report.proofs.CashLemmas.{NoneGiven, all_currencies, rows_by_currency}
use Rattle.desk_report.proofs.LoopLemmas.{Looping}
use Rattle.desk_report.proofs.cash.write_balances.Given as goal

abbrev pub invariant-currencies : goal.invariant-currencies
invariant-currencies g l =
    Looping cash_data NoneGiven all_currencies (rows_by_currency l.bic) (l.format ≡ Json) (g.R.Register.view l.fn.register) (g.R.Register.view l.register) l.index l.fn.is_later l.is_later
    (g.W.Write.contents l.fn.writer) (g.W.Write.contents l.writer)

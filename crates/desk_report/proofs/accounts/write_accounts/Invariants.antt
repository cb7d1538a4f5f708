use Rattle.std.proofs.Common.{◌≡◌}
use Rattle.desk_report.specs.RowData.{account_data}
use Rattle.desk_report.specs.declared.format.Format.TheVariants.{Json}
use Rattle.desk_report.specs.Accounts.{AreHeld}
use Rattle.desk_report.proofs.AccountLemmas.{rows_by_entry}
use Rattle.desk_report.proofs.LoopLemmas.{Numbering}
use Rattle.desk_report.proofs.accounts.write_accounts.Given as goal

abbrev pub invariant-entries : goal.invariant-entries
invariant-entries g l =
    Numbering account_data AreHeld rows_by_entry (l.format ≡ Json) (g.R.Register.view l.fn.register) (g.R.Register.view l.register) l.count l.index l.is_later (g.W.Write.contents l.fn.writer) (g.W.Write.contents l.writer)

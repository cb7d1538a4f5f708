use Rattle.std.proofs.Common.{◌≡◌, false, is_some}
use Rattle.desk_holdings.proofs.WalkingLemmas.{Walking}
use Rattle.desk_report.specs.declared.format.Format.TheVariants.{Json}
use Rattle.desk_report.proofs.HoldingLemmas.{TakesRow}
use Rattle.desk_report.proofs.holdings.write_holdings.Given as goal

abbrev pub invariant-holdings : goal.invariant-holdings
invariant-holdings g l =
    Walking (TakesRow l.owner l.account (l.format ≡ Json)) l.account (g.R.Register.view l.fn.register) (g.R.Register.view l.register) l.count l.last l._told
    (record { later = l.is_later; some = false; held = g.W.Write.contents l.fn.writer }) (record { later = l.comes_later; some = is_some l.last; held = g.W.Write.contents l.writer })

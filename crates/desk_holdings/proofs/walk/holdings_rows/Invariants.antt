use Rattle.desk_holdings.proofs.WalkingLemmas.{Walking}
use Rattle.desk_holdings.proofs.walk.holdings_rows.Given as goal

abbrev pub invariant-holdings : goal.invariant-holdings
invariant-holdings g l = Walking g.S.RowSink.took l.account (g.R.Register.view l.fn.register) (g.R.Register.view l.register) l.count l.last l._told l.fn.sink l.sink

use Rattle.std.proofs.Common.{ℕ, ◌<◌, slice_index_or}
use Rattle.desk_codes.specs.declared.currency.Ccy.{Ccy}
use Rattle.desk_register.specs.View.{HasRead, IfTrusted}
use Rattle.sql_rows.specs.declared.amounts.key.AmountKey.TheVariants.{Cash}
use Rattle.sql_rows.specs.Amounts.{AreAmounts}
use Rattle.sql_tables.specs.Calls.{Soundly, tables}
use Rattle.sql_tables.specs.Ends.{HasLooked}
use Rattle.sql_rows.specs.Recorded.{IsRecorded}
use Rattle.sql_rows.proofs.amounts.compared.recorded.are_cash_recorded.Given as goal

-- what the register has of each currency so far is recorded
abbrev pub invariant-loop-ccy : goal.invariant-loop-ccy
invariant-loop-ccy g l = record {
  look : HasLooked (g.S.Session.state l.fn.conn) (g.S.Session.state l.conn);
  read : HasRead (g.R.Register.view l.fn.register) (g.R.Register.view l.register);
  said : Soundly g.S.Session.state l.fn.conn l.conn (IfTrusted (g.R.Register.view l.fn.register) (g.R.Register.view l.register)
      (AreAmounts (tables g.S.Session.state l.fn.conn) → (k : ℕ) (d : Ccy) → k < l.ccy-index → IsRecorded (tables g.S.Session.state l.fn.conn) (g.R.Register.view l.fn.register).content (Cash l.bic (slice_index_or l.ccys k d))));
}

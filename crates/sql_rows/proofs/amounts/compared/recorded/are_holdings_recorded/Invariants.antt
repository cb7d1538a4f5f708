use Rattle.std.proofs.Common.{◌+◌, ◌≤◌, length}
use Rattle.desk_rules.specs.Content.{history_of}
use Rattle.desk_holdings.specs.Holdings.{HoldsRegistered}
use Rattle.desk_holdings.proofs.AboveLemmas.{left_above}
use Rattle.desk_register.specs.View.{HasRead, IfTrusted}
use Rattle.sql_rows.specs.Amounts.{AreAmounts}
use Rattle.sql_tables.specs.Calls.{Soundly, tables}
use Rattle.sql_tables.specs.Ends.{HasLooked}
use Rattle.sql_rows.specs.Recorded.{AreRecordedTo}
use Rattle.sql_rows.proofs.amounts.compared.recorded.are_holdings_recorded.Given as goal

-- what the account holds is recorded up to the last security, and there are no more of them than entries
abbrev pub invariant-loop-told : goal.invariant-loop-told
invariant-loop-told g l = record {
  look : HasLooked (g.S.Session.state l.fn.conn) (g.S.Session.state l.conn);
  read : HasRead (g.R.Register.view l.fn.register) (g.R.Register.view l.register);
  said : Soundly g.S.Session.state l.fn.conn l.conn (IfTrusted (g.R.Register.view l.fn.register) (g.R.Register.view l.register)
      (AreAmounts (tables g.S.Session.state l.fn.conn) → AreRecordedTo (tables g.S.Session.state l.fn.conn) (g.R.Register.view l.fn.register).content l.account l.last));
  few : IfTrusted (g.R.Register.view l.fn.register) (g.R.Register.view l.register) (HoldsRegistered (g.R.Register.view l.fn.register).content l.account
      → l._told + left_above (history_of (g.R.Register.view l.fn.register).content) l.last ≤ length (history_of (g.R.Register.view l.fn.register).content));
}

use Rattle.std.proofs.Common.{◌≡◌, length}
use Rattle.desk_register.specs.View.{HasRead, IfTrusted}
use Rattle.sql_rows.specs.Amounts.{AreAmounts}
use Rattle.sql_tables.specs.Calls.{Soundly, tables}
use Rattle.sql_tables.specs.Ends.{HasLooked}
use Rattle.sql_rows.specs.Recorded.{AreFirstRecorded}
use Rattle.sql_rows.proofs.amounts.compared.recorded.are_entries_recorded.Given as goal

-- what the entries so far register, issue or redeem is recorded
abbrev pub invariant-loop-before : goal.invariant-loop-before
invariant-loop-before g l = record {
  look : HasLooked (g.S.Session.state l.fn.conn) (g.S.Session.state l.conn);
  read : HasRead (g.R.Register.view l.fn.register) (g.R.Register.view l.register);
  counted : IfTrusted (g.R.Register.view l.fn.register) (g.R.Register.view l.register) (l.count ≡ length (g.R.Register.view l.fn.register).content.register);
  said : Soundly g.S.Session.state l.fn.conn l.conn (IfTrusted (g.R.Register.view l.fn.register) (g.R.Register.view l.register)
      (AreAmounts (tables g.S.Session.state l.fn.conn) → AreFirstRecorded (tables g.S.Session.state l.fn.conn) (g.R.Register.view l.fn.register).content l.before));
}

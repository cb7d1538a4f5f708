use Rattle.std.specs.List.{AllByRecursion}
use Rattle.desk_register.specs.View.{HasRead, IfTrusted}
use Rattle.sql_tables.specs.Calls.{Soundly, tables}
use Rattle.sql_tables.specs.Schema.{sent_table}
use Rattle.sql_tables.specs.Forms.{HasForm}
use Rattle.sql_tables.specs.Ends.{HasLooked}
use Rattle.sql_rows.specs.SentTold.{AreTold}
use Rattle.sql_rows.proofs.sent.compared.are_told.Given as goal

-- the rows so far are those of their messages
abbrev pub invariant-loop-before : goal.invariant-loop-before
invariant-loop-before g l = record {
  look : HasLooked (g.S.Session.state l.fn.conn) (g.S.Session.state l.conn);
  read : HasRead (g.R.Register.view l.fn.register) (g.R.Register.view l.register);
  told : Soundly g.S.Session.state l.fn.conn l.conn (IfTrusted (g.R.Register.view l.fn.register) (g.R.Register.view l.register) (AllByRecursion (HasForm sent_table) ((tables g.S.Session.state l.fn.conn).trees 9)
      → AreTold ((tables g.S.Session.state l.fn.conn).trees 9) (g.R.Register.view l.fn.register).content.sent l.before));
}

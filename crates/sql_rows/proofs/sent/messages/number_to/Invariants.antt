use Rattle.std.proofs.Common.{List, unwrap_or}
use Rattle.desk_rules.specs.declared.answers.reply.Sent.{Sent}
use Rattle.sql_tables.specs.Calls.{Soundly, tables}
use Rattle.sql_tables.specs.Ends.{HasLooked}
use Rattle.sql_rows.specs.Messages.{AreSent}
use Rattle.sql_rows.proofs.SentWalkLemmas.{HasPassed}
use Rattle.sql_rows.proofs.sent.messages.number_to.Given as goal

-- so many messages to the participant were passed, up to the last number
abbrev pub invariant-loop-passed : goal.invariant-loop-passed
invariant-loop-passed g l = record {
  look : HasLooked (g.S.Session.state l.fn.conn) (g.S.Session.state l.conn);
  walked : Soundly g.S.Session.state l.fn.conn l.conn ((messages : List Sent) → AreSent (tables g.S.Session.state l.fn.conn) messages → HasPassed messages l.bic (unwrap_or l.last 0) l._passed);
}

use Rattle.std.proofs.Common.{arith}
use Rattle.sql_rows.proofs.StandingMeanings.{asks}
use Rattle.sql_rows.proofs.StandingCalls.{asked, asked_one}
use Rattle.sql_rows.proofs.StandingCauses.{ask_caused}
use Rattle.sql_rows.proofs.standings.calls.write_request.Goals as goal

pub execute-requires : goal.execute-requires
execute-requires g c = record { edit = asks }

pub returns-clause-changed : goal.returns-clause-changed
returns-clause-changed g c clean is_open has were =
    asked (g.S.Session.state c.args.conn.now) (g.S.Session.state c.execute.new.conn) c.args.number has were (omega arith) c.execute.result (rw c.integer.ensures at (c.execute.ensures.runs clean))

pub returns-clause-counted : goal.returns-clause-counted
returns-clause-counted g c clean is_open has were some =
    asked_one (g.S.Session.state c.args.conn.now) (g.S.Session.state c.execute.new.conn) c.args.number has were (omega arith) c.execute.result
    (rw c.integer.ensures at (c.execute.ensures.runs clean)) some

pub returns-clause-blame : goal.returns-clause-blame
returns-clause-blame g c clean is_open has were =
    ask_caused (g.S.Session.state c.args.conn.now) (g.S.Session.state c.execute.new.conn) has is_open (c.execute.ensures.obeyed is_open) were c.args.number c.execute.result
    (rw c.integer.ensures at (c.execute.ensures.runs clean))

use Rattle.std.proofs.Common.{arith}
use Rattle.sql_rows.proofs.StandingMeanings.{stands}
use Rattle.sql_rows.proofs.StandingCalls.{stood, stood_one}
use Rattle.sql_rows.proofs.StandingCauses.{stand_caused}
use Rattle.sql_rows.proofs.standings.calls.write_standing.Goals as goal

pub execute-requires : goal.execute-requires
execute-requires g c = record { edit = stands }

pub returns-clause-changed : goal.returns-clause-changed
returns-clause-changed g c clean is_open has were =
    stood (g.S.Session.state c.args.conn.now) (g.S.Session.state c.execute.new.conn) c.args.number has were (omega arith) c.args.code c.args.reason c.requires.instruction c.args.mate c.execute.result
    (rw (c.integer.ensures, c.integer-2.ensures, c.integer-3.ensures, c.integer-4.ensures) at (c.execute.ensures.runs clean))

pub returns-clause-counted : goal.returns-clause-counted
returns-clause-counted g c clean is_open has were some =
    stood_one (g.S.Session.state c.args.conn.now) (g.S.Session.state c.execute.new.conn) c.args.number has were (omega arith) c.args.code c.args.reason c.requires.instruction c.args.mate c.execute.result
    (rw (c.integer.ensures, c.integer-2.ensures, c.integer-3.ensures, c.integer-4.ensures) at (c.execute.ensures.runs clean)) some

pub returns-clause-blame : goal.returns-clause-blame
returns-clause-blame g c clean is_open has were =
    stand_caused (g.S.Session.state c.args.conn.now) (g.S.Session.state c.execute.new.conn) has is_open (c.execute.ensures.obeyed is_open) were c.args.number c.args.code c.args.reason c.requires.instruction c.args.mate c.execute.result
    (rw (c.integer.ensures, c.integer-2.ensures, c.integer-3.ensures, c.integer-4.ensures) at (c.execute.ensures.runs clean))

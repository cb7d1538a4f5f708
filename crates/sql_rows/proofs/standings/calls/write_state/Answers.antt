use Rattle.std.proofs.Common.{arith}
use Rattle.sql_rows.proofs.StandingMeanings.{changes_state}
use Rattle.sql_rows.proofs.StandingCalls.{moved, moved_one}
use Rattle.sql_rows.proofs.StandingCauses.{move_caused}
use Rattle.sql_rows.proofs.standings.calls.write_state.Goals as goal

pub execute-requires : goal.execute-requires
execute-requires g c = record { edit = changes_state }

pub returns-clause-changed : goal.returns-clause-changed
returns-clause-changed g c clean is_open has were =
    moved (g.S.Session.state c.args.conn.now) (g.S.Session.state c.execute.new.conn) c.args.number has were (omega arith) c.args.code c.args.reason c.requires.instruction c.execute.result
    (rw (c.integer.ensures, c.integer-2.ensures, c.integer-3.ensures) at (c.execute.ensures.runs clean))

pub returns-clause-counted : goal.returns-clause-counted
returns-clause-counted g c clean is_open has were some =
    moved_one (g.S.Session.state c.args.conn.now) (g.S.Session.state c.execute.new.conn) c.args.number has were (omega arith) c.args.code c.args.reason c.requires.instruction c.execute.result
    (rw (c.integer.ensures, c.integer-2.ensures, c.integer-3.ensures) at (c.execute.ensures.runs clean)) some

pub returns-clause-blame : goal.returns-clause-blame
returns-clause-blame g c clean is_open has were =
    move_caused (g.S.Session.state c.args.conn.now) (g.S.Session.state c.execute.new.conn) has is_open (c.execute.ensures.obeyed is_open) were c.args.number c.args.code c.args.reason c.requires.instruction c.execute.result
    (rw (c.integer.ensures, c.integer-2.ensures, c.integer-3.ensures) at (c.execute.ensures.runs clean))

use Rattle.std.proofs.Common.{arith}
use Rattle.sql_rows.proofs.StandingMeanings.{adds}
use Rattle.sql_rows.proofs.StandingCalls.{added}
use Rattle.sql_rows.proofs.StandingCauses.{add_caused}
use Rattle.sql_rows.proofs.standings.calls.add_row.Goals as goal

pub execute-requires : goal.execute-requires
execute-requires g c = record { edit = adds }

pub returns-clause-changed : goal.returns-clause-changed
returns-clause-changed g c clean is_open has were =
    added (g.S.Session.state c.args.conn.now) (g.S.Session.state c.execute.new.conn) c.args.number has were (omega arith) c.execute.result (rw c.integer.ensures at (c.execute.ensures.runs clean))

pub returns-clause-blame : goal.returns-clause-blame
returns-clause-blame g c clean is_open has were none =
    add_caused (g.S.Session.state c.args.conn.now) (g.S.Session.state c.execute.new.conn) has is_open (c.execute.ensures.obeyed is_open) were c.args.number none c.execute.result (rw c.integer.ensures at (c.execute.ensures.runs clean))

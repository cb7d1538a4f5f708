use Rattle.sql_rows.proofs.StandingMeanings.{reads}
use Rattle.sql_rows.proofs.StandingCalls.{read, shown}
use Rattle.sql_rows.proofs.StandingCauses.{look_caused}
use Rattle.sql_rows.proofs.standings.calls.rows_of.Goals as goal

pub query-requires : goal.query-requires
query-requires g c = record { query = reads }

pub returns-clause-shown : goal.returns-clause-shown
returns-clause-shown g c clean is_open has were =
    shown (g.S.Session.state c.args.conn.now) (g.S.Session.state c.query.new.conn) c.args.number has were c.query.result (rw c.integer.ensures at (c.query.ensures.shown clean))

pub returns-clause-reads : goal.returns-clause-reads
returns-clause-reads g c clean is_open has were =
    read (g.S.Session.state c.args.conn.now) (g.S.Session.state c.query.new.conn) c.args.number has were c.query.result (rw c.integer.ensures at (c.query.ensures.shown clean))

pub returns-clause-blame : goal.returns-clause-blame
returns-clause-blame g c clean is_open has =
    look_caused (g.S.Session.state c.args.conn.now) (g.S.Session.state c.query.new.conn) has is_open c.args.number c.query.result (rw c.integer.ensures at (c.query.ensures.fails clean))

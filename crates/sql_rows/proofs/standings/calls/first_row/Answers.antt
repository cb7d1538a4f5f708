use Rattle.sql_rows.proofs.StandingMeanings.{finds_next}
use Rattle.sql_rows.proofs.StandingCalls.{next_shown}
use Rattle.sql_rows.proofs.StandingCauses.{next_caused}
use Rattle.sql_rows.proofs.standings.calls.first_row.Goals as goal

pub query-requires : goal.query-requires
query-requires g c = record { query = finds_next }

pub returns-clause-shown : goal.returns-clause-shown
returns-clause-shown g c clean is_open has were =
    next_shown (g.S.Session.state c.args.conn.now) (g.S.Session.state c.query.new.conn) c.args.after has were c.query.result (rw c.integer.ensures at (c.query.ensures.shown clean))

pub returns-clause-blame : goal.returns-clause-blame
returns-clause-blame g c clean is_open has =
    next_caused (g.S.Session.state c.args.conn.now) (g.S.Session.state c.query.new.conn) has is_open c.args.after c.query.result (rw c.integer.ensures at (c.query.ensures.fails clean))

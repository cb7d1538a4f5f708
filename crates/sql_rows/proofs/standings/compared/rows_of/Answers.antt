use Rattle.sql_rows.proofs.StandingTable.{all_caused, all_shown, reads_all}
use Rattle.sql_rows.proofs.standings.compared.rows_of.Goals as goal

pub query-requires : goal.query-requires
query-requires g c = record { query = reads_all }

pub returns-clause-shown : goal.returns-clause-shown
returns-clause-shown g c clean is_open has up = all_shown (g.S.Session.state c.args.conn.now) (g.S.Session.state c.query.new.conn) has up c.query.result (c.query.ensures.shown clean)

pub returns-clause-blame : goal.returns-clause-blame
returns-clause-blame g c clean is_open has = all_caused (g.S.Session.state c.args.conn.now) (g.S.Session.state c.query.new.conn) has is_open c.query.result (c.query.ensures.fails clean)

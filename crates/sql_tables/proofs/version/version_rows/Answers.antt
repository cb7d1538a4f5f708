use Rattle.sql_tables.proofs.ResultLemmas.{on_value}
use Rattle.sql_tables.proofs.VersionLemmas.{version_caused, version_query, version_shown}
use Rattle.sql_tables.proofs.version.version_rows.Goals as goal

pub query-requires : goal.query-requires
query-requires g c = record { query = version_query }

pub returns-clause-shown : goal.returns-clause-shown
returns-clause-shown g c clean is_open has number is =
    on_value c.query.result (λ rows. version_shown (g.S.Session.state c.args.conn.now) (g.S.Session.state c.query.new.conn) has number is rows.items) (c.query.ensures.shown clean)

pub returns-clause-blame : goal.returns-clause-blame
returns-clause-blame g c clean is_open has = version_caused (g.S.Session.state c.args.conn.now) (g.S.Session.state c.query.new.conn) has is_open c.query.result (c.query.ensures.fails clean)

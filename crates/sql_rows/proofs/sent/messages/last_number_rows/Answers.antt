use Rattle.sql_rows.proofs.SentMeanings.{number_query}
use Rattle.sql_tables.proofs.ResultLemmas.{on_value}
use Rattle.sql_rows.proofs.MessageLemmas.{numbers_shown}
use Rattle.sql_rows.proofs.SentCauses.{numbers_caused}
use Rattle.sql_rows.proofs.sent.messages.last_number_rows.Goals as goal

pub query-requires : goal.query-requires
query-requires g c = record { query = number_query }

pub returns-clause-shown : goal.returns-clause-shown
returns-clause-shown g c clean is_open has messages are =
    on_value c.query.result (λ rows. numbers_shown (g.S.Session.state c.args.conn.now) (g.S.Session.state c.query.new.conn) has messages are rows.items) (c.query.ensures.shown clean)

pub returns-clause-blame : goal.returns-clause-blame
returns-clause-blame g c clean is_open has =
    numbers_caused (g.S.Session.state c.args.conn.now) (g.S.Session.state c.query.new.conn) has is_open c.query.result
    (c.query.ensures.fails clean)

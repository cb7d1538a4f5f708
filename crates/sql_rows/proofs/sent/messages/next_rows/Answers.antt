use Rattle.std.specs.Int.{w64, cast_signed}
use Rattle.sql_rows.proofs.SentMeanings.{next_query}
use Rattle.sql_tables.proofs.ResultLemmas.{on_value}
use Rattle.sql_rows.proofs.MessageLemmas.{next_shown}
use Rattle.sql_rows.proofs.SentCauses.{next_caused}
use Rattle.sql_rows.proofs.sent.messages.next_rows.Goals as goal

pub query-requires : goal.query-requires
query-requires g c = record { query = next_query }

pub returns-clause-shown : goal.returns-clause-shown
returns-clause-shown g c clean is_open has messages are low =
    on_value c.query.result (λ rows. next_shown (g.S.Session.state c.args.conn.now) (g.S.Session.state c.query.new.conn) has messages are c.args.bic c.args.after low rows.items)
    (rw (c.as_bytes.ensures.bytes, c.integer.ensures) at (c.query.ensures.shown clean))

pub returns-clause-blame : goal.returns-clause-blame
returns-clause-blame g c clean is_open has =
    next_caused (g.S.Session.state c.args.conn.now) (g.S.Session.state c.query.new.conn) has is_open c.args.bic (cast_signed w64 c.args.after) c.query.result
    (rw (c.as_bytes.ensures.bytes, c.integer.ensures) at (c.query.ensures.fails clean))

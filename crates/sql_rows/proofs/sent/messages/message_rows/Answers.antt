use Rattle.std.proofs.Common.{arith}
use Rattle.std.specs.Int.{w64, cast_signed}
use Rattle.sql_rows.proofs.SentMeanings.{message_query}
use Rattle.sql_tables.proofs.ResultLemmas.{on_value}
use Rattle.sql_rows.proofs.MessageLemmas.{message_shown}
use Rattle.sql_rows.proofs.SentCauses.{found_caused}
use Rattle.sql_rows.proofs.sent.messages.message_rows.Goals as goal

pub query-requires : goal.query-requires
query-requires g c = record { query = message_query }

pub returns-clause-shown : goal.returns-clause-shown
returns-clause-shown g c clean is_open has messages are =
    on_value c.query.result (λ rows. message_shown (g.S.Session.state c.args.conn.now) (g.S.Session.state c.query.new.conn) has messages are c.args.number (omega (arith, c.ranges.number)) rows.items)
    (rw c.integer.ensures at (c.query.ensures.shown clean))

pub returns-clause-blame : goal.returns-clause-blame
returns-clause-blame g c clean is_open has =
    found_caused (g.S.Session.state c.args.conn.now) (g.S.Session.state c.query.new.conn) has is_open (cast_signed w64 c.args.number) c.query.result
    (rw c.integer.ensures at (c.query.ensures.fails clean))

use Rattle.sql_rows.proofs.AmountMeanings.{next_query}
use Rattle.sql_rows.proofs.ClauseLemmas.{walked}
use Rattle.std.proofs.Common.{unwrap_or, []}
use Rattle.sql_rows.proofs.AmountCauses.{walk_caused}
use Rattle.sql_rows.proofs.amounts.holdings.next_rows.Goals as goal

pub query-requires : goal.query-requires
query-requires g c = record { query = next_query }

pub returns-clause-value : goal.returns-clause-value
returns-clause-value g c clean is_open has amounts =
    walked (g.S.Session.state c.args.conn.now) (g.S.Session.state c.query.new.conn) has amounts c.args.account c.args.above c.query.result
    (rw (c.as_bytes.ensures.bytes, c.bytes_of.ensures) at (c.query.ensures.shown clean))

pub returns-clause-blame : goal.returns-clause-blame
returns-clause-blame g c clean is_open has =
    walk_caused (g.S.Session.state c.args.conn.now) (g.S.Session.state c.query.new.conn) has is_open c.args.account (unwrap_or c.args.above []) c.query.result
    (rw (c.as_bytes.ensures.bytes, c.bytes_of.ensures) at (c.query.ensures.fails clean))

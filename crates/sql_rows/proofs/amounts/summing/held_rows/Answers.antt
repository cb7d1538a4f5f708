use Rattle.sql_rows.proofs.AmountMeanings.{held_query}
use Rattle.sql_rows.proofs.ClauseLemmas.{held_summed}
use Rattle.sql_rows.proofs.AmountCauses.{held_caused}
use Rattle.sql_rows.proofs.amounts.summing.held_rows.Goals as goal

pub query-requires : goal.query-requires
query-requires g c = record { query = held_query }

pub returns-clause-value : goal.returns-clause-value
returns-clause-value g c clean is_open has amounts =
    held_summed (g.S.Session.state c.args.conn.now) (g.S.Session.state c.query.new.conn) has amounts c.args.isin c.query.result
    (rw c.as_bytes.ensures.bytes at (c.query.ensures.shown clean))

pub returns-clause-blame : goal.returns-clause-blame
returns-clause-blame g c clean is_open has =
    held_caused (g.S.Session.state c.args.conn.now) (g.S.Session.state c.query.new.conn) has is_open c.args.isin c.query.result
    (rw c.as_bytes.ensures.bytes at (c.query.ensures.fails clean))

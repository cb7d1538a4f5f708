use Rattle.desk_codes.specs.Currency.{letters_of}
use Rattle.sql_rows.proofs.AmountMeanings.{held_cash_query}
use Rattle.sql_rows.proofs.ClauseLemmas.{cash_summed}
use Rattle.sql_rows.proofs.AmountCauses.{held_cash_caused}
use Rattle.sql_rows.proofs.amounts.summing.cash_rows.Goals as goal

pub query-requires : goal.query-requires
query-requires g c = record { query = held_cash_query }

pub returns-clause-value : goal.returns-clause-value
returns-clause-value g c clean is_open has amounts =
    cash_summed (g.S.Session.state c.args.conn.now) (g.S.Session.state c.query.new.conn) has amounts c.args.ccy c.query.result
    (rw c.as_bytes.ensures at (c.query.ensures.shown clean))

pub returns-clause-blame : goal.returns-clause-blame
returns-clause-blame g c clean is_open has =
    held_cash_caused (g.S.Session.state c.args.conn.now) (g.S.Session.state c.query.new.conn) has is_open (letters_of c.args.ccy) c.query.result
    (rw c.as_bytes.ensures at (c.query.ensures.fails clean))

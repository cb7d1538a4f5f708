use Rattle.sql_rows.proofs.AmountTextLemmas.{all_caused, all_shown, reads_all}
use Rattle.sql_rows.proofs.amounts.compared.table.rows_of.Goals as goal

pub query-requires : goal.query-requires
query-requires g c = record { query = rw c.query_of_all-text.ensures (reads_all c.args.ledger) }

pub returns-clause-shown : goal.returns-clause-shown
returns-clause-shown g c clean is_open has =
    all_shown c.args.ledger (g.S.Session.state c.args.conn.now) (g.S.Session.state c.query.new.conn) has c.query.result (rw c.query_of_all-text.ensures at (c.query.ensures.shown clean))

pub returns-clause-blame : goal.returns-clause-blame
returns-clause-blame g c clean is_open has =
    all_caused c.args.ledger (g.S.Session.state c.args.conn.now) (g.S.Session.state c.query.new.conn) has is_open c.query.result (rw c.query_of_all-text.ensures at (c.query.ensures.fails clean))

use Rattle.std.proofs.Common.{sym, ap, subst, ◌∙◌}
use Rattle.sql_tables.specs.Statements.{IsQuery}
use Rattle.sql_rows.specs.Keys.{ledger_of}
use Rattle.sql_rows.specs.AmountStatements.{amount_text}
use Rattle.sql_rows.proofs.AmountMeanings.{amount_query}
use Rattle.sql_rows.proofs.ClauseLemmas.{looked}
use Rattle.sql_rows.proofs.AmountCauses.{look_caused}
use Rattle.sql_rows.proofs.amounts.calls.rows_of.Goals as goal

pub query-requires : goal.query-requires
query-requires g c = record { query = subst IsQuery (sym (c.amount_of_key-text.ensures ∙ ap amount_text c.ledger.ensures)) (amount_query (ledger_of c.args.key.now)) }

pub returns-clause-value : goal.returns-clause-value
returns-clause-value g c clean is_open has amounts =
    looked (g.S.Session.state c.args.conn.now) (g.S.Session.state c.query.new.conn) has amounts c.args.key.now c.query.result
    (rw (c.amount_of_key-text.ensures, c.ledger.ensures, c.first.ensures, c.second.ensures) at (c.query.ensures.shown clean))

pub returns-clause-blame : goal.returns-clause-blame
returns-clause-blame g c clean is_open has =
    look_caused (g.S.Session.state c.args.conn.now) (g.S.Session.state c.query.new.conn) has is_open c.args.key.now c.query.result
    (rw (c.amount_of_key-text.ensures, c.ledger.ensures, c.first.ensures, c.second.ensures) at (c.query.ensures.fails clean))

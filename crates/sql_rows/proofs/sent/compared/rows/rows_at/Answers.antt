use Rattle.std.proofs.Common.{[], ◌∷◌, pos}
use Rattle.sqlite.specs.declared.types.Value.TheVariants.{Int}
use Rattle.sql_tables.proofs.ShownLemmas.{rows_shown}
use Rattle.sql_rows.proofs.SentComparedRows.{at_caused, reads_at}
use Rattle.sql_rows.proofs.sent.compared.rows.rows_at.Goals as goal

pub query-requires : goal.query-requires
query-requires g c = record { query = reads_at.query }

pub returns-clause-shown : goal.returns-clause-shown
returns-clause-shown g c clean is_open has =
    rows_shown reads_at (Int (pos c.args.number) ∷ []) (g.S.Session.state c.args.conn.now) (g.S.Session.state c.query.new.conn) has c.query.result (rw c.integer.ensures at (c.query.ensures.shown clean))

pub returns-clause-blame : goal.returns-clause-blame
returns-clause-blame g c clean is_open has =
    at_caused (g.S.Session.state c.args.conn.now) (g.S.Session.state c.query.new.conn) has is_open (pos c.args.number) c.query.result (rw c.integer.ensures at (c.query.ensures.fails clean))

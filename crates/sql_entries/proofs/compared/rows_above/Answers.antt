use Rattle.std.proofs.Common.{pos}
use Rattle.sql_tables.specs.Versions.{schema_in}
use Rattle.sql_entries.proofs.ComparedRows.{above_caused, above_shown, reads_above}
use Rattle.sql_entries.proofs.compared.rows_above.Goals as goal

pub returns-clause-look : goal.returns-clause-look
returns-clause-look g c = λ version. c.query_of.ensures.look (schema_in version) (reads_above version).query

pub returns-clause-shown : goal.returns-clause-shown
returns-clause-shown g c = λ version clean is_open has.
    above_shown version (g.S.Session.state c.args.conn.now) (g.S.Session.state c.query_of.new.conn) has c.args.number c.query_of.result (rw c.integer.ensures at (c.query_of.ensures.shown clean))

pub returns-clause-blame : goal.returns-clause-blame
returns-clause-blame g c = λ version clean is_open has.
    above_caused version (g.S.Session.state c.args.conn.now) (g.S.Session.state c.query_of.new.conn) has (pos c.args.number) c.query_of.result is_open (rw c.integer.ensures at (c.query_of.ensures.fails clean))

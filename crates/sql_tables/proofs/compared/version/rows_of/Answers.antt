use Rattle.sql_tables.specs.Versions.{schema_in}
use Rattle.sql_tables.proofs.ComparedVersion.{all_caused, all_shown, reads_all}
use Rattle.sql_tables.proofs.compared.version.rows_of.Goals as goal

pub returns-clause-look : goal.returns-clause-look
returns-clause-look g c = λ version. c.query_of.ensures.look (schema_in version) (reads_all version)

pub returns-clause-shown : goal.returns-clause-shown
returns-clause-shown g c = λ version clean is_open has. all_shown (g.S.Session.state c.args.conn.now) (g.S.Session.state c.query_of.new.conn) version has c.query_of.result (c.query_of.ensures.shown clean)

pub returns-clause-blame : goal.returns-clause-blame
returns-clause-blame g c = λ version clean is_open has. all_caused version (g.S.Session.state c.args.conn.now) (g.S.Session.state c.query_of.new.conn) has is_open c.query_of.result (c.query_of.ensures.fails clean)

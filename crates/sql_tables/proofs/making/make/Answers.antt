use Rattle.sql_tables.proofs.MakingLemmas.{has_made, keeps_committed}
use Rattle.sql_tables.proofs.MakingCauses.{make_caused}
use Rattle.sql_tables.proofs.making.make.Goals as goal

pub returns-clause-made : goal.returns-clause-made
returns-clause-made g c clean is_open before after makes was = has_made (g.S.Session.state c.args.conn.now) (g.S.Session.state c.execute.new.self) _ before after makes was c.execute.result (c.execute.ensures.runs clean)

pub returns-clause-kept : goal.returns-clause-kept
returns-clause-kept g c clean = keeps_committed (g.S.Session.state c.args.conn.now) (g.S.Session.state c.execute.new.self) _ c.execute.result (c.execute.ensures.runs clean)

pub returns-clause-blame : goal.returns-clause-blame
returns-clause-blame g c clean is_open before after makes was = make_caused (g.S.Session.state c.args.conn.now) (g.S.Session.state c.execute.new.self) _ before after makes was.schema_is is_open c.execute.result (c.execute.ensures.runs clean)

use Rattle.sql_tables.proofs.MakingLemmas.{keeps_committed}
use Rattle.sql_register.proofs.EmptyContent.{begin_caused, begun_making, begun_outside}
use Rattle.sql_register.proofs.making.begin_making.Goals as goal

pub returns-clause-ok : goal.returns-clause-ok
returns-clause-ok g c clean is_open has = begun_making (g.S.Session.state c.args.conn.now) (g.S.Session.state c.execute.new.self) has c.execute.result (c.execute.ensures.runs clean)

pub returns-clause-outside : goal.returns-clause-outside
returns-clause-outside g c clean has = begun_outside (g.S.Session.state c.args.conn.now) (g.S.Session.state c.execute.new.self) has c.execute.result (c.execute.ensures.runs clean)

pub returns-clause-kept : goal.returns-clause-kept
returns-clause-kept g c clean = keeps_committed (g.S.Session.state c.args.conn.now) (g.S.Session.state c.execute.new.self) _ c.execute.result (c.execute.ensures.runs clean)

pub returns-clause-blame : goal.returns-clause-blame
returns-clause-blame g c clean is_open has outside = begin_caused (g.S.Session.state c.args.conn.now) (g.S.Session.state c.execute.new.self) has is_open outside c.execute.result (c.execute.ensures.runs clean)

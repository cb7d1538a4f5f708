use Rattle.desk_file.proofs.VersionLemmas.{begin_caused, begin_inside, begin_spares, begun}
use Rattle.desk_file.proofs.version.begin.Goals as goal

pub returns-clause-inside : goal.returns-clause-inside
returns-clause-inside g c clean = begin_inside (g.S.Session.state c.args.conn.now) (g.S.Session.state c.execute.new.self) c.execute.result (c.execute.ensures.runs clean)

pub returns-clause-spares : goal.returns-clause-spares
returns-clause-spares g c = begin_spares (g.S.Session.state c.args.conn.now) (g.S.Session.state c.execute.new.self) c.execute.result _ c.execute.ensures.survives c.execute.ensures.runs

pub returns-clause-same : goal.returns-clause-same
returns-clause-same g c clean = begun (g.S.Session.state c.args.conn.now) (g.S.Session.state c.execute.new.self) c.execute.result (c.execute.ensures.runs clean)

pub returns-clause-blame : goal.returns-clause-blame
returns-clause-blame g c clean is_open outside = begin_caused (g.S.Session.state c.args.conn.now) (g.S.Session.state c.execute.new.self) is_open outside c.execute.result (c.execute.ensures.runs clean)

use Rattle.sql_tables.proofs.EndLemmas.{execute_fell, execute_opened, execute_why, later_from}
use Rattle.sql_tables.proofs.ControlLemmas.{saved, save_caused}
use Rattle.sql_tables.proofs.control.save.Goals as goal

pub returns-clause-ok : goal.returns-clause-ok
returns-clause-ok g c clean is_open has inside none = saved (g.S.Session.state c.args.conn.now) (g.S.Session.state c.execute.new.self) has inside none c.execute.result (c.execute.ensures.runs clean)

pub returns-clause-err : goal.returns-clause-err
returns-clause-err g c clean is_open has = execute_fell (g.S.Session.state c.args.conn.now) (g.S.Session.state c.execute.new.self) _ _ c.execute.result (c.execute.ensures.runs clean)

pub returns-clause-why : goal.returns-clause-why
returns-clause-why g c clean is_open has = execute_why (g.S.Session.state c.args.conn.now) (g.S.Session.state c.execute.new.self) _ _ c.execute.result (c.execute.ensures.runs clean) is_open

pub returns-clause-opened : goal.returns-clause-opened
returns-clause-opened g c clean = execute_opened (g.S.Session.state c.args.conn.now) (g.S.Session.state c.execute.new.self) _ _ c.execute.result (c.execute.ensures.runs clean)

pub returns-clause-later : goal.returns-clause-later
returns-clause-later g c = later_from (g.S.Session.state c.args.conn.now) (g.S.Session.state c.execute.new.self) _ c.execute.ensures.survives

pub returns-clause-blame : goal.returns-clause-blame
returns-clause-blame g c clean is_open has = save_caused (g.S.Session.state c.args.conn.now) (g.S.Session.state c.execute.new.self) has is_open c.execute.result (c.execute.ensures.runs clean)

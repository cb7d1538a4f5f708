use Rattle.sql_tables.proofs.EndLemmas.{later_from}
use Rattle.sql_tables.proofs.StatementLemmas.{looks, look_fell, look_why, look_opened}
use Rattle.sql_tables.proofs.statement.query_of.Goals as goal

pub returns-clause-look : goal.returns-clause-look
returns-clause-look g c = λ schema query.
    let old = g.S.Session.state c.args.conn.now in
    let new = g.S.Session.state c.query_all.new.self in
    record {
      ok = λ clean is_open has. looks old new _ _ schema query has c.query_all.result (c.query_all.ensures.ok clean);
      err = λ clean is_open has. look_fell old new _ _ c.query_all.result (c.query_all.ensures.err clean);
      why = λ clean is_open has. look_why old new _ _ c.query_all.result (c.query_all.ensures.err clean) is_open;
      opened = λ clean. look_opened old new _ _ c.query_all.result (c.query_all.ensures.ok clean) (c.query_all.ensures.err clean);
      later = later_from old new _ c.query_all.ensures.survives;
    }

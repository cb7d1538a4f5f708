use Rattle.sql_tables.proofs.EndLemmas.{execute_opened, execute_why, later_from}
use Rattle.sql_tables.proofs.StatementLemmas.{edits, edit_fell}
use Rattle.sql_tables.proofs.statement.execute.Goals as goal

pub returns-clause-write : goal.returns-clause-write
returns-clause-write g c =
    let old = g.S.Session.state c.args.conn.now in
    let new = g.S.Session.state c.execute.new.self in
    record {
      ok = λ clean is_open has. edits old new _ _ c.requires.edit has c.execute.result (c.execute.ensures.runs clean);
      err = λ clean is_open has. edit_fell old new _ _ has c.execute.result (c.execute.ensures.runs clean);
      why = λ clean is_open has. execute_why old new _ _ c.execute.result (c.execute.ensures.runs clean) is_open;
      opened = λ clean. execute_opened old new _ _ c.execute.result (c.execute.ensures.runs clean);
      later = later_from old new _ c.execute.ensures.survives;
    }

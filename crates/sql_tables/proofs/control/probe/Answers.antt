use Rattle.std.proofs.Common.{Err}
use Rattle.sql_tables.specs.Ends.{ForCause}
use Rattle.sql_tables.proofs.EndLemmas.{show_opened}
use Rattle.sql_tables.proofs.ControlLemmas.{probes, probe_caused}
use Rattle.sql_tables.proofs.ResultLemmas.{on_error}
use Rattle.sql_tables.proofs.control.probe.Goals as goal

pub query-requires : goal.query-requires
query-requires g c = record { query = probes }

pub returns-clause-shown : goal.returns-clause-shown
returns-clause-shown g c clean = show_opened (g.S.Session.state c.args.conn.now) (g.S.Session.state c.query.new.conn) _ _ _ (c.in_ok-query.ensures.shown clean)

pub returns-in_err-query-clause-blame : goal.returns-in_err-query-clause-blame
returns-in_err-query-clause-blame g c clean is_open has =
    let old = g.S.Session.state c.args.conn.now in
    let new = g.S.Session.state c.query.new.conn in
    on_error c.from_residual.result c.in_err-query.field-0.0 (ForCause old new) c.from_residual.ensures.1 (probe_caused old new has is_open (Err c.in_err-query.field-0.0) (c.in_err-query.ensures.fails clean))

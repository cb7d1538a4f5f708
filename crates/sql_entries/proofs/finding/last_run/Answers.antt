use Rattle.std.proofs.Common.{◌∙◌}
use Rattle.sql_tables.specs.Ends.{ForCause}
use Rattle.sql_tables.proofs.ResultLemmas.{no_error}
use Rattle.sql_entries.proofs.finding.last_run.Goals as goal

pub returns-clause-blame : goal.returns-clause-blame
returns-clause-blame g c clean is_open has register are formed =
    let it = c.in_ok-rows.ensures.days clean is_open has register are formed in
    no_error c.only_day.result (ForCause (g.S.Session.state c.args.conn.now) (g.S.Session.state c.last_run_day.new.conn)) (c.only_day.ensures.all it.0 (c.deref.ensures.value ∙ it.1) it.2)

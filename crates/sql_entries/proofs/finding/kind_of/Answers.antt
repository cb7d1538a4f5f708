use Rattle.std.proofs.Common.{◌∙◌}
use Rattle.sql_tables.specs.Ends.{ForCause}
use Rattle.sql_tables.proofs.ResultLemmas.{no_error}
use Rattle.sql_entries.proofs.finding.kind_of.Goals as goal

pub returns-clause-blame : goal.returns-clause-blame
returns-clause-blame g c clean is_open has register are =
    no_error c.only_kind.result (ForCause (g.S.Session.state c.args.conn.now) (g.S.Session.state c.security.new.conn)) (c.only_kind.ensures.all _ (c.deref.ensures.value ∙ c.in_ok-rows.ensures.shown clean is_open has register are))

use Rattle.std.proofs.Common.{◌∙◌}
use Rattle.sql_tables.specs.Ends.{ForCause}
use Rattle.sql_tables.proofs.ResultLemmas.{no_error}
use Rattle.sql_entries.specs.Entries.{entries_in}
use Rattle.sql_entries.proofs.FormedLemmas.{are_spelt, next_is_isin}
use Rattle.sql_entries.proofs.finding.security_after.Goals as goal

pub returns-clause-blame : goal.returns-clause-blame
returns-clause-blame g c clean is_open has register are formed =
    let it = c.in_ok-rows.ensures.shown clean is_open has register are in
    no_error c.only_isin.result (ForCause (g.S.Session.state c.args.conn.now) (g.S.Session.state c.rows_above.new.conn)) (c.only_isin.ensures.all it.0 (c.deref.ensures.value ∙ it.1)
    (next_is_isin (entries_in register) (are_spelt (entries_in register) formed) c.args.isin it.0 it.2))

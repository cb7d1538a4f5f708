use Rattle.std.proofs.Common.{◌∙◌}
use Rattle.sql_tables.specs.Ends.{ForCause}
use Rattle.sql_tables.proofs.ResultLemmas.{no_error}
use Rattle.sql_entries.specs.Entries.{entries_in}
use Rattle.sql_entries.proofs.FormedLemmas.{are_spelt, owner_is_bic}
use Rattle.sql_entries.proofs.finding.owner_of.Goals as goal

pub returns-clause-blame : goal.returns-clause-blame
returns-clause-blame g c clean is_open has register are formed =
    no_error c.only_bic.result (ForCause (g.S.Session.state c.args.conn.now) (g.S.Session.state c.owner.new.conn)) (c.only_bic.ensures.all _ (c.deref.ensures.value ∙ c.in_ok-rows.ensures.shown clean is_open has register are)
    (owner_is_bic c.args.account (entries_in register) (are_spelt (entries_in register) formed)))

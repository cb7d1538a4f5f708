use Rattle.sql_entries.proofs.CauseLemmas.{memory_caused}
use Rattle.sql_entries.proofs.FormedLemmas.{spelt_at}
use Rattle.std.proofs.Common.{◌≡◌, Option, IfOk, subst, ◌∙◌}
use Rattle.desk_rules.specs.declared.history.entry.Entry.{Entry}
use Rattle.desk_register.specs.Looked.{kept_at}
use Rattle.sql_entries.proofs.EffectLemmas.{entry_of}
use Rattle.sql_entries.proofs.looking.entry_at.Goals as goal

pub returns-clause-value : goal.returns-clause-value
returns-clause-value g c clean is_open has register are =
    subst (λ (found : Option Entry). IfOk c.first_entry.result (λ entry. entry ≡ found)) (entry_of register c.args.number)
    (c.first_entry.ensures.value (kept_at register c.args.number) (c.deref.ensures.value ∙ c.in_ok-rows.ensures.shown clean is_open has register are))

pub returns-clause-blame : goal.returns-clause-blame
returns-clause-blame g c clean is_open has register are formed =
    memory_caused (g.S.Session.state c.args.conn.now) (g.S.Session.state c.entry_rows.new.conn) c.first_entry.result
    (c.first_entry.ensures.all (kept_at register c.args.number) (c.deref.ensures.value ∙ c.in_ok-rows.ensures.shown clean is_open has register are) (spelt_at register c.args.number formed))

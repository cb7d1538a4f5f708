use Rattle.std.proofs.Common.{◌≡◌, IfErr, IfOk, refl, subst, sym, ◌∙◌}
use Rattle.sql_tables.specs.Ends.{ForCause}
use Rattle.desk_rules.specs.History.{number_of_key}
use Rattle.sql_entries.specs.Entries.{entries_in}
use Rattle.sql_entries.proofs.finding.number_of.Goals as goal

pub returns-clause-value : goal.returns-clause-value
returns-clause-value g c clean is_open has register are =
    let found = number_of_key (entries_in register) c.args.sender c.args.reference in
    subst (λ r. IfOk r (λ n. n ≡ found)) (sym (c.only_number.ensures found (c.deref.ensures.value ∙ c.in_ok-rows.ensures.shown clean is_open has register are))) refl

pub returns-clause-blame : goal.returns-clause-blame
returns-clause-blame g c clean is_open has register are =
    let found = number_of_key (entries_in register) c.args.sender c.args.reference in
    subst (λ r. IfErr r (ForCause (g.S.Session.state c.args.conn.now) (g.S.Session.state c.rows_of_key.new.conn)))
    (sym (c.only_number.ensures found (c.deref.ensures.value ∙ c.in_ok-rows.ensures.shown clean is_open has register are))) tt

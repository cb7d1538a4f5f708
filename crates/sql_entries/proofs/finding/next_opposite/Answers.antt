use Rattle.std.proofs.Common.{IfErr, IfOk, IfSome, ◌<◌, ◌^◌, subst, sym, ◌∙◌}
use Rattle.desk_rules.specs.declared.history.entry.Instructed.{Instructed}
use Rattle.sql_tables.specs.Ends.{ForCause}
use Rattle.sql_entries.specs.Entries.{entries_in}
use Rattle.sql_entries.specs.Opposites.{IsNextOpposite}
use Rattle.sql_entries.proofs.OppositeLemmas.{next_is_small}
use Rattle.sql_entries.proofs.finding.next_opposite.Goals as goal

pub returns-clause-value : goal.returns-clause-value
returns-clause-value g c clean is_open has register are =
    let i : Instructed = record { sender = c.args.sender; instruction = c.args.instruction.now } in
    let it = c.in_ok-rows.ensures.shown clean is_open has register are in
    subst (λ r. IfOk r (IsNextOpposite (entries_in register) i c.args.after)) (sym (c.only_number.ensures it.0 (c.deref.ensures.value ∙ it.1))) it.2

pub returns-clause-small : goal.returns-clause-small
returns-clause-small g c clean is_open has register are =
    let i : Instructed = record { sender = c.args.sender; instruction = c.args.instruction.now } in
    let it = c.in_ok-rows.ensures.shown clean is_open has register are in
    subst (λ r. IfOk r (λ found. IfSome found (λ n. n < 2 ^ 63))) (sym (c.only_number.ensures it.0 (c.deref.ensures.value ∙ it.1))) (next_is_small register i c.args.after are.few it.0 it.2)

pub returns-clause-blame : goal.returns-clause-blame
returns-clause-blame g c clean is_open has register are =
    let it = c.in_ok-rows.ensures.shown clean is_open has register are in
    subst (λ r. IfErr r (ForCause (g.S.Session.state c.args.conn.now) (g.S.Session.state c.opposite_above.new.conn))) (sym (c.only_number.ensures it.0 (c.deref.ensures.value ∙ it.1))) tt

use Rattle.std.proofs.Common.{◌<◌, ◌^◌, IfOk, IfErr, IfSome, sym, subst, ◌∙◌}
use Rattle.sql_tables.specs.Ends.{ForCause}
use Rattle.sql_rows.specs.Standings.{IsNextMatched}
use Rattle.sql_rows.proofs.standings.calls.next_matched.Goals as goal

pub returns-clause-value : goal.returns-clause-value
returns-clause-value g c clean is_open has were =
    let it = c.in_ok-rows.ensures.shown clean is_open has were in
    subst (λ r. IfOk r (λ next. IsNextMatched (g.S.Session.state c.args.conn.now).now c.args.after next)) (sym (c.only_number.ensures it.found (c.deref.ensures.value ∙ it.shown))) it.next

pub returns-clause-small : goal.returns-clause-small
returns-clause-small g c clean is_open has were =
    let it = c.in_ok-rows.ensures.shown clean is_open has were in
    subst (λ r. IfOk r (λ next. IfSome next (λ n. n < 2 ^ 63))) (sym (c.only_number.ensures it.found (c.deref.ensures.value ∙ it.shown))) it.small

pub returns-clause-blame : goal.returns-clause-blame
returns-clause-blame g c clean is_open has were =
    let it = c.in_ok-rows.ensures.shown clean is_open has were in
    subst (λ r. IfErr r (ForCause (g.S.Session.state c.args.conn.now) (g.S.Session.state c.first_row.new.conn))) (sym (c.only_number.ensures it.found (c.deref.ensures.value ∙ it.shown))) tt

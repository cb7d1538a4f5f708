use Rattle.std.proofs.Common.{sym, subst, ◌∙◌, arith}
use Rattle.sql_rows.specs.Standings.{standing_in, AreReadable, IsStandingShown}
use Rattle.sql_rows.proofs.StandingLemmas.{none_beyond}
use Rattle.sql_tables.specs.Ends.{ForCause}
use Rattle.sql_tables.proofs.ResultLemmas.{no_error}
use Rattle.sql_rows.proofs.StandingCauses.{reads_shown}
use Rattle.sql_rows.proofs.standings.calls.standing.Goals as goal

pub returns-then-number-gt-MOST-clause-value : goal.returns-then-number-gt-MOST-clause-value
returns-then-number-gt-MOST-clause-value g c clean is_open has were =
    c.no_standing.ensures ∙ sym (none_beyond c.args.number ((g.S.Session.state c.args.conn.now).now.trees 8) were.formed (omega arith))

pub returns-clause-value : goal.returns-clause-value
returns-clause-value g c clean is_open has were =
    let standing = standing_in (g.S.Session.state c.args.conn.now).now c.args.number in
    c.standing_shown.ensures.value standing (subst (λ rows. IsStandingShown rows standing) (sym c.as_slice.ensures.value) (c.in_ok-rows.ensures.shown clean is_open has were))

pub returns-clause-blame : goal.returns-clause-blame
returns-clause-blame g c clean is_open has were =
    no_error c.standing_shown.result (ForCause (g.S.Session.state c.args.conn.now) (g.S.Session.state c.rows_of.new.conn))
    (reads_shown _ c.standing_shown.result c.standing_shown.ensures.none c.standing_shown.ensures.all (subst AreReadable (sym c.as_slice.ensures.value) (c.in_ok-rows.ensures.reads clean is_open has were)))

use Rattle.std.proofs.Common.{◌∙◌, subst}
use Rattle.sqlite.specs.Schema.{Schema}
use Rattle.sql_tables.specs.Order.{AreInOrder}
use Rattle.desk_file.proofs.RegisterTables.{formed_rest, no_rest, other_with, rest_schema}
use Rattle.desk_file.proofs.audit.rest.first_other.Goals as goal

pub returns-in-First-clause-says : goal.returns-in-First-clause-says
returns-in-First-clause-says g c clean is_open has honest sure order formed held = λ none. no_rest c.args.version _ _ c.in-First.is

pub returns-in_default-clause-says : goal.returns-in_default-clause-says
returns-in_default-clause-says g c clean is_open has honest sure order formed held =
    let not = c.in_default.not-First in
    let trees = (g.S.Session.state c.args.conn.now).now.trees in
    let same = rest_schema c.args.version not in
    other_with c.args.version _ _ not c.first_unlike.result
    (c.first_unlike.ensures.says clean is_open (has ∙ same) honest sure (subst (λ (s : Schema). AreInOrder s trees) same order) (formed_rest c.args.version trees not formed) held)

pub returns-in_default-clause-cause : goal.returns-in_default-clause-cause
returns-in_default-clause-cause g c clean is_open has honest sure order formed =
    let not = c.in_default.not-First in
    let trees = (g.S.Session.state c.args.conn.now).now.trees in
    let same = rest_schema c.args.version not in
    c.first_unlike.ensures.cause clean is_open (has ∙ same) honest sure (subst (λ (s : Schema). AreInOrder s trees) same order) (formed_rest c.args.version trees not formed)

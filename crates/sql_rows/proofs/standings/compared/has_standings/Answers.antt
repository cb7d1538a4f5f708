use Rattle.std.proofs.Common.{◌∙◌}
use Rattle.sql_rows.specs.StandingsTold.{content_as}
use Rattle.sql_rows.proofs.SaidRows.{tells_all, within_as}
use Rattle.sql_rows.proofs.StandingTable.{in_numbers, says_all}
use Rattle.sql_rows.proofs.standings.compared.has_standings.Goals as goal

pub returns-clause-says : goal.returns-clause-says
returns-clause-says g c clean is_open has honest sure order formed within told =
    let db = (g.S.Session.state c.args.conn.now).now in
    says_all db (content_as c.args.version (g.R.Register.view c.args.register.now).content) c.deref.result.now order formed (within_as c.args.version (g.R.Register.view c.args.register.now).content within) (c.deref.ensures.value ∙ c.in_ok-rows.ensures.shown clean is_open has (in_numbers db order))
    ((c.in_ok-told.ensures.told honest sure).0 told)

pub returns-clause-exact : goal.returns-clause-exact
returns-clause-exact g c clean is_open has honest sure within says =
    let db = (g.S.Session.state c.args.conn.now).now in
    (c.in_ok-told.ensures.told honest sure).1
    (tells_all db (content_as c.args.version (g.R.Register.view c.args.register.now).content) says (within_as c.args.version (g.R.Register.view c.args.register.now).content within) c.deref.result.now (c.deref.ensures.value ∙ c.in_ok-rows.ensures.shown clean is_open has says.kept.rising))

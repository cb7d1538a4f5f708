use Rattle.desk_file.proofs.RestLemmas.{audited_whole, is_third}
use Rattle.desk_file.proofs.audit.auditing.audit.Goals as goal

pub returns-clause-whole : goal.returns-clause-whole
returns-clause-whole g c clean is_open honest sure order few =
    audited_whole (g.S.Session.state c.args.conn.now).now (g.R.Register.view c.args.register.now).room (g.R.Register.view c.audit_version.new.register).content c.audit_version.result few (c.audit_version.ensures.whole clean is_open honest sure order)

pub returns-clause-exact : goal.returns-clause-exact
returns-clause-exact g c clean is_open honest sure content audited =
    c.audit_version.ensures.exact clean is_open honest sure content (is_third (g.S.Session.state c.args.conn.now).now (g.R.Register.view c.args.register.now).room content audited)

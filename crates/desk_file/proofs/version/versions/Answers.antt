use Rattle.desk_file.proofs.VersionLemmas.{query_says_why, query_spares}
use Rattle.desk_file.proofs.version.versions.Goals as goal

pub returns-clause-spares : goal.returns-clause-spares
returns-clause-spares g c inside =
    query_spares (λ rows. rows.items) (g.S.Session.state c.args.conn.now) (g.S.Session.state c.query_all.new.self) _ _ c.query_all.result _ c.query_all.ensures.survives inside c.query_all.ensures.ok c.query_all.ensures.err

pub returns-clause-why : goal.returns-clause-why
returns-clause-why g c clean is_open =
    query_says_why (λ rows. rows.items) (g.S.Session.state c.args.conn.now) (g.S.Session.state c.query_all.new.self) _ _ is_open c.query_all.result (c.query_all.ensures.err clean)

use Rattle.desk.proofs.MigrateLemmas.{said}
use Rattle.desk.proofs.answers.migrate.fill.Goals as goal

pub returns-clause-says : goal.returns-clause-says
returns-clause-says g c = said g.S.Session.state c.args.both c.put_all-filled.new.register (g.S.Session.state c.connection_of.result) c.put_all-filled.result c.args.entries.now c.requires.ready.room tt c.requires.accepted.formed c.put_all-filled.ensures.stage c.put_all-filled.ensures.holds c.connection_of.ensures.left

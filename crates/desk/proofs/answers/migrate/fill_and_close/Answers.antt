use Rattle.desk.proofs.MigrateLemmas.{held_closed, put}
use Rattle.desk.proofs.answers.migrate.fill_and_close.Goals as goal

pub returns-in-Ok-clause-holds : goal.returns-in-Ok-clause-holds
returns-in-Ok-clause-holds g c = held_closed c.fill-filled.result.1 c.close_made.result c.args.entries.now c.close_made.ensures.closed (put c.fill-filled.result.0 _ c.in-Ok.is c.fill-filled.ensures.says)

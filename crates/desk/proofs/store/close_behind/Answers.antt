use Rattle.desk.proofs.LeftLemmas.{files_say}
use Rattle.desk.proofs.store.close_behind.Goals as goal

pub returns-clause-left : goal.returns-clause-left
returns-clause-left g c = files_say c.args.was_closed c.args.conn c.close-files.result c.close-files.ensures.closed

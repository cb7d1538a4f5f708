use Rattle.desk.proofs.DropLemmas.{folder_end}
use Rattle.desk.proofs.answers.drop.take_folder.Goals as goal

pub returns-clause-told : goal.returns-clause-told
returns-clause-told g c = folder_end g.W.Write.contents c.args.writer.now c.tell_done.new.writer c.drop_on-done.result c.tell_done.result c.drop_on-done.ensures.failure c.tell_done.ensures.told

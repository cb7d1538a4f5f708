use Rattle.std.proofs.Common.{◌≡◌, refl, lit<}
use Rattle.std.specs.Io.KnownBytes.{Appends}
use Rattle.memory_register.specs.ListsView.{view_of_lists}
use Rattle.desk.specs.PlayAnswer.{IsPlayAnswer, told_no_script}
use Rattle.desk.specs.declared.status.Status.TheVariants as exit
use Rattle.desk.proofs.PlayLemmas.{held_keeps, limit_is, ok_then, told, told_played, where_played}
use Rattle.desk.proofs.answers.play.play_on.Goals as goal

pub returns-clause-told : goal.returns-clause-told
returns-clause-told g c = λ books keeps.
    let memory = c.args.memory in
    let held = c.new-desk.result.register in
    let same = c.new-desk.ensures.register in
    let p = c.play.ensures in
    let contents = g.W.Write.contents in
    let given = g.R.Read.remaining c.args.reader.now in
    let U : Type 0 = c.play.new.reader ≡ c.args.reader.now in
    told_played contents c.args.writer.now c.play.new.writer c.tell_played.new.writer given U g.R.Source.may_fail (c.play.new.self ≡ c.new-desk.result)
    (λ status. IsPlayAnswer books given U g.R.Source.may_fail status (Appends (contents c.args.writer.now) (contents c.tell_played.new.writer)))
    c.tell_played.result c.play.result (λ status fault may said same. told_no_script fault may said)
    (ok_then c.play.result p.played (λ played unwritten.
    where_played contents c.args.writer.now c.play.new.writer c.tell_played.new.writer (λ after. IsPlayAnswer books given U g.R.Source.may_fail exit.Done (Appends (contents c.args.writer.now) after)) unwritten
    (told books given U _ _ _ c.new-desk.result.is_closed c.play.new.self.is_closed (view_of_lists held) (view_of_lists c.play.new.self.register) (limit_is memory held same c.requires.room) p.left.later.room c.new-desk.ensures.open
    (p.left.in_memory refl c.new-desk.ensures.open) refl (lit< tt) tt tt (λ is. held_keeps memory held books same c.requires.room keeps) played)))
    p.unread p.too_long p.memory c.tell_played.ensures.told

use Rattle.std.proofs.Common.{◌≡◌, refl}
use Rattle.std.specs.Io.KnownBytes.{Appends}
use Rattle.desk.specs.Left.{IsLeft}
use Rattle.desk.specs.PlayAnswer.{IsPlayAnswerFrom, told_no_script_from}
use Rattle.desk.specs.declared.status.Status.TheVariants as exit
use Rattle.desk.proofs.PlayLemmas.{in_part, left_so, ok_then, told_from_books, told_played, where_played}
use Rattle.desk.proofs.answers.play.play_desk.Goals as goal

pub returns-clause-played : goal.returns-clause-played
returns-clause-played g c =
    let view = g.D.Register.view in
    let old = c.args.desk.now in
    let now = c.play-played.new.self in
    let p = c.play-played.ensures in
    let contents = g.W.Write.contents in
    let given = g.R.Read.remaining c.args.reader.now in
    let U : Type 0 = c.play-played.new.reader ≡ c.args.reader.now in
    let limit = (view old.register).room in
    let L = IsLeft now.is_closed (view now.register) in
    record {
      told = λ books held.
          told_played contents c.args.writer.now c.play-played.new.writer c.tell_played.new.writer given U g.R.Source.may_fail (now ≡ old)
          (λ status. IsPlayAnswerFrom limit L books given U g.R.Source.may_fail status (Appends (contents c.args.writer.now) (contents c.tell_played.new.writer)))
          c.tell_played.result c.play-played.result (λ status fault may said same. told_no_script_from fault may said (left_so view old now books same c.requires (λ is. held.1)))
          (ok_then c.play-played.result p.played (λ played unwritten.
          where_played contents c.args.writer.now c.play-played.new.writer c.tell_played.new.writer (λ after. IsPlayAnswerFrom limit L books given U g.R.Source.may_fail exit.Done (Appends (contents c.args.writer.now) after)) unwritten
          (told_from_books limit books given U _ _ _ old.is_closed now.is_closed (view old.register) (view now.register) refl p.left.later.room c.requires (played books held.0 (λ is. held.1)))))
          p.unread p.too_long p.memory c.tell_played.ensures.told;
      stands = λ books held.
          in_part c.tell_played.result c.play-played.result limit books _ old.is_closed now.is_closed (view old.register) (view now.register) refl c.requires c.tell_played.ensures.done
          (λ is. left_so view old now books (p.unread is).0 c.requires (λ it. held.1)) (λ is. left_so view old now books (p.too_long is).0 c.requires (λ it. held.1)) (λ is. left_so view old now books (p.memory is).0 c.requires (λ it. held.1))
          (λ is. p.stands is books held.0 (λ it. held.1));
    }

pub returns-clause-later : goal.returns-clause-later
returns-clause-later g c = c.play-played.ensures.left.later

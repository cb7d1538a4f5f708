use Rattle.std.specs.Io.KnownBytes.{Appends}
use Rattle.sqlite.specs.Files.{file_state}
use Rattle.desk_file.specs.Opened.{view_of_both}
use Rattle.desk.proofs.OverFileLemmas.{told_not}
use Rattle.desk.proofs.PlayLemmas.{kept_books}
use Rattle.desk.proofs.over_file.over_file.Goals as goal

pub returns-in-Err-clause-told : goal.returns-in-Err-clause-told
returns-in-Err-clause-told g c =
    let P = Appends (g.W.Write.contents c.args.writer.now) (g.W.Write.contents c.tell_unopened.new.writer) in
    told_not (g.R.Read.remaining c.args.reader.now) g.R.Source.may_fail P c.args.reader.now c.args.job.now c.tell_unopened.result c.tell_unopened.ensures.told

pub returns-in-Ok-clause-done : goal.returns-in-Ok-clause-done
returns-in-Ok-clause-done g c =
    let both = c.in-Ok.both in
    let view = view_of_both file_state both in
    let over = c.over_opened-told.ensures in
    let kept = kept_books view c.in-Ok.ensures.opened.ready tt in
    record {
      books = kept.0;
      kept = (view.content, kept.1);
      held = λ clean. record { content = view.content; keeps = kept.1; db = (file_state both.tables.connection).committed; finds = c.in-Ok.ensures.which (over.clean clean) };
      told = over.told kept.0 kept.1;
      left = over.left kept.0 kept.1;
    }

use Rattle.std.proofs.Common.{◌≡◌}
use Rattle.std.specs.Io.KnownBytes.{Appends}
use Rattle.sqlite.specs.Files.{file_state}
use Rattle.desk_file.specs.Opened.{view_of_both}
use Rattle.desk.specs.Left.{AreLeft}
use Rattle.desk.specs.PlayAnswer.{KeptBy}
use Rattle.desk.proofs.LeftLemmas.{clean_before}
use Rattle.desk.proofs.OverFileLemmas.{left_in_files, opened_told, told_there}
use Rattle.desk.proofs.PlayLemmas.{kept_books}
use Rattle.desk.proofs.over_file.over_opened.Goals as goal

pub returns-clause-told : goal.returns-clause-told
returns-clause-told g c =
    let U : Type 0 = c.over_both-told.new.reader ≡ c.args.reader.now in
    let contents = g.W.Write.contents in
    opened_told (KeptBy (view_of_both file_state c.args.both)) _ c.over_both-told.result.0 c.close_behind.result.0 (g.R.Read.remaining c.args.reader.now) U g.R.Source.may_fail (contents c.args.writer.now) (contents c.over_both-told.new.writer) (contents c.close_behind.new.writer)
    c.args.job.now _ (AreLeft g.D.Disk c.close_behind.result.1.was_closed c.close_behind.result.1.files) c.over_both-told.ensures.done c.close_behind.ensures.left c.close_behind.ensures.ends

pub returns-clause-answered : goal.returns-clause-answered
returns-clause-answered g c =
    let U : Type 0 = c.over_both-told.new.reader ≡ c.args.reader.now in
    let contents = g.W.Write.contents in
    let given = g.R.Read.remaining c.args.reader.now in
    let view = view_of_both file_state c.args.both in
    let kept = kept_books view c.requires tt in
    let told =
    opened_told (KeptBy view) _ c.over_both-told.result.0 c.close_behind.result.0 given U g.R.Source.may_fail (contents c.args.writer.now) (contents c.over_both-told.new.writer) (contents c.close_behind.new.writer) c.args.job.now _ (AreLeft g.D.Disk c.close_behind.result.1.was_closed c.close_behind.result.1.files)
    c.over_both-told.ensures.done c.close_behind.ensures.left c.close_behind.ensures.ends kept.0 kept.1 in
    told_there given g.R.Source.may_fail (Appends (contents c.args.writer.now) (contents c.close_behind.new.writer)) U c.args.job.now c.close_behind.result.0 _ (AreLeft g.D.Disk c.close_behind.result.1.was_closed c.close_behind.result.1.files) view kept told

pub returns-clause-left : goal.returns-clause-left
returns-clause-left g c =
    let U : Type 0 = c.over_both-told.new.reader ≡ c.args.reader.now in
    let contents = g.W.Write.contents in
    left_in_files (KeptBy (view_of_both file_state c.args.both)) _ c.over_both-told.result.0 c.close_behind.result.0 (g.R.Read.remaining c.args.reader.now) U g.R.Source.may_fail (contents c.args.writer.now) (contents c.over_both-told.new.writer) (contents c.close_behind.new.writer)
    g.D.Disk c.args.job.now c.close_behind.result.1.was_closed c.close_behind.result.1.files c.over_both-told.ensures.done c.close_behind.ensures.left c.close_behind.ensures.ends

pub returns-clause-clean : goal.returns-clause-clean
returns-clause-clean g c = λ clean.
    c.over_both-told.ensures.clean (clean_before c.over_both-told.result.2 c.close_behind.result.1.files c.close_behind.ensures.closed c.close_behind.ensures.unclosed clean)

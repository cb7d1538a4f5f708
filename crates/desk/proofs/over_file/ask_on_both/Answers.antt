use Rattle.std.proofs.Common.{◌≡◌, ◌∙◌}
use Rattle.std.specs.Prelude.{is_some}
use Rattle.std.specs.Io.KnownBytes.{Appends}
use Rattle.desk_file.specs.Opened.{view_of_both}
use Rattle.desk.specs.Left.{AreSaid, IsLeft}
use Rattle.desk.proofs.LeftLemmas.{clean_on, said_left}
use Rattle.desk.proofs.OverFileLemmas.{asked_on_both}
use Rattle.desk.proofs.over_file.ask_on_both.Goals as goal

pub returns-clause-asked : goal.returns-clause-asked
returns-clause-asked g c =
    let state = g.S.Session.state in
    let r = c.ask_on-told.result in
    let e = c.ask_on-told.ensures in
    let U : Type 0 = c.ask_on-told.new.reader ≡ c.args.reader.now in
    let P = Appends (g.W.Write.contents c.args.writer.now) (g.W.Write.contents c.ask_on-told.new.writer) in
    let s = state c.connection_of.result in
    asked_on_both (g.R.Read.remaining c.args.reader.now) U g.R.Source.may_fail r.0 P c.args.ask.now (view_of_both state c.args.both) (view_of_both state r.2) (IsLeft (is_some r.1) (view_of_both state r.2)) (AreSaid r.1 s) c.requires tt e.asked
    (said_left state r.1 r.2 s (e.later.room ∙ c.requires.room) e.ready c.connection_of.ensures.left)

pub returns-clause-clean : goal.returns-clause-clean
returns-clause-clean g c = clean_on g.S.Session.state c.args.both c.ask_on-told.result.2 c.connection_of.result c.ask_on-told.ensures.later c.connection_of.ensures.connection

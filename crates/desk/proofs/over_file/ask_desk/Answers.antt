use Rattle.std.proofs.Common.{◌≡◌, refl}
use Rattle.std.specs.Io.KnownBytes.{Appends}
use Rattle.desk.specs.Left.{IsLeft}
use Rattle.desk.specs.PlayAnswer.{AreHeld}
use Rattle.desk.specs.declared.over_file.Ask.TheVariants as ask
use Rattle.desk.proofs.OverFileLemmas.{asked_as, some_served}
use Rattle.desk.proofs.over_file.ask_desk.Goals as goal

pub returns-in-Play-clause-asked : goal.returns-in-Play-clause-asked
returns-in-Play-clause-asked g c =
    let view = g.D.Register.view in
    let old = c.args.desk.now in
    let now = c.play_desk.new.desk in
    let U : Type 0 = c.play_desk.new.reader ≡ c.args.reader.now in
    let P = Appends (g.W.Write.contents c.args.writer.now) (g.W.Write.contents c.play_desk.new.writer) in
    asked_as (g.R.Read.remaining c.args.reader.now) U g.R.Source.may_fail c.play_desk.result P (view old.register).room (AreHeld (view old.register) (view now.register)) (IsLeft now.is_closed (view now.register)) c.args.ask.now ask.Play c.in-Play.is
    c.play_desk.ensures.played

pub returns-in-Serve-clause-asked : goal.returns-in-Serve-clause-asked
returns-in-Serve-clause-asked g c =
    let view = g.D.Register.view in
    let old = c.args.desk.now in
    let now = c.serve_desk.new.desk in
    let U : Type 0 = c.args.reader.now ≡ c.args.reader.now in
    let P = Appends (g.W.Write.contents c.args.writer.now) (g.W.Write.contents c.serve_desk.new.writer) in
    asked_as (g.R.Read.remaining c.args.reader.now) U g.R.Source.may_fail c.serve_desk.result P (view old.register).room (AreHeld (view old.register) (view now.register)) (IsLeft now.is_closed (view now.register)) c.args.ask.now
    (ask.Serve c.in-Serve.port c.in-Serve.count) c.in-Serve.is
    (refl, record { told = c.serve_desk.ensures.told; left = λ books held. some_served books old.is_closed now.is_closed (view old.register) (view now.register) c.requires c.serve_desk.ensures.keeps held })

pub returns-in-Take-clause-asked : goal.returns-in-Take-clause-asked
returns-in-Take-clause-asked g c =
    let view = g.D.Register.view in
    let old = c.args.desk.now in
    let now = c.take_folder.new.desk in
    let U : Type 0 = c.args.reader.now ≡ c.args.reader.now in
    let P = Appends (g.W.Write.contents c.args.writer.now) (g.W.Write.contents c.take_folder.new.writer) in
    asked_as (g.R.Read.remaining c.args.reader.now) U g.R.Source.may_fail c.take_folder.result P (view old.register).room (AreHeld (view old.register) (view now.register)) (IsLeft now.is_closed (view now.register)) c.args.ask.now (ask.Take c.in-Take.folders) c.in-Take.is
    (refl, record { told = c.take_folder.ensures.told; left = λ books held. c.take_folder.ensures.left books held.0 (λ is. held.1) })

pub returns-in-Tell-clause-asked : goal.returns-in-Tell-clause-asked
returns-in-Tell-clause-asked g c =
    let view = g.D.Register.view in
    let old = c.args.desk.now in
    let now = c.report_desk.new.desk in
    let U : Type 0 = c.args.reader.now ≡ c.args.reader.now in
    let P = Appends (g.W.Write.contents c.args.writer.now) (g.W.Write.contents c.report_desk.new.writer) in
    asked_as (g.R.Read.remaining c.args.reader.now) U g.R.Source.may_fail c.report_desk.result P (view old.register).room (AreHeld (view old.register) (view now.register)) (IsLeft now.is_closed (view now.register)) c.args.ask.now
    (ask.Tell c.in-Tell.owner c.in-Tell.account) c.in-Tell.is (refl, c.report_desk.ensures.reported)

use Rattle.std.proofs.Common.{◌≡◌, refl}
use Rattle.std.specs.Prelude.{None}
use Rattle.std.specs.Io.KnownBytes.{Appends}
use Rattle.desk_book.specs.declared.desk.WasClosed.{WasClosed}
use Rattle.desk_file.specs.Opened.{view_of_both}
use Rattle.desk.specs.Left.{AreSaid}
use Rattle.desk.specs.PlayAnswer.{KeptBy}
use Rattle.desk.specs.declared.over_file.Job.TheVariants as job
use Rattle.desk.proofs.OverFileLemmas.{done_as}
use Rattle.desk.proofs.over_file.over_both.Goals as goal

pub returns-in-Ask-clause-done : goal.returns-in-Ask-clause-done
returns-in-Ask-clause-done g c =
    let U : Type 0 = c.ask_on_both.new.reader ≡ c.args.reader.now in
    let P = Appends (g.W.Write.contents c.args.writer.now) (g.W.Write.contents c.ask_on_both.new.writer) in
    done_as (g.R.Read.remaining c.args.reader.now) U g.R.Source.may_fail c.ask_on_both.result.0 P (KeptBy (view_of_both g.S.Session.state c.args.both)) (AreSaid c.ask_on_both.result.1 (g.S.Session.state c.ask_on_both.result.2)) c.args.job.now (job.Ask c.in-Ask.ask) c.in-Ask.is
    c.ask_on_both.ensures.asked

pub returns-in-Show-clause-done : goal.returns-in-Show-clause-done
returns-in-Show-clause-done g c =
    let U : Type 0 = c.args.reader.now ≡ c.args.reader.now in
    let P = Appends (g.W.Write.contents c.args.writer.now) (g.W.Write.contents c.show_on_both-told.new.writer) in
    done_as (g.R.Read.remaining c.args.reader.now) U g.R.Source.may_fail c.show_on_both-told.result.0 P (KeptBy (view_of_both g.S.Session.state c.args.both)) (AreSaid {C = WasClosed} None (g.S.Session.state c.show_on_both-told.result.1)) c.args.job.now (job.Show c.in-Show.shown c.in-Show.format) c.in-Show.is
    (refl, record { told = c.show_on_both-told.ensures.told; left = λ books keeps. record { closed = refl; says = λ none. c.show_on_both-told.ensures.left books keeps } })

pub returns-in-Try-clause-done : goal.returns-in-Try-clause-done
returns-in-Try-clause-done g c =
    let U : Type 0 = c.try_on_both-told.new.reader ≡ c.args.reader.now in
    let P = Appends (g.W.Write.contents c.args.writer.now) (g.W.Write.contents c.try_on_both-told.new.writer) in
    done_as (g.R.Read.remaining c.args.reader.now) U g.R.Source.may_fail c.try_on_both-told.result.0 P (KeptBy (view_of_both g.S.Session.state c.args.both)) (AreSaid {C = WasClosed} None (g.S.Session.state c.try_on_both-told.result.1)) c.args.job.now (job.Try c.in-Try.trial) c.in-Try.is
    (record { told = c.try_on_both-told.ensures.told; left = λ books keeps. record { closed = refl; says = λ none. c.try_on_both-told.ensures.left books keeps } })

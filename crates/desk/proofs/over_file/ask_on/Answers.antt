use Rattle.std.proofs.Common.{◌≡◌}
use Rattle.std.specs.Io.KnownBytes.{Appends}
use Rattle.desk.specs.Left.{IsLeft}
use Rattle.desk.proofs.OverFileLemmas.{asked_over}
use Rattle.desk.proofs.over_file.ask_on.Goals as goal

pub returns-clause-asked : goal.returns-clause-asked
returns-clause-asked g c =
    let view = g.D.Register.view in
    let now = c.ask_desk-told.new.desk in
    let U : Type 0 = c.ask_desk-told.new.reader ≡ c.args.reader.now in
    let P = Appends (g.W.Write.contents c.args.writer.now) (g.W.Write.contents c.ask_desk-told.new.writer) in
    rw (c.into_parts-register.ensures.register, c.into_parts-register.ensures.closed)
    (asked_over (g.R.Read.remaining c.args.reader.now) U g.R.Source.may_fail c.ask_desk-told.result P view c.args.register c.new-desk.result now (IsLeft now.is_closed (view now.register)) c.args.ask.now c.new-desk.ensures.register c.ask_desk-told.ensures.asked)

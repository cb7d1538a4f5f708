-- The numbers of the keys are noted first, and then the rows are written.
use Rattle.desk_register.specs.Ends.{broken_off}
use Rattle.desk_register.proofs.ReadLemmas.{held_so, read_none, read_one}
use Rattle.desk_register.proofs.ReadingLemmas.{read_on}
use Rattle.desk_book.specs.RowByRow.{WritesText}
use Rattle.desk_book.proofs.TellingLemmas.{walk_broke, walk_then}
use Rattle.desk_report.specs.Unmatched.{IsUnmatchedText}
use Rattle.desk_report.proofs.KnownFirstLemmas.{entries_still, first_still}
use Rattle.desk_report.proofs.StepLemmas.{register_broke}
use Rattle.desk_report.proofs.UnmatchedWritingLemmas.{nothing_yet}
use Rattle.desk_report.proofs.unmatched.walk.write_by.Goals as goal

pub returns-in_err-count-clause-written : goal.returns-in_err-count-clause-written
returns-in_err-count-clause-written g c = λ json honest sure.
    nothing_yet (g.R.Register.view c.args.register.now).content (broken_off c.in_err-count.field-0.0) c.from_residual.result (g.W.Write.contents c.args.writer.now) c.from_residual.ensures.1

pub returns-in_err-count-clause-read : goal.returns-in_err-count-clause-read
returns-in_err-count-clause-read g c =
    let v0 = g.R.Register.view c.args.register.now in
    register_broke c.in_err-count.field-0.0 c.from_residual.result v0 v0 (g.R.Register.view c.count.new.self) c.from_residual.ensures.1 (read_none v0) c.in_err-count.ensures.read

pub returns-in_err-note_first-clause-written : goal.returns-in_err-note_first-clause-written
returns-in_err-note_first-clause-written g c = λ json honest sure.
    nothing_yet (g.R.Register.view c.args.register.now).content c.in_err-note_first.field-0.0 c.from_residual-in_err-note_first.result (g.W.Write.contents c.args.writer.now) c.from_residual-in_err-note_first.ensures.1

pub returns-in_err-note_first-clause-read : goal.returns-in_err-note_first-clause-read
returns-in_err-note_first-clause-read g c =
    let v0 = g.R.Register.view c.args.register.now in
    let v1 = g.R.Register.view c.count.new.self in
    walk_broke c.in_err-note_first.field-0.0 c.from_residual-in_err-note_first.result v0 v1 (g.R.Register.view c.note_first.new.register) c.from_residual-in_err-note_first.ensures.1
    (read_one c.in_ok-count.count v0 v1 c.in_ok-count.ensures.read) c.in_err-note_first.ensures.read

pub write_rows-requires-clause-entries : goal.write_rows-requires-clause-entries
write_rows-requires-clause-entries g c =
    let v0 = g.R.Register.view c.args.register.now in
    let v1 = g.R.Register.view c.count.new.self in
    let first = c.in_ok-count.ensures in
    entries_still c.in_ok-count.count v0 v1 (g.R.Register.view c.note_first.new.register) c.requires.stage first.read first.value c.in_ok-note_first.ensures.read

pub write_rows-requires-clause-first : goal.write_rows-requires-clause-first
write_rows-requires-clause-first g c =
    first_still c.in_ok-count.count c.note_first.new.numbers (g.R.Register.view c.count.new.self) (g.R.Register.view c.note_first.new.register) c.in_ok-note_first.ensures.read c.in_ok-note_first.ensures.first

pub returns-clause-written : goal.returns-clause-written
returns-clause-written g c = λ json honest sure.
    let v0 = g.R.Register.view c.args.register.now in
    let v1 = g.R.Register.view c.count.new.self in
    let v2 = g.R.Register.view c.note_first.new.register in
    let w = c.write_rows.ensures in
    let read = read_on v0 v1 (read_one c.in_ok-count.count v0 v1 c.in_ok-count.ensures.read) tt v2 c.in_ok-note_first.ensures.read in
    let honest2 = w.read.later.honest honest in
    held_so v0 v2 read (λ content. WritesText (IsUnmatchedText content) c.write_rows.result (g.W.Write.contents c.args.writer.now) (g.W.Write.contents c.write_rows.new.writer)) honest2 sure
    (w.written json honest (read.ok.sure honest2 sure))

pub returns-clause-read : goal.returns-clause-read
returns-clause-read g c =
    let v0 = g.R.Register.view c.args.register.now in
    let v1 = g.R.Register.view c.count.new.self in
    let v2 = g.R.Register.view c.note_first.new.register in
    walk_then c.write_rows.result v0 v2 (g.R.Register.view c.write_rows.new.register) (read_on v0 v1 (read_one c.in_ok-count.count v0 v1 c.in_ok-count.ensures.read) tt v2 c.in_ok-note_first.ensures.read)
    c.write_rows.ensures.read

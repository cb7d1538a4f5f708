use Rattle.std.proofs.Common.{refl}
use Rattle.desk_report.proofs.NumberedLemmas.{handed_on}
use Rattle.desk_journal.specs.Journal.{IsJournalText}
use Rattle.desk_journal.proofs.PieceLemmas.{broken, ended}
use Rattle.desk_journal.proofs.walk.write_object.Goals as goal

pub returns-in_err-write_rows-clause-written : goal.returns-in_err-write_rows-clause-written
returns-in_err-write_rows-clause-written g c = λ books honest sure tables sent entries.
    let contents = g.W.Write.contents in
    let fault = c.in_err-write_rows.field-0.0 in
    handed_on (IsJournalText books c.args.from) fault c.from_residual-in_err-write_rows.result (contents c.args.writer.now) (contents c.write_rows.new.writer) c.from_residual-in_err-write_rows.ensures.1
    (broken books c.args.from (contents c.args.writer.now) (contents c.write_text.new.writer) (contents c.write_rows.new.writer) c.in_ok-write_text.ensures.written (Unit {0}) (Unit {0}) fault
    (c.in_err-write_rows.ensures.written books refl honest sure tables sent entries))

pub returns-clause-written : goal.returns-clause-written
returns-clause-written g c = λ books honest sure tables sent entries.
    let contents = g.W.Write.contents in
    ended books c.args.from (contents c.args.writer.now) (contents c.write_text.new.writer) (contents c.write_rows.new.writer) c.in_ok-write_text.ensures.written c.write_text-2.result (contents c.write_text-2.new.writer)
    (c.in_ok-write_rows.ensures.written books refl honest sure tables sent entries) c.write_text-2.ensures.written c.write_text-2.ensures.fault

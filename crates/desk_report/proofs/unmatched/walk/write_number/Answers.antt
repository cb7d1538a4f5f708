-- The row that was read, if there is one, is the one that is written.
use Rattle.desk_register.proofs.ReadLemmas.{read_none, read_one}
use Rattle.desk_register.proofs.ReadingLemmas.{read_so}
use Rattle.desk_report.specs.Unmatched.{unmatched_row}
use Rattle.desk_report.proofs.EndLemmas.{row_broke}
use Rattle.desk_report.proofs.StepLemmas.{register_broke}
use Rattle.desk_report.proofs.UnmatchedWritingLemmas.{row_none, row_some, unread, unwritten}
use Rattle.desk_report.proofs.unmatched.walk.write_number.Goals as goal

pub returns-in_err-row-clause-written : goal.returns-in_err-row-clause-written
returns-in_err-row-clause-written g c = λ json honest sure.
    unread (unmatched_row (g.R.Register.view c.args.register.now).content c.args.number) c.args.is_later c.in_err-row.field-0.0 c.from_residual.result (g.W.Write.contents c.args.writer.now) c.from_residual.ensures.1

pub returns-in_err-row-clause-read : goal.returns-in_err-row-clause-read
returns-in_err-row-clause-read g c =
    let v0 = g.R.Register.view c.args.register.now in
    register_broke c.in_err-row.field-0.0 c.from_residual.result v0 v0 (g.R.Register.view c.row.new.register) c.from_residual.ensures.1 (read_none v0) c.in_err-row.ensures.read

pub returns-in_default-clause-written : goal.returns-in_default-clause-written
returns-in_default-clause-written g c = λ json honest sure.
    row_none (g.R.Register.view c.args.register.now).content c.args.number c.in_ok-row.field-0 c.args.is_later (g.W.Write.contents c.args.writer.now) (c.in_ok-row.ensures.row honest sure) c.in_default.is

pub returns-in_err-write_unmatched_instruction-clause-written : goal.returns-in_err-write_unmatched_instruction-clause-written
returns-in_err-write_unmatched_instruction-clause-written g c = λ json honest sure.
    unwritten c.in-Some.row (unmatched_row (g.R.Register.view c.args.register.now).content c.args.number) c.args.is_later c.in_err-write_unmatched_instruction.field-0.0 c.from_residual-in_err-write_unmatched_instruction.result
    (g.W.Write.contents c.args.writer.now) (g.W.Write.contents c.write_unmatched_instruction.new.writer) c.from_residual-in_err-write_unmatched_instruction.ensures.1 (c.in_err-write_unmatched_instruction.ensures.written json)

pub returns-in_err-write_unmatched_instruction-clause-read : goal.returns-in_err-write_unmatched_instruction-clause-read
returns-in_err-write_unmatched_instruction-clause-read g c =
    let v0 = g.R.Register.view c.args.register.now in
    let v1 = g.R.Register.view c.row.new.register in
    row_broke (Unit {0}) c.in_err-write_unmatched_instruction.field-0.0 c.from_residual-in_err-write_unmatched_instruction.result v0 v1 c.from_residual-in_err-write_unmatched_instruction.ensures.1
    c.in_err-write_unmatched_instruction.ensures.register (read_one c.in_ok-row.field-0 v0 v1 c.in_ok-row.ensures.read)

pub returns-clause-written : goal.returns-clause-written
returns-clause-written g c = λ json honest sure.
    row_some (g.R.Register.view c.args.register.now).content c.args.number c.in_ok-row.field-0 c.in-Some.row c.args.is_later (g.W.Write.contents c.args.writer.now) (g.W.Write.contents c.write_unmatched_instruction.new.writer)
    (c.in_ok-row.ensures.row honest sure) c.in-Some.is (c.in_ok-write_unmatched_instruction.ensures.written json)

pub returns-clause-read : goal.returns-clause-read
returns-clause-read g c =
    let v0 = g.R.Register.view c.args.register.now in
    let v1 = g.R.Register.view c.row.new.register in
    read_so v0 v1 (read_one c.in_ok-row.field-0 v0 v1 c.in_ok-row.ensures.read) tt

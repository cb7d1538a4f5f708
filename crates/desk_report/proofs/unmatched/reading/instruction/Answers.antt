-- What was read is what is told.
use Rattle.desk_register.proofs.ReadLemmas.{read_none, read_one}
use Rattle.desk_register.proofs.ReadingLemmas.{read_so}
use Rattle.desk_report.proofs.StepLemmas.{read_broke}
use Rattle.desk_report.proofs.unmatched.reading.instruction.Goals as goal

pub returns-in_err-entry-clause-read : goal.returns-in_err-entry-clause-read
returns-in_err-entry-clause-read g c =
    let v0 = g.R.Register.view c.args.register.now in
    read_broke c.in_err-entry.field-0.0 c.from_residual.result v0 v0 (g.R.Register.view c.entry.new.self) c.from_residual.ensures.1 (read_none v0) c.in_err-entry.ensures.read

pub returns-in-Some-clause-read : goal.returns-in-Some-clause-read
returns-in-Some-clause-read g c =
    let v0 = g.R.Register.view c.args.register.now in
    let v1 = g.R.Register.view c.entry.new.self in
    read_so v0 v1 (read_one c.in_ok-entry.field-0 v0 v1 c.in_ok-entry.ensures.read) _

pub returns-in-None-clause-read : goal.returns-in-None-clause-read
returns-in-None-clause-read g c =
    let v0 = g.R.Register.view c.args.register.now in
    let v1 = g.R.Register.view c.entry.new.self in
    read_so v0 v1 (read_one c.in_ok-entry.field-0 v0 v1 c.in_ok-entry.ensures.read) _

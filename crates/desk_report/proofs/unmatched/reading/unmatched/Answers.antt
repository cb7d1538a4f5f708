-- The instruction, where it stands unmatched.
use Rattle.desk_register.proofs.ViewLemmas.{idle_goes}
use Rattle.desk_register.proofs.ReadLemmas.{read_none, read_one, read_then}
use Rattle.desk_report.proofs.FoundLemmas.{not_unmatched, unmatched_read}
use Rattle.desk_report.proofs.StepLemmas.{read_broke}
use Rattle.desk_report.proofs.unmatched.reading.unmatched.Goals as goal

pub returns-in_err-standing-clause-read : goal.returns-in_err-standing-clause-read
returns-in_err-standing-clause-read g c =
    let v0 = g.R.Register.view c.args.register.now in
    read_broke c.in_err-standing.field-0.0 c.from_residual.result v0 v0 (g.R.Register.view c.standing.new.self) c.from_residual.ensures.1 (read_none v0) c.in_err-standing.ensures.read

pub returns-in-Unmatched-clause-found : goal.returns-in-Unmatched-clause-found
returns-in-Unmatched-clause-found g c =
    let first = c.in_ok-standing.ensures in
    let v0 = g.R.Register.view c.args.register.now in
    unmatched_read v0 (g.R.Register.view c.standing.new.self) (g.R.Register.view c.instruction.new.register) c.args.number c.in_ok-standing.standing c.instruction.result first.read
    (λ honest sure. first.value honest sure (idle_goes v0.stage c.requires.stage)) c.in-Unmatched.is c.instruction.ensures.read.later c.instruction.ensures.found

pub returns-in-Unmatched-clause-read : goal.returns-in-Unmatched-clause-read
returns-in-Unmatched-clause-read g c =
    let v0 = g.R.Register.view c.args.register.now in
    let v1 = g.R.Register.view c.standing.new.self in
    read_then v0 v1 (g.R.Register.view c.instruction.new.register) (read_one c.in_ok-standing.standing v0 v1 c.in_ok-standing.ensures.read) c.instruction.result c.instruction.ensures.read

pub returns-in_default-clause-found : goal.returns-in_default-clause-found
returns-in_default-clause-found g c = λ honest sure.
    let v0 = g.R.Register.view c.args.register.now in
    not_unmatched v0.content c.args.number c.in_ok-standing.standing (c.in_ok-standing.ensures.value honest sure (idle_goes v0.stage c.requires.stage)) c.in_default.not-Unmatched

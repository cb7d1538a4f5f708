-- The instruction, and then where it stands.
use Rattle.std.proofs.Common.{◌∙◌}
use Rattle.desk_register.proofs.ViewLemmas.{idle_goes}
use Rattle.desk_register.proofs.ReadLemmas.{read_none, read_one}
use Rattle.desk_report.proofs.PendingReadLemmas.{leg_read}
use Rattle.desk_report.proofs.StepLemmas.{read_both, read_broke}
use Rattle.desk_report.proofs.pending.pair.read_leg.Goals as goal

pub returns-in_err-instructed-clause-read : goal.returns-in_err-instructed-clause-read
returns-in_err-instructed-clause-read g c =
    let v0 = g.R.Register.view c.args.register.now in
    read_broke c.in_err-instructed.field-0.0 c.from_residual.result v0 v0 (g.R.Register.view c.instruction.new.register) c.from_residual.ensures.1 (read_none v0) c.in_err-instructed.ensures.read

pub returns-in_err-standing-clause-read : goal.returns-in_err-standing-clause-read
returns-in_err-standing-clause-read g c =
    let v0 = g.R.Register.view c.args.register.now in
    let v1 = g.R.Register.view c.instruction.new.register in
    read_broke c.in_err-standing.field-0.0 c.from_residual-in_err-standing.result v0 v1 (g.R.Register.view c.standing.new.self) c.from_residual-in_err-standing.ensures.1
    (read_one c.in_ok-instructed.instructed v0 v1 c.in_ok-instructed.ensures.read) c.in_err-standing.ensures.read

pub returns-clause-value : goal.returns-clause-value
returns-clause-value g c =
    let first = c.in_ok-instructed.ensures in
    let second = c.in_ok-standing.ensures in
    let v1 = g.R.Register.view c.instruction.new.register in
    leg_read (g.R.Register.view c.args.register.now) v1 (g.R.Register.view c.standing.new.self) c.args.number c.in_ok-instructed.instructed c.in_ok-standing.standing first.read first.value
    (idle_goes v1.stage (first.read.ok.stage ∙ c.requires.stage)) second.read.later second.value

pub returns-clause-read : goal.returns-clause-read
returns-clause-read g c =
    read_both c.in_ok-instructed.instructed c.in_ok-standing.standing _ (g.R.Register.view c.args.register.now) (g.R.Register.view c.instruction.new.register) (g.R.Register.view c.standing.new.self) c.in_ok-instructed.ensures.read
    c.in_ok-standing.ensures.read

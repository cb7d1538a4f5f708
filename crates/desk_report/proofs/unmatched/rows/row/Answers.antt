-- The instruction, and then the nearest to it.
use Rattle.std.proofs.Common.{length}
use Rattle.desk_register.proofs.ReadLemmas.{read_none, read_one}
use Rattle.desk_report.specs.FirstNumbers.{AreFirst}
use Rattle.desk_report.proofs.NearestLemmas.{row_read}
use Rattle.desk_report.proofs.StepLemmas.{read_both, read_broke, still_known}
use Rattle.desk_report.proofs.unmatched.rows.row.Goals as goal

pub returns-in_err-instructed-clause-read : goal.returns-in_err-instructed-clause-read
returns-in_err-instructed-clause-read g c =
    let v0 = g.R.Register.view c.args.register.now in
    read_broke c.in_err-instructed.field-0.0 c.from_residual.result v0 v0 (g.R.Register.view c.unmatched.new.register) c.from_residual.ensures.1 (read_none v0) c.in_err-instructed.ensures.read

pub nearest-requires-clause-first : goal.nearest-requires-clause-first
nearest-requires-clause-first g c =
    still_known (λ content. AreFirst c.args.numbers.now content (length content.register)) c.in_ok-instructed.field-0 (g.R.Register.view c.args.register.now) (g.R.Register.view c.unmatched.new.register)
    c.in_ok-instructed.ensures.read c.requires.first

pub returns-in_err-nearest-clause-read : goal.returns-in_err-nearest-clause-read
returns-in_err-nearest-clause-read g c =
    let v0 = g.R.Register.view c.args.register.now in
    let v1 = g.R.Register.view c.unmatched.new.register in
    read_broke c.in_err-nearest.field-0.0 c.from_residual-in_err-nearest.result v0 v1 (g.R.Register.view c.nearest.new.register) c.from_residual-in_err-nearest.ensures.1
    (read_one c.in_ok-instructed.field-0 v0 v1 c.in_ok-instructed.ensures.read) c.in_err-nearest.ensures.read

pub returns-clause-row : goal.returns-clause-row
returns-clause-row g c =
    let first = c.in_ok-instructed.ensures in
    let second = c.in_ok-nearest.ensures in
    row_read (g.R.Register.view c.args.register.now) (g.R.Register.view c.unmatched.new.register) (g.R.Register.view c.nearest.new.register) c.args.number c.in_ok-instructed.field-0 c.in-Some.instructed c.in_ok-nearest.nearest
    first.read first.found c.in-Some.is second.read.later second.nearest

pub returns-clause-read : goal.returns-clause-read
returns-clause-read g c =
    read_both c.in_ok-instructed.field-0 c.in_ok-nearest.nearest _ (g.R.Register.view c.args.register.now) (g.R.Register.view c.unmatched.new.register) (g.R.Register.view c.nearest.new.register) c.in_ok-instructed.ensures.read
    c.in_ok-nearest.ensures.read

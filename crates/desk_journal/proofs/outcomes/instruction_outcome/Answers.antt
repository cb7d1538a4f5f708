-- What was read to tell the outcome.
use Rattle.desk_register.proofs.ReadLemmas.{read_none, read_one, read_then}
use Rattle.desk_register.proofs.ReadingLemmas.{read_so}
use Rattle.desk_journal.proofs.StepLemmas.{read_broke}
use Rattle.desk_journal.proofs.outcomes.instruction_outcome.Goals as goal

pub returns-in_err-standing-clause-read : goal.returns-in_err-standing-clause-read
returns-in_err-standing-clause-read g c =
    let v0 = g.R.Register.view c.args.register.now in
    read_broke c.in_err-standing.field-0.0 c.from_residual.result v0 v0 (g.R.Register.view c.standing.new.self) c.from_residual.ensures.1 (read_none v0) c.in_err-standing.ensures.read

pub returns-in-Unmatched-clause-read : goal.returns-in-Unmatched-clause-read
returns-in-Unmatched-clause-read g c =
    let v0 = g.R.Register.view c.args.register.now in
    let v1 = g.R.Register.view c.standing.new.self in
    read_so v0 v1 (read_one c.in_ok-standing.standing v0 v1 c.in_ok-standing.ensures.read) _

pub returns-in-Matched-clause-read : goal.returns-in-Matched-clause-read
returns-in-Matched-clause-read g c =
    let v0 = g.R.Register.view c.args.register.now in
    let v1 = g.R.Register.view c.standing.new.self in
    read_so v0 v1 (read_one c.in_ok-standing.standing v0 v1 c.in_ok-standing.ensures.read) _

pub returns-in-Cancelled-clause-read : goal.returns-in-Cancelled-clause-read
returns-in-Cancelled-clause-read g c =
    let v0 = g.R.Register.view c.args.register.now in
    let v1 = g.R.Register.view c.standing.new.self in
    read_so v0 v1 (read_one c.in_ok-standing.standing v0 v1 c.in_ok-standing.ensures.read) _

pub returns-in-NoInstruction-clause-read : goal.returns-in-NoInstruction-clause-read
returns-in-NoInstruction-clause-read g c =
    let v0 = g.R.Register.view c.args.register.now in
    let v1 = g.R.Register.view c.standing.new.self in
    read_so v0 v1 (read_one c.in_ok-standing.standing v0 v1 c.in_ok-standing.ensures.read) _

pub returns-in-Settled-clause-read : goal.returns-in-Settled-clause-read
returns-in-Settled-clause-read g c =
    let v0 = g.R.Register.view c.args.register.now in
    let v1 = g.R.Register.view c.standing.new.self in
    read_then v0 v1 (g.R.Register.view c.settled_outcome.new.register) (read_one c.in_ok-standing.standing v0 v1 c.in_ok-standing.ensures.read) c.settled_outcome.result c.settled_outcome.ensures.read

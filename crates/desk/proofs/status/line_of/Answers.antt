use Rattle.desk.proofs.FailureLemmas.{failure_told}
use Rattle.desk.proofs.status.line_of.Goals as goal

pub returns-in-NotOurFile-clause-explained : goal.returns-in-NotOurFile-clause-explained
returns-in-NotOurFile-clause-explained c = failure_told c.args.failure

pub returns-in-OtherVersion-clause-explained : goal.returns-in-OtherVersion-clause-explained
returns-in-OtherVersion-clause-explained c = failure_told c.args.failure

pub returns-in-Memory-clause-explained : goal.returns-in-Memory-clause-explained
returns-in-Memory-clause-explained c = failure_told c.args.failure

pub returns-in-Storage-clause-explained : goal.returns-in-Storage-clause-explained
returns-in-Storage-clause-explained c = failure_told c.args.failure

pub returns-in-Closed-clause-explained : goal.returns-in-Closed-clause-explained
returns-in-Closed-clause-explained c = failure_told c.args.failure

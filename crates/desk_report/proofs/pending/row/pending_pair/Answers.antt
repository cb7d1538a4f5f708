-- The pair, and then what is lacking of it.
use Rattle.desk_register.proofs.ReadLemmas.{read_none, read_one}
use Rattle.desk_report.proofs.PendingReadLemmas.{row_of_pair}
use Rattle.desk_report.proofs.StepLemmas.{read_both, read_broke}
use Rattle.desk_report.proofs.pending.row.pending_pair.Goals as goal

pub returns-in_err-pair-clause-read : goal.returns-in_err-pair-clause-read
returns-in_err-pair-clause-read g c =
    let v0 = g.R.Register.view c.args.register.now in
    read_broke c.in_err-pair.field-0.0 c.from_residual.result v0 v0 (g.R.Register.view c.waiting_pair.new.register) c.from_residual.ensures.1 (read_none v0) c.in_err-pair.ensures.read

pub returns-in_err-lacking-clause-read : goal.returns-in_err-lacking-clause-read
returns-in_err-lacking-clause-read g c =
    let v0 = g.R.Register.view c.args.register.now in
    let v1 = g.R.Register.view c.waiting_pair.new.register in
    read_broke c.in_err-lacking.field-0.0 c.from_residual-in_err-lacking.result v0 v1 (g.R.Register.view c.lacking_now.new.register) c.from_residual-in_err-lacking.ensures.1
    (read_one c.in_ok-pair.pair v0 v1 c.in_ok-pair.ensures.read) c.in_err-lacking.ensures.read

pub returns-clause-value : goal.returns-clause-value
returns-clause-value g c =
    let first = c.in_ok-pair.ensures in
    let second = c.in_ok-lacking.ensures in
    row_of_pair (g.R.Register.view c.args.register.now) (g.R.Register.view c.waiting_pair.new.register) (g.R.Register.view c.lacking_now.new.register) c.args.place c.in_ok-pair.pair c.in_ok-lacking.lacking c.row_of.result
    first.read first.value second.read second.value c.row_of.ensures

pub returns-clause-read : goal.returns-clause-read
returns-clause-read g c =
    read_both c.in_ok-pair.pair c.in_ok-lacking.lacking _ (g.R.Register.view c.args.register.now) (g.R.Register.view c.waiting_pair.new.register) (g.R.Register.view c.lacking_now.new.register) c.in_ok-pair.ensures.read
    c.in_ok-lacking.ensures.read

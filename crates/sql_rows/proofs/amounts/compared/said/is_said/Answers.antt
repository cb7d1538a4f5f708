use Rattle.desk_register.proofs.ReadLemmas.{read_ok}
use Rattle.sql_rows.proofs.StepLemmas.{none_said, read_handed}
use Rattle.sql_rows.proofs.amounts.compared.said.is_said.Goals as goal

pub returns-in_err-held-in-Balance-clause-said : goal.returns-in_err-held-in-Balance-clause-said
returns-in_err-held-in-Balance-clause-said g c = λ honest sure. none_said c.in_err-held-in-Balance.field-0.0 c.from_residual.result c.from_residual.ensures.1 _

pub returns-in_err-held-in-Balance-clause-exact : goal.returns-in_err-held-in-Balance-clause-exact
returns-in_err-held-in-Balance-clause-exact g c = λ honest sure. none_said c.in_err-held-in-Balance.field-0.0 c.from_residual.result c.from_residual.ensures.1 _

pub returns-in_err-held-in-Balance-clause-read : goal.returns-in_err-held-in-Balance-clause-read
returns-in_err-held-in-Balance-clause-read g c = read_handed c.in_err-held-in-Balance.field-0.0 c.from_residual.result c.from_residual.ensures.1 (g.R.Register.view c.args.register.now) (g.R.Register.view c.position.new.self) c.in_err-held-in-Balance.ensures.read

pub returns-in_ok-held-in-Balance-clause-read : goal.returns-in_ok-held-in-Balance-clause-read
returns-in_ok-held-in-Balance-clause-read g c = read_ok _ _ (g.R.Register.view c.args.register.now) (g.R.Register.view c.position.new.self) c.in_ok-held-in-Balance.ensures.read

pub returns-in_err-had-in-Cash-clause-said : goal.returns-in_err-had-in-Cash-clause-said
returns-in_err-had-in-Cash-clause-said g c = λ honest sure. none_said c.in_err-had-in-Cash.field-0.0 c.from_residual-in_err-had-in-Cash.result c.from_residual-in_err-had-in-Cash.ensures.1 _

pub returns-in_err-had-in-Cash-clause-exact : goal.returns-in_err-had-in-Cash-clause-exact
returns-in_err-had-in-Cash-clause-exact g c = λ honest sure. none_said c.in_err-had-in-Cash.field-0.0 c.from_residual-in_err-had-in-Cash.result c.from_residual-in_err-had-in-Cash.ensures.1 _

pub returns-in_err-had-in-Cash-clause-read : goal.returns-in_err-had-in-Cash-clause-read
returns-in_err-had-in-Cash-clause-read g c = read_handed c.in_err-had-in-Cash.field-0.0 c.from_residual-in_err-had-in-Cash.result c.from_residual-in_err-had-in-Cash.ensures.1 (g.R.Register.view c.args.register.now) (g.R.Register.view c.cash.new.self) c.in_err-had-in-Cash.ensures.read

pub returns-in_ok-had-in-Cash-clause-read : goal.returns-in_ok-had-in-Cash-clause-read
returns-in_ok-had-in-Cash-clause-read g c = read_ok _ _ (g.R.Register.view c.args.register.now) (g.R.Register.view c.cash.new.self) c.in_ok-had-in-Cash.ensures.read

pub returns-in_err-outstanding-in-Security-clause-said : goal.returns-in_err-outstanding-in-Security-clause-said
returns-in_err-outstanding-in-Security-clause-said g c = λ honest sure. none_said c.in_err-outstanding-in-Security.field-0.0 c.from_residual-in_err-outstanding-in-Security.result c.from_residual-in_err-outstanding-in-Security.ensures.1 _

pub returns-in_err-outstanding-in-Security-clause-exact : goal.returns-in_err-outstanding-in-Security-clause-exact
returns-in_err-outstanding-in-Security-clause-exact g c = λ honest sure. none_said c.in_err-outstanding-in-Security.field-0.0 c.from_residual-in_err-outstanding-in-Security.result c.from_residual-in_err-outstanding-in-Security.ensures.1 _

pub returns-in_err-outstanding-in-Security-clause-read : goal.returns-in_err-outstanding-in-Security-clause-read
returns-in_err-outstanding-in-Security-clause-read g c = read_handed c.in_err-outstanding-in-Security.field-0.0 c.from_residual-in_err-outstanding-in-Security.result c.from_residual-in_err-outstanding-in-Security.ensures.1 (g.R.Register.view c.args.register.now) (g.R.Register.view c.outstanding.new.self) c.in_err-outstanding-in-Security.ensures.read

pub returns-in_ok-outstanding-in-Security-clause-read : goal.returns-in_ok-outstanding-in-Security-clause-read
returns-in_ok-outstanding-in-Security-clause-read g c = read_ok _ _ (g.R.Register.view c.args.register.now) (g.R.Register.view c.outstanding.new.self) c.in_ok-outstanding-in-Security.ensures.read

pub returns-in_err-paid-in-Currency-clause-said : goal.returns-in_err-paid-in-Currency-clause-said
returns-in_err-paid-in-Currency-clause-said g c = λ honest sure. none_said c.in_err-paid-in-Currency.field-0.0 c.from_residual-in_err-paid-in-Currency.result c.from_residual-in_err-paid-in-Currency.ensures.1 _

pub returns-in_err-paid-in-Currency-clause-exact : goal.returns-in_err-paid-in-Currency-clause-exact
returns-in_err-paid-in-Currency-clause-exact g c = λ honest sure. none_said c.in_err-paid-in-Currency.field-0.0 c.from_residual-in_err-paid-in-Currency.result c.from_residual-in_err-paid-in-Currency.ensures.1 _

pub returns-in_err-paid-in-Currency-clause-read : goal.returns-in_err-paid-in-Currency-clause-read
returns-in_err-paid-in-Currency-clause-read g c = read_handed c.in_err-paid-in-Currency.field-0.0 c.from_residual-in_err-paid-in-Currency.result c.from_residual-in_err-paid-in-Currency.ensures.1 (g.R.Register.view c.args.register.now) (g.R.Register.view c.paid.new.self) c.in_err-paid-in-Currency.ensures.read

pub returns-in_ok-paid-in-Currency-clause-read : goal.returns-in_ok-paid-in-Currency-clause-read
returns-in_ok-paid-in-Currency-clause-read g c = read_ok _ _ (g.R.Register.view c.args.register.now) (g.R.Register.view c.paid.new.self) c.in_ok-paid-in-Currency.ensures.read

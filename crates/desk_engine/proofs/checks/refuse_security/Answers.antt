use Rattle.desk_register.proofs.ReadLemmas.{read_ok}
use Rattle.std.proofs.Common.{sym, ◌∙◌}
use Rattle.desk_engine.proofs.RefusalLemmas.{security_known, security_new}
use Rattle.desk_engine.proofs.checks.refuse_security.Goals as goal

pub returns-then-is_some-clause-value : goal.returns-then-is_some-clause-value
returns-then-is_some-clause-value g c = λ honest sure well.
    security_known (g.R.Register.view c.args.register.now).content c.args.isin c.in_ok-security.field-0 (c.in_ok-security.ensures.value honest sure well) (sym c.is_some.ensures ∙ c.if-is_some.true)

pub returns-then-is_some-clause-read : goal.returns-then-is_some-clause-read
returns-then-is_some-clause-read g c = read_ok _ _ (g.R.Register.view c.args.register.now) (g.R.Register.view c.security.new.self) c.in_ok-security.ensures.read

pub returns-clause-value : goal.returns-clause-value
returns-clause-value g c = λ honest sure well.
    security_new (g.R.Register.view c.args.register.now).content c.args.isin c.in_ok-security.field-0 (c.in_ok-security.ensures.value honest sure well) (sym c.is_some.ensures ∙ c.if-is_some.false)

pub returns-clause-read : goal.returns-clause-read
returns-clause-read g c = read_ok _ _ (g.R.Register.view c.args.register.now) (g.R.Register.view c.security.new.self) c.in_ok-security.ensures.read

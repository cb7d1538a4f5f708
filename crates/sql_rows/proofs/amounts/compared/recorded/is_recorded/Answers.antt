use Rattle.std.proofs.Common.{subst, sym}
use Rattle.desk_register.proofs.ReadLemmas.{read_one}
use Rattle.sql_tables.specs.declared.fault.AuditFault.TheVariants.{Register, Tables}
use Rattle.sql_tables.proofs.LookLemmas.{look_ok}
use Rattle.sql_rows.specs.Said.{IsSaid}
use Rattle.sql_rows.proofs.StepLemmas.{cause_error, cause_unasked, look_error, look_unasked, none_told, read_fault, read_unasked}
use Rattle.sql_rows.proofs.amounts.compared.recorded.is_recorded.Goals as goal

pub returns-in_err-recorded-clause-says : goal.returns-in_err-recorded-clause-says
returns-in_err-recorded-clause-says g c = λ clean is_open has honest sure amounts. none_told (Tables c.in_err-recorded.field-0.0) c.from_residual.result c.from_residual.ensures.1 _

pub returns-in_err-recorded-clause-exact : goal.returns-in_err-recorded-clause-exact
returns-in_err-recorded-clause-exact g c = λ clean is_open has honest sure all. none_told (Tables c.in_err-recorded.field-0.0) c.from_residual.result c.from_residual.ensures.1 _

pub returns-in_err-recorded-clause-look : goal.returns-in_err-recorded-clause-look
returns-in_err-recorded-clause-look g c = look_error c.in_err-recorded.field-0.0 c.from_residual.result c.from_residual.ensures.1 (g.S.Session.state c.args.conn.now) (g.S.Session.state c.amount.new.conn) c.in_err-recorded.ensures.look

pub returns-in_err-recorded-clause-blame : goal.returns-in_err-recorded-clause-blame
returns-in_err-recorded-clause-blame g c = λ clean is_open has amounts. cause_error c.in_err-recorded.field-0.0 c.from_residual.result c.from_residual.ensures.1 (g.S.Session.state c.args.conn.now) (g.S.Session.state c.amount.new.conn) (c.in_err-recorded.ensures.blame clean is_open has amounts)

pub returns-in_err-recorded-clause-read : goal.returns-in_err-recorded-clause-read
returns-in_err-recorded-clause-read g c = read_unasked c.in_err-recorded.field-0.0 c.from_residual.result c.from_residual.ensures.1 (g.R.Register.view c.args.register.now)

pub returns-in_err-so-clause-says : goal.returns-in_err-so-clause-says
returns-in_err-so-clause-says g c = λ clean is_open has honest sure amounts. none_told (Register c.in_err-so.field-0.0) c.from_residual-in_err-so.result c.from_residual-in_err-so.ensures.1 _

pub returns-in_err-so-clause-exact : goal.returns-in_err-so-clause-exact
returns-in_err-so-clause-exact g c = λ clean is_open has honest sure all. none_told (Register c.in_err-so.field-0.0) c.from_residual-in_err-so.result c.from_residual-in_err-so.ensures.1 _

pub returns-in_err-so-clause-look : goal.returns-in_err-so-clause-look
returns-in_err-so-clause-look g c = look_unasked c.in_err-so.field-0.0 c.from_residual-in_err-so.result c.from_residual-in_err-so.ensures.1 (g.S.Session.state c.args.conn.now) (g.S.Session.state c.amount.new.conn) (look_ok c.in_ok-recorded.recorded tt (g.S.Session.state c.args.conn.now) (g.S.Session.state c.amount.new.conn) c.in_ok-recorded.ensures.look)

pub returns-in_err-so-clause-blame : goal.returns-in_err-so-clause-blame
returns-in_err-so-clause-blame g c = λ clean is_open has amounts. cause_unasked c.in_err-so.field-0.0 c.from_residual-in_err-so.result c.from_residual-in_err-so.ensures.1 (g.S.Session.state c.args.conn.now) (g.S.Session.state c.amount.new.conn)

pub returns-in_err-so-clause-read : goal.returns-in_err-so-clause-read
returns-in_err-so-clause-read g c = read_fault c.in_err-so.field-0.0 c.from_residual-in_err-so.result c.from_residual-in_err-so.ensures.1 (g.R.Register.view c.args.register.now) (g.R.Register.view c.is_said.new.register) c.in_err-so.ensures.read

pub returns-clause-says : goal.returns-clause-says
returns-clause-says g c = λ clean is_open has honest sure amounts yes.
    subst (IsSaid (g.R.Register.view c.args.register.now).content c.args.key.now) (c.in_ok-recorded.ensures.value clean is_open has amounts) (c.in_ok-so.ensures.said honest sure yes)

pub returns-clause-exact : goal.returns-clause-exact
returns-clause-exact g c = λ clean is_open has honest sure all.
    c.in_ok-so.ensures.exact honest sure (subst (IsSaid (g.R.Register.view c.args.register.now).content c.args.key.now) (sym (c.in_ok-recorded.ensures.value clean is_open has all.amounts)) (all.each c.args.key.now))

pub returns-clause-look : goal.returns-clause-look
returns-clause-look g c = look_ok c.in_ok-recorded.recorded tt (g.S.Session.state c.args.conn.now) (g.S.Session.state c.amount.new.conn) c.in_ok-recorded.ensures.look

pub returns-clause-read : goal.returns-clause-read
returns-clause-read g c = read_one c.in_ok-so.so (g.R.Register.view c.args.register.now) (g.R.Register.view c.is_said.new.register) c.in_ok-so.ensures.read

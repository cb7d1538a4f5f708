use Rattle.desk_register.proofs.ReadLemmas.{read_one}
use Rattle.sql_tables.specs.declared.fault.AuditFault.TheVariants.{Register, Tables}
use Rattle.sql_tables.proofs.LookLemmas.{look_none, look_ok}
use Rattle.sql_rows.proofs.StepLemmas.{cause_error, cause_unasked, look_error, look_unasked, none_told, read_fault, read_still}
use Rattle.sql_rows.proofs.sent.compared.is_told.Goals as goal

pub returns-in_err-message-clause-told : goal.returns-in_err-message-clause-told
returns-in_err-message-clause-told g c = λ clean is_open has honest sure formed. none_told (Register c.in_err-message.field-0.0) c.from_residual.result c.from_residual.ensures.1 _

pub returns-in_err-message-clause-exact : goal.returns-in_err-message-clause-exact
returns-in_err-message-clause-exact g c = λ clean is_open has honest sure. none_told (Register c.in_err-message.field-0.0) c.from_residual.result c.from_residual.ensures.1 _

pub returns-in_err-message-clause-look : goal.returns-in_err-message-clause-look
returns-in_err-message-clause-look g c = look_unasked c.in_err-message.field-0.0 c.from_residual.result c.from_residual.ensures.1 (g.S.Session.state c.args.conn.now) (g.S.Session.state c.args.conn.now) (look_none tt (g.S.Session.state c.args.conn.now))

pub returns-in_err-message-clause-blame : goal.returns-in_err-message-clause-blame
returns-in_err-message-clause-blame g c = λ clean is_open has. cause_unasked c.in_err-message.field-0.0 c.from_residual.result c.from_residual.ensures.1 (g.S.Session.state c.args.conn.now) (g.S.Session.state c.args.conn.now)

pub returns-in_err-message-clause-read : goal.returns-in_err-message-clause-read
returns-in_err-message-clause-read g c = read_fault c.in_err-message.field-0.0 c.from_residual.result c.from_residual.ensures.1 (g.R.Register.view c.args.register.now) (g.R.Register.view c.message.new.self) c.in_err-message.ensures.read

pub returns-in_default-clause-look : goal.returns-in_default-clause-look
returns-in_default-clause-look g c = look_none tt (g.S.Session.state c.args.conn.now)

pub returns-in_default-clause-read : goal.returns-in_default-clause-read
returns-in_default-clause-read g c = read_one _ (g.R.Register.view c.args.register.now) (g.R.Register.view c.message.new.self) c.in_ok-message.ensures.read

pub returns-in_err-told-clause-told : goal.returns-in_err-told-clause-told
returns-in_err-told-clause-told g c = λ clean is_open has honest sure formed. none_told (Tables c.in_err-told.field-0.0) c.from_residual-in_err-told.result c.from_residual-in_err-told.ensures.1 _

pub returns-in_err-told-clause-exact : goal.returns-in_err-told-clause-exact
returns-in_err-told-clause-exact g c = λ clean is_open has honest sure. none_told (Tables c.in_err-told.field-0.0) c.from_residual-in_err-told.result c.from_residual-in_err-told.ensures.1 _

pub returns-in_err-told-clause-look : goal.returns-in_err-told-clause-look
returns-in_err-told-clause-look g c = look_error c.in_err-told.field-0.0 c.from_residual-in_err-told.result c.from_residual-in_err-told.ensures.1 (g.S.Session.state c.args.conn.now) (g.S.Session.state c.has_row.new.conn) c.in_err-told.ensures.look

pub returns-in_err-told-clause-blame : goal.returns-in_err-told-clause-blame
returns-in_err-told-clause-blame g c = λ clean is_open has. cause_error c.in_err-told.field-0.0 c.from_residual-in_err-told.result c.from_residual-in_err-told.ensures.1 (g.S.Session.state c.args.conn.now) (g.S.Session.state c.has_row.new.conn) (c.in_err-told.ensures.blame clean is_open has)

pub returns-in_err-told-clause-read : goal.returns-in_err-told-clause-read
returns-in_err-told-clause-read g c = read_still c.in_err-told.field-0.0 c.from_residual-in_err-told.result c.from_residual-in_err-told.ensures.1 (g.R.Register.view c.args.register.now) (g.R.Register.view c.message.new.self) (read_one _ (g.R.Register.view c.args.register.now) (g.R.Register.view c.message.new.self) c.in_ok-message.ensures.read)

pub returns-clause-look : goal.returns-clause-look
returns-clause-look g c = look_ok _ tt (g.S.Session.state c.args.conn.now) (g.S.Session.state c.has_row.new.conn) c.in_ok-told.ensures.look

pub returns-clause-read : goal.returns-clause-read
returns-clause-read g c = read_one _ (g.R.Register.view c.args.register.now) (g.R.Register.view c.message.new.self) c.in_ok-message.ensures.read

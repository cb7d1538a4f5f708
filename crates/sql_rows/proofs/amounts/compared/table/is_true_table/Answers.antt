use Rattle.desk_register.proofs.ReadLemmas.{read_one}
use Rattle.sql_tables.specs.declared.fault.AuditFault.TheVariants.{Register, Tables}
use Rattle.sql_tables.proofs.LookLemmas.{look_ok}
use Rattle.sql_rows.proofs.AmountComparedRows.{table_shown, table_told}
use Rattle.sql_rows.proofs.StepLemmas.{cause_error, cause_unasked, look_error, look_unasked, none_told, read_fault, read_unasked}
use Rattle.sql_rows.proofs.amounts.compared.table.is_true_table.Goals as goal

pub returns-clause-says : goal.returns-clause-says
returns-clause-says g c = λ clean is_open has honest sure order formed yes.
    table_told (g.S.Session.state c.args.conn.now).now (g.R.Register.view c.args.register.now).content c.args.ledger c.in_ok-rows.rows.items c.deref.result.now order formed (c.in_ok-rows.ensures.shown clean is_open has)
    c.deref.ensures.value (c.in_ok-so.ensures.show honest sure yes)

pub returns-clause-exact : goal.returns-clause-exact
returns-clause-exact g c = λ clean is_open has honest sure so can.
    let content = (g.R.Register.view c.args.register.now).content in
    c.in_ok-so.ensures.exact honest sure
    (table_shown content c.args.ledger can (g.S.Session.state c.args.conn.now).now c.in_ok-rows.rows.items c.deref.result.now so (c.in_ok-rows.ensures.shown clean is_open has) c.deref.ensures.value)

pub returns-in_err-rows-clause-says : goal.returns-in_err-rows-clause-says
returns-in_err-rows-clause-says g c = λ clean is_open has honest sure order formed. none_told (Tables c.in_err-rows.field-0.0) c.from_residual.result c.from_residual.ensures.1 _

pub returns-in_err-rows-clause-exact : goal.returns-in_err-rows-clause-exact
returns-in_err-rows-clause-exact g c = λ clean is_open has honest sure so can. none_told (Tables c.in_err-rows.field-0.0) c.from_residual.result c.from_residual.ensures.1 _

pub returns-in_err-rows-clause-look : goal.returns-in_err-rows-clause-look
returns-in_err-rows-clause-look g c = look_error c.in_err-rows.field-0.0 c.from_residual.result c.from_residual.ensures.1 (g.S.Session.state c.args.conn.now) (g.S.Session.state c.rows_of.new.conn) c.in_err-rows.ensures.look

pub returns-in_err-rows-clause-blame : goal.returns-in_err-rows-clause-blame
returns-in_err-rows-clause-blame g c = λ clean is_open has. cause_error c.in_err-rows.field-0.0 c.from_residual.result c.from_residual.ensures.1 (g.S.Session.state c.args.conn.now) (g.S.Session.state c.rows_of.new.conn) (c.in_err-rows.ensures.blame clean is_open has)

pub returns-in_err-rows-clause-read : goal.returns-in_err-rows-clause-read
returns-in_err-rows-clause-read g c = read_unasked c.in_err-rows.field-0.0 c.from_residual.result c.from_residual.ensures.1 (g.R.Register.view c.args.register.now)

pub returns-in_err-so-clause-says : goal.returns-in_err-so-clause-says
returns-in_err-so-clause-says g c = λ clean is_open has honest sure order formed. none_told (Register c.in_err-so.field-0.0) c.from_residual-in_err-so.result c.from_residual-in_err-so.ensures.1 _

pub returns-in_err-so-clause-exact : goal.returns-in_err-so-clause-exact
returns-in_err-so-clause-exact g c = λ clean is_open has honest sure so can. none_told (Register c.in_err-so.field-0.0) c.from_residual-in_err-so.result c.from_residual-in_err-so.ensures.1 _

pub returns-in_err-so-clause-look : goal.returns-in_err-so-clause-look
returns-in_err-so-clause-look g c = look_unasked c.in_err-so.field-0.0 c.from_residual-in_err-so.result c.from_residual-in_err-so.ensures.1 (g.S.Session.state c.args.conn.now) (g.S.Session.state c.rows_of.new.conn) (look_ok c.in_ok-rows.rows tt (g.S.Session.state c.args.conn.now) (g.S.Session.state c.rows_of.new.conn) c.in_ok-rows.ensures.look)

pub returns-in_err-so-clause-blame : goal.returns-in_err-so-clause-blame
returns-in_err-so-clause-blame g c = λ clean is_open has. cause_unasked c.in_err-so.field-0.0 c.from_residual-in_err-so.result c.from_residual-in_err-so.ensures.1 (g.S.Session.state c.args.conn.now) (g.S.Session.state c.rows_of.new.conn)

pub returns-in_err-so-clause-read : goal.returns-in_err-so-clause-read
returns-in_err-so-clause-read g c = read_fault c.in_err-so.field-0.0 c.from_residual-in_err-so.result c.from_residual-in_err-so.ensures.1 (g.R.Register.view c.args.register.now) (g.R.Register.view c.show_true.new.register) c.in_err-so.ensures.read

pub returns-clause-look : goal.returns-clause-look
returns-clause-look g c = look_ok c.in_ok-rows.rows tt (g.S.Session.state c.args.conn.now) (g.S.Session.state c.rows_of.new.conn) c.in_ok-rows.ensures.look

pub returns-clause-read : goal.returns-clause-read
returns-clause-read g c = read_one c.in_ok-so.so (g.R.Register.view c.args.register.now) (g.R.Register.view c.show_true.new.register) c.in_ok-so.ensures.read

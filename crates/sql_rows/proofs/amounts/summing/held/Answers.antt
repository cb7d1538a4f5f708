use Rattle.sql_rows.specs.Held.{total_held}
use Rattle.sql_tables.specs.Ends.{ForCause}
use Rattle.sql_tables.proofs.ResultLemmas.{on_error}
use Rattle.sql_rows.proofs.StepLemmas.{look_handed, look_so, no_value, sum_caused, sum_is}
use Rattle.sql_rows.proofs.amounts.summing.held.Goals as goal

pub returns-in_err-rows-clause-value : goal.returns-in_err-rows-clause-value
returns-in_err-rows-clause-value g c = λ clean is_open has amounts. no_value c.in_err-rows.field-0.0 c.from_residual.result c.from_residual.ensures.1 _

pub returns-in_err-rows-clause-look : goal.returns-in_err-rows-clause-look
returns-in_err-rows-clause-look g c = look_handed c.in_err-rows.field-0.0 c.from_residual.result c.from_residual.ensures.1 (g.S.Session.state c.args.conn.now) (g.S.Session.state c.held_rows.new.conn) c.in_err-rows.ensures.look

pub returns-in_err-rows-clause-blame : goal.returns-in_err-rows-clause-blame
returns-in_err-rows-clause-blame g c = λ clean is_open has amounts fits. on_error c.from_residual.result c.in_err-rows.field-0.0 (ForCause (g.S.Session.state c.args.conn.now) (g.S.Session.state c.held_rows.new.conn)) c.from_residual.ensures.1 (c.in_err-rows.ensures.blame clean is_open has)

pub returns-clause-value : goal.returns-clause-value
returns-clause-value g c = λ clean is_open has amounts. sum_is c.in_ok-rows.rows.items c.as_slice.result.now (total_held (g.S.Session.state c.args.conn.now).now c.args.isin) (c.in_ok-rows.ensures.value clean is_open has amounts) c.as_slice.ensures.value c.sum_shown.result c.sum_shown.ensures.value

pub returns-clause-look : goal.returns-clause-look
returns-clause-look g c = look_so c.in_ok-rows.rows c.sum_shown.result (g.S.Session.state c.args.conn.now) (g.S.Session.state c.held_rows.new.conn) c.in_ok-rows.ensures.look

pub returns-clause-blame : goal.returns-clause-blame
returns-clause-blame g c = λ clean is_open has amounts fits. sum_caused c.in_ok-rows.rows.items c.as_slice.result.now (total_held (g.S.Session.state c.args.conn.now).now c.args.isin) (c.in_ok-rows.ensures.value clean is_open has amounts) c.as_slice.ensures.value c.sum_shown.result (ForCause (g.S.Session.state c.args.conn.now) (g.S.Session.state c.held_rows.new.conn)) c.sum_shown.ensures.all fits

use Rattle.std.proofs.Common.{ℕ, Option}
use Rattle.sql_register.proofs.FailedLemmas.{look_only, no_value}
use Rattle.sql_tables.proofs.LookLemmas.{look_ok}
use Rattle.sql_tables.proofs.ResultLemmas.{on_error}
use Rattle.sql_tables.specs.Ends.{ForCause}
use Rattle.sql_register.proofs.looking.recorded.Goals as goal

pub returns-in_err-amount-clause-value : goal.returns-in_err-amount-clause-value
returns-in_err-amount-clause-value g c clean is_open has amounts = no_value c.from_residual.result c.in_err-amount.field-0.0 c.from_residual.ensures.1 _

pub returns-in_err-amount-clause-look : goal.returns-in_err-amount-clause-look
returns-in_err-amount-clause-look g c = look_only c.from_residual.result c.in_err-amount.field-0.0 c.from_residual.ensures.1 (Option ℕ) (g.S.Session.state c.args.conn.now) (g.S.Session.state c.amount.new.conn) c.in_err-amount.ensures.look

pub returns-in_err-amount-clause-blame : goal.returns-in_err-amount-clause-blame
returns-in_err-amount-clause-blame g c clean is_open has amounts =
    on_error c.from_residual.result c.in_err-amount.field-0.0 (ForCause (g.S.Session.state c.args.conn.now) (g.S.Session.state c.amount.new.conn)) c.from_residual.ensures.1 (c.in_err-amount.ensures.blame clean is_open has amounts)

pub returns-clause-look : goal.returns-clause-look
returns-clause-look g c = look_ok _ _ (g.S.Session.state c.args.conn.now) (g.S.Session.state c.amount.new.conn) c.in_ok-amount.ensures.look

pub returns-clause-blame : goal.returns-clause-blame
returns-clause-blame g c clean is_open has amounts = tt

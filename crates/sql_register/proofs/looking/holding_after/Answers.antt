use Rattle.std.proofs.Common.{subst, sym, List, Option, ℕ}
use Rattle.desk_register.specs.Looked.{IsHoldingAfter}
use Rattle.sql_register.specs.Content.{content_in}
use Rattle.sql_register.proofs.LookLemmas.{found_holding}
use Rattle.sql_tables.specs.Ends.{ForCause}
use Rattle.sql_tables.proofs.ResultLemmas.{on_error}
use Rattle.sql_register.proofs.CauseLemmas.{holds_isins}
use Rattle.sql_register.proofs.FailedLemmas.{look_only, no_value}
use Rattle.sql_tables.proofs.LookLemmas.{look_ok}
use Rattle.sql_register.proofs.looking.holding_after.Goals as goal

pub returns-clause-value : goal.returns-clause-value
returns-clause-value g c clean is_open has desk =
    subst (IsHoldingAfter (content_in (g.S.Session.state c.args.conn.now).now) c.args.account c.args.isin) (sym c.holding_of.ensures)
    (found_holding (g.S.Session.state c.args.conn.now).now desk c.args.account c.args.isin c.in_ok-found.found (c.in_ok-found.ensures.value clean is_open has desk.amounts))

pub returns-in_err-found-clause-blame : goal.returns-in_err-found-clause-blame
returns-in_err-found-clause-blame g c clean is_open has desk =
    let s0 = g.S.Session.state c.args.conn.now in
    let e = c.in_err-found.field-0.0 in
    on_error c.from_residual.result e (ForCause s0 (g.S.Session.state c.next_holding.new.conn)) c.from_residual.ensures.1
    (c.in_err-found.ensures.blame clean is_open has desk.amounts (holds_isins s0.now desk c.args.account))

pub returns-in_err-found-clause-value : goal.returns-in_err-found-clause-value
returns-in_err-found-clause-value g c clean is_open has desk = no_value c.from_residual.result c.in_err-found.field-0.0 c.from_residual.ensures.1 _

pub returns-in_err-found-clause-look : goal.returns-in_err-found-clause-look
returns-in_err-found-clause-look g c = look_only c.from_residual.result c.in_err-found.field-0.0 c.from_residual.ensures.1 (Option (List ℕ × ℕ)) (g.S.Session.state c.args.conn.now) (g.S.Session.state c.next_holding.new.conn) c.in_err-found.ensures.look

pub returns-clause-look : goal.returns-clause-look
returns-clause-look g c = look_ok _ _ (g.S.Session.state c.args.conn.now) (g.S.Session.state c.next_holding.new.conn) c.in_ok-found.ensures.look

pub returns-clause-blame : goal.returns-clause-blame
returns-clause-blame g c clean is_open has desk = tt

use Rattle.std.proofs.Common.{Bool, OnOk, arith, subst, sym}
use Rattle.sql_rows.specs.Amounts.{amount_at}
use Rattle.sql_rows.specs.Changes.{Takes}
use Rattle.sql_rows.proofs.AmountLemmas.{short_less}
use Rattle.sql_tables.specs.Ends.{ForCause}
use Rattle.sql_tables.proofs.CallLemmas.{write_ok}
use Rattle.sql_tables.proofs.ResultLemmas.{on_error}
use Rattle.sql_register.proofs.FailedLemmas.{not_done, write_handed}
use Rattle.sql_register.proofs.PostedLemmas.{credited}
use Rattle.sql_register.specs.Posting.{CanPost, Posts}
use Rattle.sql_register.specs.declared.posting.Direction.{Direction}
use Rattle.sql_register.proofs.appending.post.Goals as goal

pub returns-in-Credit-clause-changed : goal.returns-in-Credit-clause-changed
returns-in-Credit-clause-changed g c clean is_open has amounts =
    let old = (g.S.Session.state c.args.conn.now).now in
    let new = (g.S.Session.state c.put.new.conn).now in
    subst (λ (d : Direction). OnOk c.put.result (Posts d old new c.args.key.now c.args.amount)) (sym c.in-Credit.is)
    (credited old new c.args.key.now c.args.amount c.put.result (c.put.ensures.changed clean is_open has amounts))

pub returns-in-Credit-clause-blame : goal.returns-in-Credit-clause-blame
returns-in-Credit-clause-blame g c clean is_open has amounts can =
    c.put.ensures.blame clean is_open has amounts (subst (λ (d : Direction). CanPost d (g.S.Session.state c.args.conn.now).now c.args.key.now c.args.amount) c.in-Credit.is can)

pub returns-in-Credit-clause-write : goal.returns-in-Credit-clause-write
returns-in-Credit-clause-write g c = c.put.ensures.write

pub returns-in_err-take-in-Debit-clause-changed : goal.returns-in_err-take-in-Debit-clause-changed
returns-in_err-take-in-Debit-clause-changed g c clean is_open has amounts = not_done c.from_residual.result c.in_err-take-in-Debit.field-0.0 c.from_residual.ensures.1 _

pub returns-in_err-take-in-Debit-clause-write : goal.returns-in_err-take-in-Debit-clause-write
returns-in_err-take-in-Debit-clause-write g c = write_handed c.from_residual.result c.in_err-take-in-Debit.field-0.0 c.from_residual.ensures.1 Bool (g.S.Session.state c.args.conn.now) (g.S.Session.state c.take.new.conn) c.in_err-take-in-Debit.ensures.write

pub returns-in_err-take-in-Debit-clause-blame : goal.returns-in_err-take-in-Debit-clause-blame
returns-in_err-take-in-Debit-clause-blame g c clean is_open has amounts can =
    on_error c.from_residual.result c.in_err-take-in-Debit.field-0.0 (ForCause (g.S.Session.state c.args.conn.now) (g.S.Session.state c.take.new.conn)) c.from_residual.ensures.1 (c.in_err-take-in-Debit.ensures.blame clean is_open has amounts)

pub returns-then-branch-clause-changed : goal.returns-then-branch-clause-changed
returns-then-branch-clause-changed g c clean is_open has amounts =
    let old = (g.S.Session.state c.args.conn.now).now in
    let new = (g.S.Session.state c.take.new.conn).now in
    subst (λ (d : Direction). Posts d old new c.args.key.now c.args.amount) (sym c.in-Debit.is)
    (subst (λ (r : Bool). Takes old new c.args.key.now c.args.amount r) c.if-branch.true (c.in_ok-take-in-Debit.ensures.changed clean is_open has amounts))

pub returns-then-branch-clause-write : goal.returns-then-branch-clause-write
returns-then-branch-clause-write g c = write_ok _ _ (g.S.Session.state c.args.conn.now) (g.S.Session.state c.take.new.conn) c.in_ok-take-in-Debit.ensures.write

pub returns-then-branch-clause-blame : goal.returns-then-branch-clause-blame
returns-then-branch-clause-blame g c clean is_open has amounts can = tt

pub returns-else-branch-clause-changed : goal.returns-else-branch-clause-changed
returns-else-branch-clause-changed g c clean is_open has amounts = tt

pub returns-else-branch-clause-blame : goal.returns-else-branch-clause-blame
returns-else-branch-clause-blame g c clean is_open has amounts can =
    let old = (g.S.Session.state c.args.conn.now).now in
    let new = (g.S.Session.state c.take.new.conn).now in
    let key = c.args.key.now in
    let able = subst (λ (d : Direction). CanPost d old key c.args.amount) c.in-Debit.is can in
    let lacks = subst (λ (r : Bool). Takes old new key c.args.amount r) c.if-branch.false (c.in_ok-take-in-Debit.ensures.changed clean is_open has amounts) in
    absurd (let less = short_less (amount_at old key) c.args.amount able.0 lacks.0 in let enough = able.1 in omega (arith, less, enough))

use Rattle.std.proofs.Common.{◌≡◌, None, arith, subst}
use Rattle.sqlite.specs.State.{HasCleanDisk}
use Rattle.sql_rows.specs.Amounts.{AreAmounts, amount_at}
use Rattle.sql_rows.specs.Changes.{Raises}
use Rattle.sql_rows.proofs.AmountLemmas.{absent_still, amounts_still, first_put}
use Rattle.sql_tables.specs.Ends.{ForCause}
use Rattle.sql_tables.proofs.CallLemmas.{caused_then, write_ok, write_then}
use Rattle.sql_tables.proofs.ResultLemmas.{on_error}
use Rattle.sql_rows.proofs.StepLemmas.{none_done, write_handed, write_handed_then}
use Rattle.sql_rows.proofs.amounts.calls.put.Goals as goal

pub returns-in_ok-insert-clause-changed : goal.returns-in_ok-insert-clause-changed
returns-in_ok-insert-clause-changed g c clean is_open has amounts fits =
    let old = (g.S.Session.state c.args.conn.now).now in
    let s1 = g.S.Session.state c.raise.new.conn in
    let new = (g.S.Session.state c.insert.new.conn).now in
    let key = c.args.key.now in
    let clean1 : HasCleanDisk s1 = omega (arith, clean, c.in_ok-insert.ensures.write.later.clean) in
    let stays = c.in_ok-raise.ensures.write.ok clean1 is_open has in
    let none = subst (λ raised. Raises old s1.now key c.args.amount raised) c.if-not-branch.true (c.in_ok-raise.ensures.changed clean1 is_open has amounts fits) in
    first_put old s1.now new key c.args.amount none.0 none.1
    (c.in_ok-insert.ensures.changed clean stays.is_open stays.schema (amounts_still old s1.now new key c.args.amount none.0 none.1 amounts) (absent_still old s1.now new key c.args.amount none.0 none.1))

pub returns-in_err-insert-clause-blame : goal.returns-in_err-insert-clause-blame
returns-in_err-insert-clause-blame g c clean is_open has amounts fits =
    let s0 = g.S.Session.state c.args.conn.now in
    let s1 = g.S.Session.state c.raise.new.conn in
    let s2 = g.S.Session.state c.insert.new.conn in
    let key = c.args.key.now in
    let e = c.in_err-insert.field-0.0 in
    on_error c.from_residual-in_err-insert.result e (ForCause s0 s2) c.from_residual-in_err-insert.ensures.1
    (caused_then _ e s0 s1 s2 (AreAmounts s1.now × (amount_at s1.now key ≡ None)) c.in_ok-raise.ensures.write c.in_err-insert.ensures.write.later
    (λ clean1 open0 has0.
    let none = subst (λ raised. Raises s0.now s1.now key c.args.amount raised) c.if-not-branch.true (c.in_ok-raise.ensures.changed clean1 open0 has0 amounts fits) in
    (amounts_still s0.now s1.now s1.now key c.args.amount none.0 none.1 amounts, absent_still s0.now s1.now s1.now key c.args.amount none.0 none.1))
    (λ clean2 open1 has1 it. c.in_err-insert.ensures.blame clean2 open1 has1 it.0 it.1) clean is_open has)

pub returns-in_err-raise-clause-changed : goal.returns-in_err-raise-clause-changed
returns-in_err-raise-clause-changed g c = λ clean is_open has amounts fits. none_done c.in_err-raise.field-0.0 c.from_residual.result c.from_residual.ensures.1 _

pub returns-in_err-raise-clause-write : goal.returns-in_err-raise-clause-write
returns-in_err-raise-clause-write g c = write_handed c.in_err-raise.field-0.0 c.from_residual.result c.from_residual.ensures.1 (g.S.Session.state c.args.conn.now) (g.S.Session.state c.raise.new.conn) c.in_err-raise.ensures.write

pub returns-in_err-raise-clause-blame : goal.returns-in_err-raise-clause-blame
returns-in_err-raise-clause-blame g c = λ clean is_open has amounts fits. on_error c.from_residual.result c.in_err-raise.field-0.0 (ForCause (g.S.Session.state c.args.conn.now) (g.S.Session.state c.raise.new.conn)) c.from_residual.ensures.1 (c.in_err-raise.ensures.blame clean is_open has amounts fits)

pub returns-in_err-insert-clause-changed : goal.returns-in_err-insert-clause-changed
returns-in_err-insert-clause-changed g c = λ clean is_open has amounts fits. none_done c.in_err-insert.field-0.0 c.from_residual-in_err-insert.result c.from_residual-in_err-insert.ensures.1 _

pub returns-in_err-insert-clause-write : goal.returns-in_err-insert-clause-write
returns-in_err-insert-clause-write g c = write_handed_then _ c.in_err-insert.field-0.0 c.from_residual-in_err-insert.result c.from_residual-in_err-insert.ensures.1 (g.S.Session.state c.args.conn.now) (g.S.Session.state c.raise.new.conn) (g.S.Session.state c.insert.new.conn) c.in_ok-raise.ensures.write c.in_err-insert.ensures.write

pub returns-in_ok-insert-clause-write : goal.returns-in_ok-insert-clause-write
returns-in_ok-insert-clause-write g c = write_ok _ _ (g.S.Session.state c.args.conn.now) (g.S.Session.state c.insert.new.conn) (write_then _ _ (g.S.Session.state c.args.conn.now) (g.S.Session.state c.raise.new.conn) (g.S.Session.state c.insert.new.conn) c.in_ok-raise.ensures.write c.in_ok-insert.ensures.write)

pub returns-else-not-branch-clause-changed : goal.returns-else-not-branch-clause-changed
returns-else-not-branch-clause-changed g c = λ clean is_open has amounts fits. subst (λ raised. Raises (g.S.Session.state c.args.conn.now).now (g.S.Session.state c.raise.new.conn).now c.args.key.now c.args.amount raised) c.if-not-branch.false (c.in_ok-raise.ensures.changed clean is_open has amounts fits)

pub returns-else-not-branch-clause-write : goal.returns-else-not-branch-clause-write
returns-else-not-branch-clause-write g c = write_ok _ _ (g.S.Session.state c.args.conn.now) (g.S.Session.state c.raise.new.conn) c.in_ok-raise.ensures.write

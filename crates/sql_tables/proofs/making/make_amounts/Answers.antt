use Rattle.std.proofs.Common.{◌∙◌, arith, sym, subst, IsTrue}
use Rattle.sql_tables.proofs.MakingLemmas.{kept_then}
use Rattle.sql_tables.specs.Ends.{ForCause}
use Rattle.sql_tables.proofs.MakingCauses.{caused_on}
use Rattle.sql_tables.proofs.ResultLemmas.{on_error}
use Rattle.sql_tables.proofs.CallLemmas.{later_then}
use Rattle.sql_tables.proofs.MadeLemmas.{balance_made, cash_made, total_made}
use Rattle.sql_tables.proofs.making.make_amounts.Goals as goal

pub returns-clause-made : goal.returns-clause-made
returns-clause-made g c clean is_open empty =
    let m0 = c.in_ok-make.ensures.made (omega (arith, clean, c.make-2.ensures.later.clean, c.make-3.ensures.later.clean)) is_open _ _ balance_made empty in
    let m1 = c.in_ok-make-2.ensures.made (omega (arith, clean, c.make-3.ensures.later.clean)) m0.is_open _ _ cash_made m0.empty in
    let m2 = c.in_ok-make-3.ensures.made clean m1.is_open _ _ total_made m1.empty in
    record {
      is_open = m2.is_open;
      empty = m2.empty;
      mode = m2.mode ∙ m1.mode ∙ m0.mode;
      marks = m2.marks ∙ m1.marks ∙ m0.marks;
      committed = λ inside. m2.committed (subst IsTrue (sym (m1.mode ∙ m0.mode)) inside) ∙ m1.committed (subst IsTrue (sym m0.mode) inside) ∙ m0.committed inside;
    }

pub returns-in_err-make-2-clause-kept : goal.returns-in_err-make-2-clause-kept
returns-in_err-make-2-clause-kept g c clean is_open inside empty =
    let m0 = c.in_ok-make.ensures.made (omega (arith, clean, c.make-2.ensures.later.clean)) is_open _ _ balance_made empty in
    kept_then c.from_residual-in_err-make-2.result (g.S.Session.state c.args.conn.now) (g.S.Session.state c.make.new.conn) (g.S.Session.state c.make-2.new.conn) (m0.committed inside) (c.in_err-make-2.ensures.kept clean)

pub returns-in_err-make-3-clause-kept : goal.returns-in_err-make-3-clause-kept
returns-in_err-make-3-clause-kept g c clean is_open inside empty =
    let m0 = c.in_ok-make.ensures.made (omega (arith, clean, c.make-2.ensures.later.clean, c.make-3.ensures.later.clean)) is_open _ _ balance_made empty in
    let m1 = c.in_ok-make-2.ensures.made (omega (arith, clean, c.make-3.ensures.later.clean)) m0.is_open _ _ cash_made m0.empty in
    kept_then c.from_residual-in_err-make-3.result (g.S.Session.state c.args.conn.now) (g.S.Session.state c.make-2.new.conn) (g.S.Session.state c.make-3.new.conn)
    (m1.committed (subst IsTrue (sym m0.mode) inside) ∙ m0.committed inside) (c.in_err-make-3.ensures.kept clean)

pub returns-in_err-make-clause-blame : goal.returns-in_err-make-clause-blame
returns-in_err-make-clause-blame g c clean is_open empty =
    on_error c.from_residual.result c.in_err-make.field-0.0 (ForCause (g.S.Session.state c.args.conn.now) (g.S.Session.state c.make.new.conn)) c.from_residual.ensures.1
    (c.in_err-make.ensures.blame clean is_open _ _ balance_made empty)

pub returns-in_err-make-2-clause-blame : goal.returns-in_err-make-2-clause-blame
returns-in_err-make-2-clause-blame g c clean is_open empty =
    let m0 = c.in_ok-make.ensures.made (omega (arith, clean, c.make-2.ensures.later.clean)) is_open _ _ balance_made empty in
    caused_on c.from_residual-in_err-make-2.result c.in_err-make-2.field-0.0 (g.S.Session.state c.args.conn.now) (g.S.Session.state c.make.new.conn) (g.S.Session.state c.make-2.new.conn) c.from_residual-in_err-make-2.ensures.1 c.make.ensures.later c.make-2.ensures.later
    (c.in_err-make-2.ensures.blame clean m0.is_open _ _ cash_made m0.empty)

pub returns-in_err-make-3-clause-blame : goal.returns-in_err-make-3-clause-blame
returns-in_err-make-3-clause-blame g c clean is_open empty =
    let m0 = c.in_ok-make.ensures.made (omega (arith, clean, c.make-2.ensures.later.clean, c.make-3.ensures.later.clean)) is_open _ _ balance_made empty in
    let m1 = c.in_ok-make-2.ensures.made (omega (arith, clean, c.make-3.ensures.later.clean)) m0.is_open _ _ cash_made m0.empty in
    caused_on c.from_residual-in_err-make-3.result c.in_err-make-3.field-0.0 (g.S.Session.state c.args.conn.now) (g.S.Session.state c.make-2.new.conn) (g.S.Session.state c.make-3.new.conn) c.from_residual-in_err-make-3.ensures.1
    (later_then (g.S.Session.state c.args.conn.now) (g.S.Session.state c.make.new.conn) (g.S.Session.state c.make-2.new.conn) c.make.ensures.later c.make-2.ensures.later) c.make-3.ensures.later
    (c.in_err-make-3.ensures.blame clean m1.is_open _ _ total_made m1.empty)

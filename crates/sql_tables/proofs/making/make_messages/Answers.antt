use Rattle.std.proofs.Common.{◌∙◌, arith, sym, subst, IsTrue}
use Rattle.sql_tables.proofs.MakingLemmas.{kept_then}
use Rattle.sql_tables.specs.Ends.{ForCause}
use Rattle.sql_tables.proofs.MakingCauses.{caused_on}
use Rattle.sql_tables.proofs.ResultLemmas.{on_error}
use Rattle.sql_tables.proofs.MadeLemmas.{sent_made, version_made}
use Rattle.sql_tables.proofs.making.make_messages.Goals as goal

pub returns-clause-made : goal.returns-clause-made
returns-clause-made g c clean is_open empty =
    let m0 = c.in_ok-make.ensures.made (omega (arith, clean, c.make-2.ensures.later.clean)) is_open _ _ sent_made empty in
    let m1 = c.in_ok-make-2.ensures.made clean m0.is_open _ _ version_made m0.empty in
    record {
      is_open = m1.is_open;
      empty = m1.empty;
      mode = m1.mode ∙ m0.mode;
      marks = m1.marks ∙ m0.marks;
      committed = λ inside. m1.committed (subst IsTrue (sym m0.mode) inside) ∙ m0.committed inside;
    }

pub returns-in_err-make-2-clause-kept : goal.returns-in_err-make-2-clause-kept
returns-in_err-make-2-clause-kept g c clean is_open inside empty =
    let m0 = c.in_ok-make.ensures.made (omega (arith, clean, c.make-2.ensures.later.clean)) is_open _ _ sent_made empty in
    kept_then c.from_residual-in_err-make-2.result (g.S.Session.state c.args.conn.now) (g.S.Session.state c.make.new.conn) (g.S.Session.state c.make-2.new.conn) (m0.committed inside) (c.in_err-make-2.ensures.kept clean)

pub returns-in_err-make-clause-blame : goal.returns-in_err-make-clause-blame
returns-in_err-make-clause-blame g c clean is_open empty =
    on_error c.from_residual.result c.in_err-make.field-0.0 (ForCause (g.S.Session.state c.args.conn.now) (g.S.Session.state c.make.new.conn)) c.from_residual.ensures.1
    (c.in_err-make.ensures.blame clean is_open _ _ sent_made empty)

pub returns-in_err-make-2-clause-blame : goal.returns-in_err-make-2-clause-blame
returns-in_err-make-2-clause-blame g c clean is_open empty =
    let m0 = c.in_ok-make.ensures.made (omega (arith, clean, c.make-2.ensures.later.clean)) is_open _ _ sent_made empty in
    caused_on c.from_residual-in_err-make-2.result c.in_err-make-2.field-0.0 (g.S.Session.state c.args.conn.now) (g.S.Session.state c.make.new.conn) (g.S.Session.state c.make-2.new.conn) c.from_residual-in_err-make-2.ensures.1 c.make.ensures.later c.make-2.ensures.later
    (c.in_err-make-2.ensures.blame clean m0.is_open _ _ version_made m0.empty)

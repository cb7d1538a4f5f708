use Rattle.std.proofs.Common.{rules, ap, subst, sym, ◌∙◌}
use Rattle.std.specs.Prelude.{Err}
use Rattle.desk_register.specs.declared.register.Stage.TheVariants.{Failed}
use Rattle.desk_register.specs.View.{Blames}
use Rattle.sql_register.specs.Kept.{Kept, shown}
use Rattle.sql_register.specs.Told.{fault_for}
use Rattle.sql_register.proofs.ReadLemmas.{blames_told, was_clean}
use Rattle.sql_register.proofs.KeptLemmas.{bounded_later}
use Rattle.sql_register.proofs.calls.SqlRegisterRegister.commit.Goals as goal

pub invariant_of-self : goal.invariant_of-self
invariant_of-self g c = (search rules, bounded_later (g.S.Session.state c.self.inside.conn) (g.S.Session.state c.commit.new.conn) c.self.inside.limit c.self.invariant.1 c.commit.ensures.later)

pub invariant_of-self-in-Err : goal.invariant_of-self-in-Err
invariant_of-self-in-Err g c = (search rules, bounded_later (g.S.Session.state c.self.inside.conn) (g.S.Session.state c.commit.new.conn) c.self.inside.limit c.self.invariant.1 c.commit.ensures.later)

pub returns-in-Err-clause-blame : goal.returns-in-Err-clause-blame
returns-in-Err-clause-blame g c =
    let old = g.S.Session.state c.self.inside.conn in
    let new = g.S.Session.state c.commit.new.conn in
    let begun = ap (λ k. k.stage) c.self.view_is ∙ c.requires in
    let was = was_clean old new c.commit.ensures.later in
    subst (λ f. Blames (Err f) (shown (g.S.Session.state c.args.self.now.connection) c.args.self.now.stage c.args.self.now.room) (shown new Failed c.self.inside.limit)) (sym c.fault_of.ensures)
    (subst (λ (k : Kept _). Blames (Err (fault_for c.in-Err.error)) (shown (g.S.Session.state k.connection) k.stage k.room) (shown new Failed c.self.inside.limit)) c.self.view_is
    (blames_told old new c.self.inside.stage Failed c.self.inside.limit c.in-Err.error c.self.invariant.0 c.commit.ensures.later c.self.invariant.1.unlimited
    (λ clean is_open has desk. c.in-Err.ensures.blame clean is_open has ((c.self.invariant.0 (was clean) is_open).begun begun))))

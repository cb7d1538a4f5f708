use Rattle.std.proofs.Common.{ap, ◌∙◌, subst, sym, IsTrue}
use Rattle.sqlite.specs.State.{HasCleanDisk}
use Rattle.desk_register.specs.Changes.{CanCancel, cancelled}
use Rattle.desk_register.specs.View.{IsChange}
use Rattle.sql_register.proofs.ChangeLemmas.{write_said}
use Rattle.sql_register.specs.Content.{content_in}
use Rattle.sql_register.specs.Kept.{Kept, shown}
use Rattle.sql_register.proofs.KeptLemmas.{holds_changed}
use Rattle.sql_register.proofs.ReadLemmas.{was_clean}
use Rattle.sql_register.proofs.calls.SqlRegisterRegister.cancel.Goals as goal

pub invariant_of-self : goal.invariant_of-self
invariant_of-self g c =
    holds_changed (g.S.Session.state c.self.inside.conn) (g.S.Session.state c.cancel.new.conn) c.self.inside.stage c.told.new.stage c.self.inside.limit
    c.cancel.result c.told.result (cancelled c.args.number (content_in (g.S.Session.state c.self.inside.conn).now)) (ap (λ k. k.stage) c.self.view_is ∙ c.requires.stage) c.self.invariant c.cancel.ensures.write c.told.ensures
    (λ clean is_open has desk. c.cancel.ensures.changed clean is_open has desk
    (subst (λ (k : Kept _). HasCleanDisk (g.S.Session.state k.connection) → IsTrue (g.S.Session.state k.connection).is_open → CanCancel (content_in (g.S.Session.state k.connection).now) c.args.number) (sym c.self.view_is) c.requires.fits
    (was_clean _ _ c.cancel.ensures.write.later clean) is_open))

pub returns-clause-change : goal.returns-clause-change
returns-clause-change g c =
    let old = g.S.Session.state c.self.inside.conn in
    let new = g.S.Session.state c.cancel.new.conn in
    let begun = ap (λ k. k.stage) c.self.view_is ∙ c.requires.stage in
    let can = subst (λ (k : Kept _). HasCleanDisk (g.S.Session.state k.connection) → IsTrue (g.S.Session.state k.connection).is_open → CanCancel (content_in (g.S.Session.state k.connection).now) c.args.number) (sym c.self.view_is) c.requires.fits in
    let was = was_clean old new c.cancel.ensures.write.later in
    subst (λ (k : Kept _). IsChange c.told.result (shown (g.S.Session.state k.connection) k.stage k.room) (shown new c.told.new.stage c.self.inside.limit)) c.self.view_is
    (write_said old new c.self.inside.stage c.told.new.stage c.self.inside.limit c.cancel.result c.told.result begun c.self.invariant.0 c.self.invariant.1.unlimited c.cancel.ensures.write
    (λ clean is_open has desk. c.cancel.ensures.blame clean is_open has desk (can (was clean) is_open)) c.told.ensures)

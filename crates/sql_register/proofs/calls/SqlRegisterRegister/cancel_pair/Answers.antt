use Rattle.std.proofs.Common.{OnOk, ◌≡◌, ap, ◌∙◌, subst, sym, IsTrue}
use Rattle.sqlite.specs.State.{HasCleanDisk}
use Rattle.desk_register.specs.Changes.{CanCancelPair, pair_cancelled}
use Rattle.desk_register.specs.View.{IsChange}
use Rattle.sql_register.proofs.CauseLemmas.{above, below}
use Rattle.sql_register.proofs.ChangeLemmas.{told_content, write_said}
use Rattle.sql_register.specs.Content.{content_in}
use Rattle.sql_register.specs.Kept.{Kept, shown}
use Rattle.sql_register.proofs.KeptLemmas.{holds_changed}
use Rattle.sql_register.proofs.PairCalls.{cancel_call}
use Rattle.sql_register.proofs.PairCauses.{cancel_stands}
use Rattle.sql_register.proofs.ReadLemmas.{was_clean}
use Rattle.sql_register.proofs.calls.SqlRegisterRegister.cancel_pair.Goals as goal

pub invariant_of-self : goal.invariant_of-self
invariant_of-self g c =
    holds_changed (g.S.Session.state c.self.inside.conn) (g.S.Session.state c.stand_both.new.conn) c.self.inside.stage c.told.new.stage c.self.inside.limit
    c.stand_both.result c.told.result (pair_cancelled c.args.earlier c.args.later (content_in (g.S.Session.state c.self.inside.conn).now)) (ap (λ k. k.stage) c.self.view_is ∙ c.requires.stage) c.self.invariant c.stand_both.ensures.write c.told.ensures
    (λ clean is_open has desk.
    let old = g.S.Session.state c.self.inside.conn in
    let can0 = (subst (λ (k : Kept _). HasCleanDisk (g.S.Session.state k.connection) → IsTrue (g.S.Session.state k.connection).is_open → CanCancelPair (content_in (g.S.Session.state k.connection).now) c.args.earlier c.args.later) (sym c.self.view_is) c.requires.fits
    (was_clean _ _ c.stand_both.ensures.write.later clean) is_open) in
    cancel_call old.now old (g.S.Session.state c.stand_both.new.conn) c.args.earlier c.args.later desk can0 c.stand_both.result (c.stand_both.ensures.write.ok clean is_open has) (c.stand_both.ensures.changed clean is_open has desk.standings))

pub returns-clause-cancelled : goal.returns-clause-cancelled
returns-clause-cancelled g c =
    subst (λ (k : Kept _). HasCleanDisk (g.S.Session.state c.stand_both.new.conn) → IsTrue (g.S.Session.state k.connection).is_open
    → OnOk c.told.result (content_in (g.S.Session.state c.stand_both.new.conn).now ≡ pair_cancelled c.args.earlier c.args.later (content_in (g.S.Session.state k.connection).now))) c.self.view_is
    (told_content (g.S.Session.state c.self.inside.conn) (g.S.Session.state c.stand_both.new.conn) c.self.inside.stage c.told.new.stage c.self.inside.limit
    c.stand_both.result c.told.result (pair_cancelled c.args.earlier c.args.later (content_in (g.S.Session.state c.self.inside.conn).now)) (ap (λ k. k.stage) c.self.view_is ∙ c.requires.stage) c.self.invariant.0 c.stand_both.ensures.write c.told.ensures
    (λ clean is_open has desk.
    let old = g.S.Session.state c.self.inside.conn in
    let can0 = (subst (λ (k : Kept _). HasCleanDisk (g.S.Session.state k.connection) → IsTrue (g.S.Session.state k.connection).is_open → CanCancelPair (content_in (g.S.Session.state k.connection).now) c.args.earlier c.args.later) (sym c.self.view_is) c.requires.fits
    (was_clean _ _ c.stand_both.ensures.write.later clean) is_open) in
    cancel_call old.now old (g.S.Session.state c.stand_both.new.conn) c.args.earlier c.args.later desk can0 c.stand_both.result (c.stand_both.ensures.write.ok clean is_open has) (c.stand_both.ensures.changed clean is_open has desk.standings)))

pub returns-clause-change : goal.returns-clause-change
returns-clause-change g c =
    let old = g.S.Session.state c.self.inside.conn in
    let new = g.S.Session.state c.stand_both.new.conn in
    let begun = ap (λ k. k.stage) c.self.view_is ∙ c.requires.stage in
    let can = subst (λ (k : Kept _). HasCleanDisk (g.S.Session.state k.connection) → IsTrue (g.S.Session.state k.connection).is_open → CanCancelPair (content_in (g.S.Session.state k.connection).now) c.args.earlier c.args.later) (sym c.self.view_is) c.requires.fits in
    let was = was_clean old new c.stand_both.ensures.write.later in
    subst (λ (k : Kept _). IsChange c.told.result (shown (g.S.Session.state k.connection) k.stage k.room) (shown new c.told.new.stage c.self.inside.limit)) c.self.view_is
    (write_said old new c.self.inside.stage c.told.new.stage c.self.inside.limit c.stand_both.result c.told.result begun c.self.invariant.0 c.self.invariant.1.unlimited c.stand_both.ensures.write
    (λ clean is_open has desk.
    let can0 = can (was clean) is_open in
    c.stand_both.ensures.blame clean is_open has (cancel_stands old.now desk c.args.earlier c.args.later can0) (above old.now desk c.args.earlier can0.earlier can0.pair.is_earlier) can0.two (below old.now desk c.args.later can0.later can0.pair.is_later)) c.told.ensures)

use Rattle.std.proofs.Common.{◌≡◌, OnOk, ap, ◌∙◌, subst, sym, IsTrue}
use Rattle.sqlite.specs.State.{HasCleanDisk}
use Rattle.desk_register.specs.Changes.{CanSend, with_sent}
use Rattle.desk_register.specs.View.{IsChange}
use Rattle.sql_register.proofs.ChangeLemmas.{told_content, write_said}
use Rattle.sql_register.specs.Content.{content_in}
use Rattle.sql_register.specs.Kept.{Kept, shown}
use Rattle.sql_register.proofs.KeptLemmas.{holds_changed}
use Rattle.sql_register.proofs.SentContent.{message_sent, sent_fits}
use Rattle.sql_register.proofs.ReadLemmas.{was_clean}
use Rattle.sql_register.proofs.calls.SqlRegisterRegister.send.Goals as goal

pub invariant_of-self : goal.invariant_of-self
invariant_of-self g c =
    holds_changed (g.S.Session.state c.self.inside.conn) (g.S.Session.state c.add_sent.new.conn) c.self.inside.stage c.told.new.stage c.self.inside.limit
    c.add_sent.result c.told.result (with_sent c.args.message (content_in (g.S.Session.state c.self.inside.conn).now)) (ap (λ k. k.stage) c.self.view_is ∙ c.requires.stage) c.self.invariant c.add_sent.ensures.write c.told.ensures
    (λ clean is_open has desk. message_sent (g.S.Session.state c.self.inside.conn) (g.S.Session.state c.add_sent.new.conn) c.args.message c.add_sent.result desk c.sendable.ensures (c.add_sent.ensures.write.ok clean is_open has)
    (c.add_sent.ensures.added clean is_open has (content_in (g.S.Session.state c.self.inside.conn).now).sent desk.sent))

pub returns-clause-sent : goal.returns-clause-sent
returns-clause-sent g c =
    subst (λ (k : Kept _). HasCleanDisk (g.S.Session.state c.add_sent.new.conn) → IsTrue (g.S.Session.state k.connection).is_open
    → OnOk c.told.result (content_in (g.S.Session.state c.add_sent.new.conn).now ≡ with_sent c.args.message (content_in (g.S.Session.state k.connection).now))) c.self.view_is
    (told_content (g.S.Session.state c.self.inside.conn) (g.S.Session.state c.add_sent.new.conn) c.self.inside.stage c.told.new.stage c.self.inside.limit
    c.add_sent.result c.told.result (with_sent c.args.message (content_in (g.S.Session.state c.self.inside.conn).now)) (ap (λ k. k.stage) c.self.view_is ∙ c.requires.stage) c.self.invariant.0 c.add_sent.ensures.write c.told.ensures
    (λ clean is_open has desk. message_sent (g.S.Session.state c.self.inside.conn) (g.S.Session.state c.add_sent.new.conn) c.args.message c.add_sent.result desk c.sendable.ensures (c.add_sent.ensures.write.ok clean is_open has)
    (c.add_sent.ensures.added clean is_open has (content_in (g.S.Session.state c.self.inside.conn).now).sent desk.sent)))

pub returns-clause-change : goal.returns-clause-change
returns-clause-change g c =
    let old = g.S.Session.state c.self.inside.conn in
    let new = g.S.Session.state c.add_sent.new.conn in
    let begun = ap (λ k. k.stage) c.self.view_is ∙ c.requires.stage in
    let can = subst (λ (k : Kept _). HasCleanDisk (g.S.Session.state k.connection) → IsTrue (g.S.Session.state k.connection).is_open → CanSend (content_in (g.S.Session.state k.connection).now)) (sym c.self.view_is) c.requires.fits in
    let was = was_clean old new c.add_sent.ensures.write.later in
    subst (λ (k : Kept _). IsChange c.told.result (shown (g.S.Session.state k.connection) k.stage k.room) (shown new c.told.new.stage c.self.inside.limit)) c.self.view_is
    (write_said old new c.self.inside.stage c.told.new.stage c.self.inside.limit c.add_sent.result c.told.result begun c.self.invariant.0 c.self.invariant.1.unlimited c.add_sent.ensures.write
    (λ clean is_open has desk.
    let sent = (content_in old.now).sent in
    c.add_sent.ensures.blame clean is_open has sent desk.sent (sent_fits sent (can (was clean) is_open))) c.told.ensures)

use Rattle.std.proofs.Common.{◌≡◌, ◌≢◌, IfOk, IsTrue, subst}
use Rattle.sqlite.specs.State.{HasCleanDisk}
use Rattle.desk_register.specs.declared.register.Stage.TheVariants.{Failed}
use Rattle.desk_register.specs.View.{IsRead}
use Rattle.sql_register.specs.Content.{content_in}
use Rattle.sql_register.specs.Kept.{Kept, shown}
use Rattle.sql_register.proofs.KeptLemmas.{holds_told}
use Rattle.sql_register.proofs.ReadLemmas.{read_told, value_told}
use Rattle.sql_register.proofs.calls.SqlRegisterRegister.cash.Goals as goal

pub returns-clause-read : goal.returns-clause-read
returns-clause-read g c =
    subst (λ (k : Kept _). IsRead c.told.result (shown (g.S.Session.state k.connection) k.stage k.room) (shown (g.S.Session.state c.recorded.new.conn) c.told.new.stage c.self.inside.limit)) c.self.view_is
    (read_told (g.S.Session.state c.self.inside.conn) (g.S.Session.state c.recorded.new.conn) c.self.inside.stage c.told.new.stage c.self.inside.limit
    c.recorded.result c.told.result c.self.invariant.0 c.self.invariant.1.unlimited c.recorded.ensures.look (λ clean is_open has desk. c.recorded.ensures.blame clean is_open has desk.amounts) c.told.ensures)

pub invariant_of-self : goal.invariant_of-self
invariant_of-self g c =
    holds_told (g.S.Session.state c.self.inside.conn) (g.S.Session.state c.recorded.new.conn) c.self.inside.stage c.told.new.stage c.self.inside.limit
    c.recorded.result c.told.result c.self.invariant c.recorded.ensures.look c.told.ensures

pub returns-clause-value : goal.returns-clause-value
returns-clause-value g c =
    subst (λ (k : Kept _). HasCleanDisk (g.S.Session.state c.recorded.new.conn) → IsTrue (g.S.Session.state k.connection).is_open → k.stage ≢ Failed → IfOk c.told.result (λ r. r ≡ (content_in (g.S.Session.state k.connection).now).cash c.args.bic c.args.ccy)) c.self.view_is
    (λ clean is_open goes. value_told (g.S.Session.state c.self.inside.conn) (g.S.Session.state c.recorded.new.conn) c.self.inside.stage c.told.new.stage c.self.inside.limit
    (λ r. r ≡ (content_in (g.S.Session.state c.self.inside.conn).now).cash c.args.bic c.args.ccy) c.recorded.result c.told.result c.self.invariant.0 c.recorded.ensures.look.later
    (λ clean is_open has desk. c.recorded.ensures.value clean is_open has desk.amounts) c.told.ensures clean is_open goes)

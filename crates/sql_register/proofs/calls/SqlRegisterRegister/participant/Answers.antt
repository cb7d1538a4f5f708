use Rattle.std.proofs.Common.{subst}
use Rattle.desk_register.specs.View.{IsRead}
use Rattle.sql_register.specs.Content.{content_in}
use Rattle.sql_register.specs.Kept.{Kept, shown}
use Rattle.sql_register.proofs.KeptLemmas.{holds_told}
use Rattle.sql_register.proofs.ReadLemmas.{read_told}
use Rattle.sql_register.proofs.calls.SqlRegisterRegister.participant.Goals as goal

pub returns-clause-read : goal.returns-clause-read
returns-clause-read g c =
    subst (λ (k : Kept _). IsRead c.told.result (shown (g.S.Session.state k.connection) k.stage k.room) (shown (g.S.Session.state c.is_participant.new.conn) c.told.new.stage c.self.inside.limit)) c.self.view_is
    (read_told (g.S.Session.state c.self.inside.conn) (g.S.Session.state c.is_participant.new.conn) c.self.inside.stage c.told.new.stage c.self.inside.limit
    c.is_participant.result c.told.result c.self.invariant.0 c.self.invariant.1.unlimited c.is_participant.ensures.look (λ clean is_open has desk. c.is_participant.ensures.blame clean is_open has (content_in (g.S.Session.state c.self.inside.conn).now).register desk.entries) c.told.ensures)

pub invariant_of-self : goal.invariant_of-self
invariant_of-self g c =
    holds_told (g.S.Session.state c.self.inside.conn) (g.S.Session.state c.is_participant.new.conn) c.self.inside.stage c.told.new.stage c.self.inside.limit
    c.is_participant.result c.told.result c.self.invariant c.is_participant.ensures.look c.told.ensures

use Rattle.sql_register.proofs.StageLemmas.{back_desk, failed_desk}
use Rattle.sql_register.proofs.KeptLemmas.{bounded_later}
use Rattle.sql_register.proofs.ReadLemmas.{was_clean}
use Rattle.sql_register.proofs.calls.SqlRegisterRegister.back.Goals as goal

pub invariant_of-self-in-Err : goal.invariant_of-self-in-Err
invariant_of-self-in-Err g c = (
  λ clean is_open. failed_desk (g.S.Session.state c.self.inside.conn) (g.S.Session.state c.take_back.new.conn) c.self.inside.stage
      (c.self.invariant.0 (was_clean _ _ c.take_back.ensures.later clean) (c.take_back.ensures.opened clean is_open)) (c.in-Err.ensures.err clean is_open),
  bounded_later (g.S.Session.state c.self.inside.conn) (g.S.Session.state c.take_back.new.conn) c.self.inside.limit c.self.invariant.1 c.take_back.ensures.later,
)

pub invariant_of-self : goal.invariant_of-self
invariant_of-self g c = (
  λ clean is_open.
      let back = c.in-Ok.ensures.back clean in
      back_desk (g.S.Session.state c.self.inside.conn) (g.S.Session.state c.take_back.new.conn) c.self.inside.stage
      (c.self.invariant.0 (was_clean _ _ c.take_back.ensures.later clean) back.was_open) back,
  bounded_later (g.S.Session.state c.self.inside.conn) (g.S.Session.state c.take_back.new.conn) c.self.inside.limit c.self.invariant.1 c.take_back.ensures.later,
)

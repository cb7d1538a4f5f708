use Rattle.desk_old.proofs.OldLemmas.{says_neither}
use Rattle.desk_old.proofs.reading.refusal.Goals as goal

pub returns-in-Ok-clause-other : goal.returns-in-Ok-clause-other
returns-in-Ok-clause-other g c = λ clean is. says_neither g.S.Session.state (g.S.Session.state c.args.conn.now).now c.in-Ok.said (c.in-Ok.ensures.said clean) (c.refused_for.ensures.other is)

pub returns-in-Ok-clause-blame : goal.returns-in-Ok-clause-blame
returns-in-Ok-clause-blame g c clean is_open outside unlimited = λ named. absurd (c.refused_for.ensures.refuses named)

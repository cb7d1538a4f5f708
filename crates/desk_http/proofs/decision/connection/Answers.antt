use Rattle.std.proofs.Common.{[], append-nil}
use Rattle.desk_http.proofs.decision.connection.Goals as goal

pub returns-in-Asks : goal.returns-in-Asks
returns-in-Asks c = rw (← c.request.ensures, append-nil c.args.stream.now) at (c.in-Asks.ensures.1 [])

pub returns-in-Refuses : goal.returns-in-Refuses
returns-in-Refuses c = rw (append-nil c.args.stream.now) at (c.in-Refuses.ensures [])

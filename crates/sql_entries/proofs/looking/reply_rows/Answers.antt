use Rattle.sql_entries.proofs.TextLemmas.{replies}
use Rattle.sql_entries.proofs.EffectLemmas.{reply_answers}
use Rattle.sql_entries.proofs.CauseLemmas.{reply_caused}
use Rattle.sql_entries.proofs.looking.reply_rows.Goals as goal

pub query-requires : goal.query-requires
query-requires g c = record { query = replies }

pub returns-clause-shown : goal.returns-clause-shown
returns-clause-shown g c clean is_open has register are =
    reply_answers (g.S.Session.state c.args.conn.now) (g.S.Session.state c.query.new.conn) register has are c.args.number c.query.result (rw c.integer.ensures at (c.query.ensures.shown clean))

pub returns-clause-blame : goal.returns-clause-blame
returns-clause-blame g c clean is_open has =
    reply_caused (g.S.Session.state c.args.conn.now) (g.S.Session.state c.query.new.conn) has is_open c.args.number c.query.result (rw c.integer.ensures at (c.query.ensures.fails clean))

use Rattle.sql_entries.proofs.TextLemmas.{lasts}
use Rattle.sql_entries.proofs.EffectLemmas.{count_answers}
use Rattle.sql_entries.proofs.CauseLemmas.{last_caused}
use Rattle.sql_entries.proofs.looking.last_rows.Goals as goal

pub query-requires : goal.query-requires
query-requires g c = record { query = lasts }

pub returns-clause-shown : goal.returns-clause-shown
returns-clause-shown g c clean is_open has register are = count_answers (g.S.Session.state c.args.conn.now) (g.S.Session.state c.query.new.conn) register has are c.query.result (c.query.ensures.shown clean)

pub returns-clause-blame : goal.returns-clause-blame
returns-clause-blame g c clean is_open has =
    last_caused (g.S.Session.state c.args.conn.now) (g.S.Session.state c.query.new.conn) has is_open c.query.result (c.query.ensures.fails clean)

use Rattle.std.proofs.Common.{[], refl}
use Rattle.sql_entries.proofs.FindingTexts.{finds_first_security, first_security_whole}
use Rattle.sql_entries.proofs.SecurityLemmas.{first_security_shown}
use Rattle.sql_entries.proofs.CauseLemmas.{finds_caused}
use Rattle.sql_entries.proofs.texts.first_security.Goals as goal

pub query-requires : goal.query-requires
query-requires g c = record { query = finds_first_security.query }

pub returns-clause-shown : goal.returns-clause-shown
returns-clause-shown g c clean is_open has register are =
    first_security_shown (g.S.Session.state c.args.conn.now) (g.S.Session.state c.query.new.conn) has register are c.query.result
    (c.query.ensures.shown clean)

pub returns-clause-blame : goal.returns-clause-blame
returns-clause-blame g c clean is_open has =
    finds_caused (g.S.Session.state c.args.conn.now) (g.S.Session.state c.query.new.conn) has is_open finds_first_security [] first_security_whole refl c.query.result
    (c.query.ensures.fails clean)

use Rattle.std.proofs.Common.{[], refl}
use Rattle.sql_entries.proofs.FindingTexts.{finds_last_run, last_run_whole}
use Rattle.sql_entries.proofs.LookLemmas.{last_run_days, last_run_shown}
use Rattle.sql_entries.proofs.CauseLemmas.{finds_caused}
use Rattle.sql_entries.proofs.texts.last_run_day.Goals as goal

pub query-requires : goal.query-requires
query-requires g c = record { query = finds_last_run.query }

pub returns-clause-shown : goal.returns-clause-shown
returns-clause-shown g c clean is_open has register are =
    last_run_shown (g.S.Session.state c.args.conn.now) (g.S.Session.state c.query.new.conn) has register are c.query.result
    (c.query.ensures.shown clean)

pub returns-clause-days : goal.returns-clause-days
returns-clause-days g c clean is_open has register are formed =
    last_run_days (g.S.Session.state c.args.conn.now) (g.S.Session.state c.query.new.conn) has register are formed c.query.result
    (c.query.ensures.shown clean)

pub returns-clause-blame : goal.returns-clause-blame
returns-clause-blame g c clean is_open has =
    finds_caused (g.S.Session.state c.args.conn.now) (g.S.Session.state c.query.new.conn) has is_open finds_last_run [] last_run_whole refl c.query.result
    (c.query.ensures.fails clean)

use Rattle.sql_rows.proofs.SentComparedRows.{row_shown, row_told}
use Rattle.sql_rows.proofs.sent.compared.rows.has_row.Goals as goal

pub returns-clause-row : goal.returns-clause-row
returns-clause-row g c clean is_open has formed =
    row_told ((g.S.Session.state c.args.conn.now).now.trees 9) c.args.number c.args.message.now c.deref.result.now c.in_ok-rows.rows.items c.is_row_of.result (c.in_ok-rows.ensures.shown clean is_open has) c.deref.ensures.value c.is_row_of.ensures.0 formed

pub returns-clause-exact : goal.returns-clause-exact
returns-clause-exact g c clean is_open has =
    row_shown ((g.S.Session.state c.args.conn.now).now.trees 9) c.args.number c.args.message.now c.deref.result.now c.in_ok-rows.rows.items c.is_row_of.result (c.in_ok-rows.ensures.shown clean is_open has) c.deref.ensures.value c.is_row_of.ensures.1

use Rattle.std.proofs.Common.{refl}
use Rattle.desk_rules.specs.declared.history.entry.Instructed.{Instructed}
use Rattle.sql_entries.specs.Opposites.{asked_for}
use Rattle.sql_entries.proofs.FindingTexts.{finds_opposite, opposite_whole}
use Rattle.sql_entries.proofs.OppositeLemmas.{opposite_shown}
use Rattle.sql_entries.proofs.CauseLemmas.{finds_caused}
use Rattle.sql_entries.proofs.texts.opposite_above.Goals as goal

pub query-requires : goal.query-requires
query-requires g c = record { query = finds_opposite.query }

pub returns-clause-shown : goal.returns-clause-shown
returns-clause-shown g c clean is_open has register are =
    let i : Instructed = record { sender = c.args.sender; instruction = c.args.instruction.now } in
    opposite_shown (g.S.Session.state c.args.conn.now) (g.S.Session.state c.query.new.conn) has register are i c.args.after c.query.result
    (rw c.values_asked-asked.ensures at (c.query.ensures.shown clean))

pub returns-clause-blame : goal.returns-clause-blame
returns-clause-blame g c clean is_open has =
    let i : Instructed = record { sender = c.args.sender; instruction = c.args.instruction.now } in
    finds_caused (g.S.Session.state c.args.conn.now) (g.S.Session.state c.query.new.conn) has is_open finds_opposite (asked_for i c.args.after) opposite_whole refl c.query.result
    (rw c.values_asked-asked.ensures at (c.query.ensures.fails clean))

use Rattle.std.proofs.Common.{[], ◌∷◌, refl}
use Rattle.sqlite.specs.declared.types.Value.TheVariants.{Text as Words}
use Rattle.sql_entries.proofs.FindingTexts.{finds_entry_of_participant, entry_of_participant_whole}
use Rattle.sql_entries.proofs.LookLemmas.{participants_number}
use Rattle.sql_entries.proofs.CauseLemmas.{finds_caused}
use Rattle.sql_entries.proofs.texts.entry_of_participant.Goals as goal

pub query-requires : goal.query-requires
query-requires g c = record { query = finds_entry_of_participant.query }

pub returns-clause-shown : goal.returns-clause-shown
returns-clause-shown g c clean is_open has register are =
    participants_number (g.S.Session.state c.args.conn.now) (g.S.Session.state c.query.new.conn) has register are c.args.sender c.args.reference c.as_bytes.ensures.bic c.query.result
    (rw (c.as_bytes.ensures.bytes, c.as_bytes-2.ensures.bytes) at (c.query.ensures.shown clean))

pub returns-clause-blame : goal.returns-clause-blame
returns-clause-blame g c clean is_open has =
    finds_caused (g.S.Session.state c.args.conn.now) (g.S.Session.state c.query.new.conn) has is_open finds_entry_of_participant (Words c.args.sender ∷ Words c.args.reference ∷ []) entry_of_participant_whole refl c.query.result
    (rw (c.as_bytes.ensures.bytes, c.as_bytes-2.ensures.bytes) at (c.query.ensures.fails clean))

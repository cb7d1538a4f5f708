use Rattle.std.proofs.Common.{◌≡◌, ◌+◌, ◌<◌, ◌^◌, ℕ, pos, length, ◌∙◌, arith, ap}
use Rattle.std.specs.Int.{w64, cast_signed}
use Rattle.std.proofs.lemmas.Int.{to_z_pos}
use Rattle.sql_rows.proofs.SentMeanings.{insert_text, insert_edit}
use Rattle.sql_tables.proofs.ResultLemmas.{on_done}
use Rattle.sql_rows.proofs.InsertLemmas.{adds, message_params}
use Rattle.sql_rows.proofs.SentCauses.{message_caused}
use Rattle.sql_rows.proofs.sent.messages.insert.Goals as goal

-- a number that is positive to SQL too
seen : (n m : ℕ) → n ≡ m → m < 2 ^ 63 → cast_signed w64 n ≡ pos m
seen n m same low = ap (cast_signed w64) same ∙ to_z_pos w64 m low

pub execute-requires : goal.execute-requires
execute-requires g c = record { edit = insert_edit }

pub returns-clause-added : goal.returns-clause-added
returns-clause-added g c clean is_open has messages are number =
    let m = c.args.message.now in
    let fits : m.about < 2 ^ 64 = omega arith in
    let few : length messages + 1 < 2 ^ 63 = omega (arith, number, c.requires) in
    let short : m.mt < 2 ^ 63 = omega arith in
    let old = g.S.Session.state c.args.conn.now in
    let new = g.S.Session.state c.execute.new.conn in
    on_done insert_text (message_params (length messages + 1) m) old new c.execute.result (λ count h. adds old new has messages m count are fits few h)
    (rw (c.integer.ensures, c.as_bytes.ensures.bytes, c.integer-2.ensures, c.from.ensures, c.integer-3.ensures, c.as_bytes-2.ensures, seen c.args.number (length messages + 1) number few, to_z_pos w64 m.mt short) at (c.execute.ensures.runs clean))

pub returns-clause-blame : goal.returns-clause-blame
returns-clause-blame g c clean is_open has messages are number =
    let m = c.args.message.now in
    let few : length messages + 1 < 2 ^ 63 = omega (arith, number, c.requires) in
    let short : m.mt < 2 ^ 63 = omega arith in
    message_caused (g.S.Session.state c.args.conn.now) (g.S.Session.state c.execute.new.conn) has is_open (c.execute.ensures.obeyed is_open) messages m are c.execute.result
    (rw (c.integer.ensures, c.as_bytes.ensures.bytes, c.integer-2.ensures, c.from.ensures, c.integer-3.ensures, c.as_bytes-2.ensures, seen c.args.number (length messages + 1) number few, to_z_pos w64 m.mt short) at (c.execute.ensures.runs clean))

use Rattle.std.proofs.Common.{arith, ◌<◌, Ok, Err, Result, OnOk, ◌≡◌, ℕ, ◌+◌, length, sym, subst}
use Rattle.sqlite.specs.State.{State, HasCleanDisk}
use Rattle.sqlite.specs.declared.error.Error.{Error}
use Rattle.desk_register.specs.Changes.{CanAppend, appended, standing_at}
use Rattle.desk_rules.specs.declared.history.entry.Entry.{Entry}
use Rattle.desk_rules.specs.declared.history.entry.Entry.TheVariants.{Instruct}
use Rattle.desk_rules.specs.declared.history.entry.Instructed.{Instructed}
use Rattle.desk_rules.specs.declared.answers.reply.Reply.{Reply}
use Rattle.sql_rows.specs.Standings.{StandingsChanged, fresh_standing, standing_in}
use Rattle.sql_tables.specs.Ends.{ForCause, Stays}
use Rattle.sql_tables.proofs.CallLemmas.{write_then}
use Rattle.sql_tables.proofs.ResultLemmas.{on_error}
use Rattle.sql_register.specs.Appending.{RowAdded}
use Rattle.sql_register.specs.Content.{content_in}
use Rattle.sql_register.specs.Holds.{Becomes, IsDesk}
use Rattle.sql_register.proofs.AppendedInstruction.{instructed_becomes, instructed_none, instructed_standings}
use Rattle.sql_register.proofs.AppendedRow.{row_added}
use Rattle.sql_register.proofs.CauseLemmas.{caused_from, wrote}
use Rattle.sql_register.proofs.FailedLemmas.{not_done, write_handed}
use Rattle.sql_register.proofs.ReadLemmas.{was_clean}
use Rattle.sql_register.proofs.appending.append.Goals as goal

becomes : (old d1 new : State) (e : Entry) (i : Instructed) (reply : Reply) (room n : ℕ) (r : Result (Unit {0}) Error) → IsDesk old.now → e ≡ Instruct i.sender i.instruction → CanAppend room e reply (content_in old.now)
    → RowAdded old.now d1.now (content_in old.now).register e reply → n ≡ length (content_in old.now).register + 1
    → OnOk r (Stays d1 new) → OnOk r (StandingsChanged d1.now new.now (standing_at (standing_in d1.now) n fresh_standing)) → OnOk r (Becomes new.now (appended e reply (content_in old.now)))
becomes old d1 new e i reply room n (Ok tt) desk is can added at stays stood = instructed_becomes old.now d1.now e i reply room desk is can added n at new.now stood stays.schema
becomes old d1 new e i reply room n (Err f) desk is can added at stays stood = tt

pub returns-in_ok-number-in-Instruct-clause-changed : goal.returns-in_ok-number-in-Instruct-clause-changed
returns-in_ok-number-in-Instruct-clause-changed g c clean is_open has desk room can =
    let s0 = g.S.Session.state c.args.conn.now in
    let s1 = g.S.Session.state c.add_row.new.conn in
    let register = (content_in s0.now).register in
    let e = c.args.entry.now in
    let i : Instructed = record { sender = c.in-Instruct.sender; instruction = c.in-Instruct.instruction } in
    let reply = c.args.reply.now in
    let n = c.in_ok-number-in-Instruct.number in
    let clean1 : HasCleanDisk s1 = was_clean _ _ c.add_standing.ensures.write.later clean in
    let stays1 = c.in_ok-number-in-Instruct.ensures.write.ok clean1 is_open has in
    let both = c.in_ok-number-in-Instruct.ensures.added clean1 is_open has register desk.entries in
    let added = row_added s0.now s1.now register e reply n both c.in_ok-number-in-Instruct.ensures.within c.in_ok-number-in-Instruct.ensures.formed c.in_ok-number-in-Instruct.ensures.short in
    let stood = c.add_standing.ensures.changed clean stays1.is_open stays1.schema (instructed_standings s0.now s1.now e i reply room desk c.in-Instruct.is can added) in
    becomes s0 s1 (g.S.Session.state c.add_standing.new.conn) e i reply room n c.add_standing.result desk c.in-Instruct.is can added both.0 (c.add_standing.ensures.write.ok clean stays1.is_open stays1.schema) stood

pub returns-in_ok-number-in-Instruct-clause-write : goal.returns-in_ok-number-in-Instruct-clause-write
returns-in_ok-number-in-Instruct-clause-write g c =
    write_then c.in_ok-number-in-Instruct.number c.add_standing.result (g.S.Session.state c.args.conn.now) (g.S.Session.state c.add_row.new.conn) (g.S.Session.state c.add_standing.new.conn) c.in_ok-number-in-Instruct.ensures.write c.add_standing.ensures.write

pub returns-in_ok-number-in-Instruct-clause-blame : goal.returns-in_ok-number-in-Instruct-clause-blame
returns-in_ok-number-in-Instruct-clause-blame g c clean is_open has desk room small can =
    let s0 = g.S.Session.state c.args.conn.now in
    let s1 = g.S.Session.state c.add_row.new.conn in
    let s2 = g.S.Session.state c.add_standing.new.conn in
    let register = (content_in s0.now).register in
    let e = c.args.entry.now in
    let i : Instructed = record { sender = c.in-Instruct.sender; instruction = c.in-Instruct.instruction } in
    let reply = c.args.reply.now in
    let n = c.in_ok-number-in-Instruct.number in
    let Row : Type 0 = (n ≡ length register + 1) × RowAdded s0.now s1.now register e reply in
    let first = wrote n s0 s1 Row c.in_ok-number-in-Instruct.ensures.write (λ clean1 open0 has0.
    let both = c.in_ok-number-in-Instruct.ensures.added clean1 open0 has0 register desk.entries in
    (both.0, row_added s0.now s1.now register e reply n both c.in_ok-number-in-Instruct.ensures.within c.in_ok-number-in-Instruct.ensures.formed c.in_ok-number-in-Instruct.ensures.short)) in
    caused_from c.add_standing.result s0 s1 s2 Row c.in_ok-number-in-Instruct.ensures.write.later c.add_standing.ensures.write.later first
    (λ clean2 open1 has1 it. c.add_standing.ensures.blame clean2 open1 has1 (instructed_standings s0.now s1.now e i reply room desk c.in-Instruct.is can it.1)
    (instructed_none s0.now s1.now e i reply room desk c.in-Instruct.is can it.1 n it.0)) clean is_open has

pub returns-in-Cancel-clause-changed : goal.returns-in-Cancel-clause-changed
returns-in-Cancel-clause-changed g c clean is_open has desk room can =
    let before = content_in (g.S.Session.state c.args.conn.now).now in
    subst (λ e. OnOk c.append_cancel.result (Becomes (g.S.Session.state c.append_cancel.new.conn).now (appended e c.args.reply.now before))) (sym c.in-Cancel.is)
    (c.append_cancel.ensures.changed clean is_open has desk room (subst (λ e. CanAppend room e c.args.reply.now before) c.in-Cancel.is can))

pub returns-in-Cancel-clause-blame : goal.returns-in-Cancel-clause-blame
returns-in-Cancel-clause-blame g c clean is_open has desk room small can =
    let before = content_in (g.S.Session.state c.args.conn.now).now in
    c.append_cancel.ensures.blame clean is_open has desk room small (subst (λ e. CanAppend room e c.args.reply.now before) c.in-Cancel.is can)

pub returns-in-Cancel-clause-write : goal.returns-in-Cancel-clause-write
returns-in-Cancel-clause-write g c = c.append_cancel.ensures.write

pub returns-in_err-number-in-Instruct-clause-changed : goal.returns-in_err-number-in-Instruct-clause-changed
returns-in_err-number-in-Instruct-clause-changed g c clean is_open has desk room can = not_done c.from_residual.result c.in_err-number-in-Instruct.field-0.0 c.from_residual.ensures.1 _

pub returns-in_err-number-in-Instruct-clause-write : goal.returns-in_err-number-in-Instruct-clause-write
returns-in_err-number-in-Instruct-clause-write g c =
    write_handed c.from_residual.result c.in_err-number-in-Instruct.field-0.0 c.from_residual.ensures.1 ℕ (g.S.Session.state c.args.conn.now) (g.S.Session.state c.add_row.new.conn) c.in_err-number-in-Instruct.ensures.write

pub returns-in_err-number-in-Instruct-clause-blame : goal.returns-in_err-number-in-Instruct-clause-blame
returns-in_err-number-in-Instruct-clause-blame g c clean is_open has desk room small can =
    let s0 = g.S.Session.state c.args.conn.now in
    let has_room = can.has_room in
    let fits : length (content_in s0.now).register + 1 < 1_000_000_000 = omega (arith, has_room, small) in
    on_error c.from_residual.result c.in_err-number-in-Instruct.field-0.0 (ForCause s0 (g.S.Session.state c.add_row.new.conn)) c.from_residual.ensures.1
    (c.in_err-number-in-Instruct.ensures.blame clean is_open has (content_in s0.now).register desk.entries fits desk.formed can.new_key)

pub returns-in-Participant-clause-write : goal.returns-in-Participant-clause-write
returns-in-Participant-clause-write g c = c.append_command.ensures.write

pub returns-in-Participant-clause-blame : goal.returns-in-Participant-clause-blame
returns-in-Participant-clause-blame g c = c.append_command.ensures.blame

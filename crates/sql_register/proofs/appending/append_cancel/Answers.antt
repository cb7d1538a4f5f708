use Rattle.std.proofs.Common.{Ok, Err, Result, OnOk, Option, Some, length, true, ◌≡◌, ◌∙◌, ℕ, List, ap, subst, sym, arith, ◌≢◌, ◌+◌, ◌<◌, refl}
use Rattle.sqlite.specs.Effect.{Database}
use Rattle.sqlite.specs.State.{State, HasCleanDisk}
use Rattle.sqlite.specs.declared.error.Error.{Error}
use Rattle.sql_register.specs.Appending.{RowAdded}
use Rattle.desk_msg.specs.declared.instruction.CancelOrder.{CancelOrder}
use Rattle.desk_register.specs.Changes.{CanAppend, appended, standing_at}
use Rattle.desk_rules.specs.declared.history.entry.Entry.TheVariants.{Cancel}
use Rattle.desk_rules.specs.declared.history.entry.Sender.TheVariants.{Participant as FromParticipant}
use Rattle.desk_rules.specs.declared.answers.reply.Reply.{Reply}
use Rattle.desk_rules.specs.Content.{history_of}
use Rattle.desk_rules.specs.History.{number_of_key}
use Rattle.sql_rows.specs.Standings.{StandingsChanged, standing_in, AreStandings}
use Rattle.sql_tables.specs.Ends.{Stays, ForCause}
use Rattle.sql_tables.proofs.CallLemmas.{look_write, write_then, later_then}
use Rattle.sql_register.specs.Content.{content_in}
use Rattle.sql_register.specs.Holds.{Becomes, IsDesk}
use Rattle.sql_register.proofs.AppendedCancellation.{cancel_becomes, cancel_standings, asked_stands, named_above, named_below, names_known}
use Rattle.sql_register.proofs.AppendedRow.{row_added}
use Rattle.desk_rules.specs.declared.history.standing.State.TheVariants.{NoInstruction}
use Rattle.sql_entries.specs.Entries.{AreEntries}
use Rattle.sql_tables.proofs.ResultLemmas.{no_error, on_error}
use Rattle.sql_register.proofs.CauseLemmas.{caused_error, caused_from, looked, wrote_then}
use Rattle.sql_register.proofs.FailedLemmas.{not_done, write_fell, write_handed}
use Rattle.sql_register.proofs.ReadLemmas.{was_clean}
use Rattle.sql_register.proofs.WalkLemmas.{look_as}
use Rattle.sql_register.proofs.appending.append_cancel.Goals as goal

becomes : (old d0 : Database) (d1 new : State) (sender : List ℕ) (order : CancelOrder) (reply : Reply) (room k : ℕ) (r : Result (Unit {0}) Error) → d0 ≡ old → (desk : IsDesk d0) → (can : CanAppend room (Cancel sender order) reply (content_in d0))
    → RowAdded d0 d1.now (content_in d0).register (Cancel sender order) reply → number_of_key (history_of (content_in d0)) (FromParticipant sender) order.previous ≡ Some k → OnOk r (Stays d1 new)
    → OnOk r (StandingsChanged d1.now new.now (standing_at (standing_in d1.now) k (record (standing_in d1.now k) { cancel_requested = true }))) → OnOk r (Becomes new.now (appended (Cancel sender order) reply (content_in old)))
becomes old d0 d1 new sender order reply room k (Ok tt) same desk can added is stays stood =
    subst (λ db. Becomes new.now (appended (Cancel sender order) reply (content_in db))) same (cancel_becomes d0 d1.now sender order reply room desk can added new.now k is stood stays.schema)
becomes old d0 d1 new sender order reply room k (Err e) same desk can added is stays stood = tt

pub returns-clause-changed : goal.returns-clause-changed
returns-clause-changed g c clean is_open has desk room can =
    let old = g.S.Session.state c.args.conn.now in
    let d0 = g.S.Session.state c.number_of.new.conn in
    let d1 = g.S.Session.state c.add_row.new.conn in
    let new = g.S.Session.state c.ask.new.conn in
    let sender = c.args.sender in
    let order = c.args.order.now in
    let reply = c.args.reply.now in
    let clean1 : HasCleanDisk d1 = was_clean _ _ c.ask.ensures.write.later clean in
    let clean0 : HasCleanDisk d0 = was_clean _ _ c.in_ok-add_row.ensures.write.later clean1 in
    let same = c.in_ok-number.ensures.look.ok clean0 is_open has in
    let found = c.in_ok-number.ensures.value clean0 is_open has (content_in old.now).register desk.entries in
    let desk0 : IsDesk d0.now = subst IsDesk (sym same.now) desk in
    let can0 : CanAppend room (Cancel sender order) reply (content_in d0.now) = subst (λ db. CanAppend room (Cancel sender order) reply (content_in db)) (sym same.now) can in
    let stays1 = c.in_ok-add_row.ensures.write.ok clean1 same.is_open desk0.schema in
    let added = row_added d0.now d1.now (content_in d0.now).register (Cancel sender order) reply c.in_ok-add_row.field-0 (c.in_ok-add_row.ensures.added clean1 same.is_open desk0.schema (content_in d0.now).register desk0.entries) c.in_ok-add_row.ensures.within c.in_ok-add_row.ensures.formed c.in_ok-add_row.ensures.short in
    let stood = c.ask.ensures.changed clean stays1.is_open stays1.schema (cancel_standings d0.now d1.now sender order reply room desk0 can0 added) in
    let named : number_of_key (history_of (content_in d0.now)) (FromParticipant sender) order.previous ≡ Some c.in_ok-named.named =
    ap (λ db. number_of_key (history_of (content_in db)) (FromParticipant sender) order.previous) same.now ∙ sym found ∙ c.in-Some.is ∙ ap Some (sym c.in_ok-named.ensures.same) in
    becomes old.now d0.now d1 new sender order reply room c.in_ok-named.named c.ask.result same.now desk0 can0 added named (c.ask.ensures.write.ok clean stays1.is_open stays1.schema) stood

pub returns-in_err-add_row-clause-write : goal.returns-in_err-add_row-clause-write
returns-in_err-add_row-clause-write g c =
    let old = g.S.Session.state c.args.conn.now in
    let d0 = g.S.Session.state c.number_of.new.conn in
    let d1 = g.S.Session.state c.add_row.new.conn in
    write_fell c.from_residual-in_err-add_row.result c.in_err-add_row.field-0.0 c.from_residual-in_err-add_row.ensures.1 ℕ c.in_ok-number.field-0 old d0 d1 (look_write (Ok c.in_ok-number.field-0) old d0 c.in_ok-number.ensures.look) c.in_err-add_row.ensures.write

pub returns-in_err-number-clause-changed : goal.returns-in_err-number-clause-changed
returns-in_err-number-clause-changed g c clean is_open has desk room can = not_done c.from_residual.result c.in_err-number.field-0.0 c.from_residual.ensures.1 _

pub returns-in_err-number-clause-write : goal.returns-in_err-number-clause-write
returns-in_err-number-clause-write g c =
    let old = g.S.Session.state c.args.conn.now in
    let d0 = g.S.Session.state c.number_of.new.conn in
    let e = c.in_err-number.field-0.0 in
    write_handed c.from_residual.result e c.from_residual.ensures.1 (Option ℕ) old d0 (look_write (Err e) old d0 c.in_err-number.ensures.look)

pub returns-in_default-clause-changed : goal.returns-in_default-clause-changed
returns-in_default-clause-changed g c clean is_open has desk room can = tt

pub returns-in_default-clause-write : goal.returns-in_default-clause-write
returns-in_default-clause-write g c =
    let old = g.S.Session.state c.args.conn.now in
    let d0 = g.S.Session.state c.number_of.new.conn in
    look_write _ old d0 (look_as c.in_ok-number.field-0 _ old d0 c.in_ok-number.ensures.look)

pub returns-in_err-named-clause-changed : goal.returns-in_err-named-clause-changed
returns-in_err-named-clause-changed g c clean is_open has desk room can = not_done c.from_residual-in_err-named.result c.in_err-named.field-0.0 c.from_residual-in_err-named.ensures.1 _

pub returns-in_err-named-clause-write : goal.returns-in_err-named-clause-write
returns-in_err-named-clause-write g c =
    let old = g.S.Session.state c.args.conn.now in
    let d0 = g.S.Session.state c.number_of.new.conn in
    let e = c.in_err-named.field-0.0 in
    write_handed c.from_residual-in_err-named.result e c.from_residual-in_err-named.ensures.1 (Unit {0}) old d0 (look_write (Err e) old d0 (look_as c.in_ok-number.field-0 e old d0 c.in_ok-number.ensures.look))

pub returns-in_err-add_row-clause-changed : goal.returns-in_err-add_row-clause-changed
returns-in_err-add_row-clause-changed g c clean is_open has desk room can = not_done c.from_residual-in_err-add_row.result c.in_err-add_row.field-0.0 c.from_residual-in_err-add_row.ensures.1 _

pub returns-clause-write : goal.returns-clause-write
returns-clause-write g c =
    let old = g.S.Session.state c.args.conn.now in
    let d0 = g.S.Session.state c.number_of.new.conn in
    let d1 = g.S.Session.state c.add_row.new.conn in
    let new = g.S.Session.state c.ask.new.conn in
    write_then c.in_ok-add_row.field-0 c.ask.result old d1 new (write_then c.in_ok-number.field-0 (Ok c.in_ok-add_row.field-0) old d0 d1 (look_write (Ok c.in_ok-number.field-0) old d0 c.in_ok-number.ensures.look) c.in_ok-add_row.ensures.write) c.ask.ensures.write

pub returns-in_err-number-clause-blame : goal.returns-in_err-number-clause-blame
returns-in_err-number-clause-blame g c clean is_open has desk room small can =
    let s0 = g.S.Session.state c.args.conn.now in
    let e = c.in_err-number.field-0.0 in
    on_error c.from_residual.result e (ForCause s0 (g.S.Session.state c.number_of.new.conn)) c.from_residual.ensures.1
    (c.in_err-number.ensures.blame clean is_open has (content_in s0.now).register desk.entries)

pub returns-in_default-clause-blame : goal.returns-in_default-clause-blame
returns-in_default-clause-blame g c clean is_open has desk room small can =
    let s0 = g.S.Session.state c.args.conn.now in
    let found = c.in_ok-number.ensures.value clean is_open has (content_in s0.now).register desk.entries in
    absurd (names_known s0.now c.args.sender c.args.order.now c.args.reply.now room desk can (sym found ∙ c.in_default.is))

pub returns-in_err-named-clause-blame : goal.returns-in_err-named-clause-blame
returns-in_err-named-clause-blame g c clean is_open has desk room small can =
    let s0 = g.S.Session.state c.args.conn.now in
    let d0 = g.S.Session.state c.number_of.new.conn in
    let e = c.in_err-named.field-0.0 in
    let found = c.in_ok-number.ensures.value clean is_open has (content_in s0.now).register desk.entries in
    let key = sym found ∙ c.in-Some.is in
    on_error c.from_residual-in_err-named.result e (ForCause s0 d0) c.from_residual-in_err-named.ensures.1
    (no_error {X = ℕ} (Err e) (ForCause s0 d0)
    (c.in_err-named.ensures.all (named_above s0.now c.args.sender c.args.order.now c.args.reply.now room desk can _ key) (named_below s0.now c.args.sender c.args.order.now c.args.reply.now room desk can _ key)))

pub returns-in_err-add_row-clause-blame : goal.returns-in_err-add_row-clause-blame
returns-in_err-add_row-clause-blame g c clean is_open has desk room small can =
    let s0 = g.S.Session.state c.args.conn.now in
    let d0 = g.S.Session.state c.number_of.new.conn in
    let d1 = g.S.Session.state c.add_row.new.conn in
    let register = (content_in s0.now).register in
    let e = c.in_err-add_row.field-0.0 in
    let has_room = can.has_room in
    let fits : length register + 1 < 1_000_000_000 = omega (arith, has_room, small) in
    on_error c.from_residual-in_err-add_row.result e (ForCause s0 d1) c.from_residual-in_err-add_row.ensures.1
    (caused_error e s0 d0 d1 (AreEntries d0.now register) c.in_ok-number.ensures.look.later c.in_err-add_row.ensures.write.later (looked _ s0 d0 (λ d. AreEntries d register) c.in_ok-number.ensures.look desk.entries)
    (λ clean1 open0 has0 are. c.in_err-add_row.ensures.blame clean1 open0 has0 register are fits desk.formed can.new_key) clean is_open has)

pub returns-clause-blame : goal.returns-clause-blame
returns-clause-blame g c clean is_open has desk room small can =
    let s0 = g.S.Session.state c.args.conn.now in
    let d0 = g.S.Session.state c.number_of.new.conn in
    let d1 = g.S.Session.state c.add_row.new.conn in
    let s3 = g.S.Session.state c.ask.new.conn in
    let sender = c.args.sender in
    let order = c.args.order.now in
    let reply = c.args.reply.now in
    let n = c.in_ok-named.named in
    let clean1 : HasCleanDisk d1 = was_clean _ _ c.ask.ensures.write.later clean in
    let clean0 : HasCleanDisk d0 = was_clean _ _ c.in_ok-add_row.ensures.write.later clean1 in
    let found = c.in_ok-number.ensures.value clean0 is_open has (content_in s0.now).register desk.entries in
    let key : number_of_key (history_of (content_in s0.now)) (FromParticipant sender) order.previous ≡ Some n = sym found ∙ c.in-Some.is ∙ ap Some (sym c.in_ok-named.ensures.same) in
    let Asks : Type 0 = AreStandings d1.now × ((standing_in d1.now n).state ≢ NoInstruction) in
    let first = looked _ s0 d0 (λ d. d ≡ s0.now) c.in_ok-number.ensures.look refl in
    let second = wrote_then c.in_ok-add_row.field-0 s0 d0 d1 (d0.now ≡ s0.now) Asks first c.in_ok-add_row.ensures.write (λ clean2 open1 has1 same.
    let desk0 : IsDesk d0.now = subst IsDesk (sym same) desk in
    let can0 : CanAppend room (Cancel sender order) reply (content_in d0.now) = subst (λ db. CanAppend room (Cancel sender order) reply (content_in db)) (sym same) can in
    let key0 : number_of_key (history_of (content_in d0.now)) (FromParticipant sender) order.previous ≡ Some n = ap (λ db. number_of_key (history_of (content_in db)) (FromParticipant sender) order.previous) same ∙ key in
    let added = row_added d0.now d1.now (content_in d0.now).register (Cancel sender order) reply c.in_ok-add_row.field-0 (c.in_ok-add_row.ensures.added clean2 open1 has1 (content_in d0.now).register desk0.entries) c.in_ok-add_row.ensures.within c.in_ok-add_row.ensures.formed c.in_ok-add_row.ensures.short in
    (cancel_standings d0.now d1.now sender order reply room desk0 can0 added, asked_stands d0.now d1.now sender order reply room desk0 can0 added n key0)) in
    caused_from c.ask.result s0 d1 s3 Asks (later_then s0 d0 d1 c.in_ok-number.ensures.look.later c.in_ok-add_row.ensures.write.later) c.ask.ensures.write.later second
    (λ clean3 open2 has2 it. c.ask.ensures.blame clean3 open2 has2 it.0 it.1) clean is_open has

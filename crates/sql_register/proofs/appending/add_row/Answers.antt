use Rattle.std.proofs.Common.{Err, Ok, ℕ, ◌≡◌, ◌+◌, ◌∙◌, ap, length, arith, refl, subst, sym}
use Rattle.sqlite.specs.Effect.{Database}
use Rattle.sqlite.specs.State.{HasCleanDisk}
use Rattle.sql_entries.specs.Entries.{AreEntries, EntryAdded}
use Rattle.sql_tables.specs.Ends.{ForCause}
use Rattle.sql_tables.proofs.CallLemmas.{look_write, write_ok, write_then}
use Rattle.sql_tables.proofs.ResultLemmas.{on_error, no_error}
use Rattle.sql_register.proofs.CauseLemmas.{caused_error, looked, number_fits}
use Rattle.sql_register.proofs.FailedLemmas.{no_value, write_fell, write_handed, write_none}
use Rattle.sql_register.proofs.ReadLemmas.{was_clean}
use Rattle.sql_register.proofs.appending.add_row.Goals as goal

pub returns-in_err-number-clause-blame : goal.returns-in_err-number-clause-blame
returns-in_err-number-clause-blame g c clean is_open has register are fits formed unused =
    let count = c.in_ok-count.ensures.value clean is_open has register are in
    absurd (no_error {X = ℕ} (Err c.in_err-number.field-0.0) (λ e. ⊥) (c.in_err-number.ensures.all (omega (arith, count, fits))))

pub returns-in_err-add_entry-clause-blame : goal.returns-in_err-add_entry-clause-blame
returns-in_err-add_entry-clause-blame g c clean is_open has register are fits formed unused =
    let s0 = g.S.Session.state c.args.conn.now in
    let s1 = g.S.Session.state c.entry_count.new.conn in
    let s2 = g.S.Session.state c.add_entry.new.conn in
    let e = c.in_err-add_entry.field-0.0 in
    let clean1 : HasCleanDisk s1 = was_clean _ _ c.in_err-add_entry.ensures.write.later clean in
    let count : c.in_ok-count.count ≡ length register = c.in_ok-count.ensures.value clean1 is_open has register are in
    let number : c.in_ok-number.number ≡ length register + 1 = c.in_ok-number.ensures.next ∙ ap (λ n. n + 1) count in
    on_error c.from_residual-in_err-add_entry.result e (ForCause s0 s2) c.from_residual-in_err-add_entry.ensures.1
    (caused_error e s0 s1 s2 (AreEntries s1.now register) c.in_ok-count.ensures.look.later c.in_err-add_entry.ensures.write.later (looked _ s0 s1 (λ (d : Database). AreEntries d register) c.in_ok-count.ensures.look are)
    (λ clean2 open1 has1 it. c.in_err-add_entry.ensures.blame clean2 open1 has1 register it number formed unused) clean is_open has)

pub returns-in_err-count-clause-added : goal.returns-in_err-count-clause-added
returns-in_err-count-clause-added g c clean is_open has register are = no_value c.from_residual.result c.in_err-count.field-0.0 c.from_residual.ensures.1 _

pub returns-in_err-count-clause-write : goal.returns-in_err-count-clause-write
returns-in_err-count-clause-write g c =
    let s0 = g.S.Session.state c.args.conn.now in
    let s1 = g.S.Session.state c.entry_count.new.conn in
    write_handed c.from_residual.result c.in_err-count.field-0.0 c.from_residual.ensures.1 ℕ s0 s1 (look_write (Err c.in_err-count.field-0.0) s0 s1 c.in_err-count.ensures.look)

pub returns-in_err-number-clause-added : goal.returns-in_err-number-clause-added
returns-in_err-number-clause-added g c clean is_open has register are = no_value c.from_residual-in_err-number.result c.in_err-number.field-0.0 c.from_residual-in_err-number.ensures.1 _

pub returns-in_err-add_entry-clause-added : goal.returns-in_err-add_entry-clause-added
returns-in_err-add_entry-clause-added g c clean is_open has register are = no_value c.from_residual-in_err-add_entry.result c.in_err-add_entry.field-0.0 c.from_residual-in_err-add_entry.ensures.1 _

pub returns-in_err-add_entry-clause-write : goal.returns-in_err-add_entry-clause-write
returns-in_err-add_entry-clause-write g c =
    let s0 = g.S.Session.state c.args.conn.now in
    let s1 = g.S.Session.state c.entry_count.new.conn in
    let s2 = g.S.Session.state c.add_entry.new.conn in
    write_fell c.from_residual-in_err-add_entry.result c.in_err-add_entry.field-0.0 c.from_residual-in_err-add_entry.ensures.1 (Unit {0}) c.in_ok-count.count s0 s1 s2
    (look_write (Ok c.in_ok-count.count) s0 s1 c.in_ok-count.ensures.look) c.in_err-add_entry.ensures.write

pub returns-clause-write : goal.returns-clause-write
returns-clause-write g c =
    let s0 = g.S.Session.state c.args.conn.now in
    let s1 = g.S.Session.state c.entry_count.new.conn in
    let s2 = g.S.Session.state c.add_entry.new.conn in
    write_ok c.in_ok-add_entry.field-0 c.in_ok-number.number s0 s2 (write_then c.in_ok-count.count (Ok c.in_ok-add_entry.field-0) s0 s1 s2 (look_write (Ok c.in_ok-count.count) s0 s1 c.in_ok-count.ensures.look) c.in_ok-add_entry.ensures.write)

pub returns-in_err-count-clause-within : goal.returns-in_err-count-clause-within
returns-in_err-count-clause-within g c = no_value c.from_residual.result c.in_err-count.field-0.0 c.from_residual.ensures.1 _

pub returns-in_err-count-clause-small : goal.returns-in_err-count-clause-small
returns-in_err-count-clause-small g c = no_value c.from_residual.result c.in_err-count.field-0.0 c.from_residual.ensures.1 _

pub returns-in_err-number-clause-within : goal.returns-in_err-number-clause-within
returns-in_err-number-clause-within g c = no_value c.from_residual-in_err-number.result c.in_err-number.field-0.0 c.from_residual-in_err-number.ensures.1 _

pub returns-in_err-number-clause-small : goal.returns-in_err-number-clause-small
returns-in_err-number-clause-small g c = no_value c.from_residual-in_err-number.result c.in_err-number.field-0.0 c.from_residual-in_err-number.ensures.1 _

pub returns-in_err-add_entry-clause-within : goal.returns-in_err-add_entry-clause-within
returns-in_err-add_entry-clause-within g c = no_value c.from_residual-in_err-add_entry.result c.in_err-add_entry.field-0.0 c.from_residual-in_err-add_entry.ensures.1 _

pub returns-in_err-add_entry-clause-small : goal.returns-in_err-add_entry-clause-small
returns-in_err-add_entry-clause-small g c = no_value c.from_residual-in_err-add_entry.result c.in_err-add_entry.field-0.0 c.from_residual-in_err-add_entry.ensures.1 _

pub returns-in_err-count-clause-blame : goal.returns-in_err-count-clause-blame
returns-in_err-count-clause-blame g c clean is_open has register are fits formed unused =
    on_error c.from_residual.result c.in_err-count.field-0.0 (ForCause (g.S.Session.state c.args.conn.now) (g.S.Session.state c.entry_count.new.conn)) c.from_residual.ensures.1 (c.in_err-count.ensures.blame clean is_open has register are)

pub returns-clause-within : goal.returns-clause-within
returns-clause-within g c = c.in_ok-number.ensures.small

pub returns-clause-blame : goal.returns-clause-blame
returns-clause-blame g c clean is_open has register are fits formed unused = tt

pub returns-in_err-number-clause-write : goal.returns-in_err-number-clause-write
returns-in_err-number-clause-write g c =
    let s0 = g.S.Session.state c.args.conn.now in
    let s1 = g.S.Session.state c.entry_count.new.conn in
    write_fell c.from_residual-in_err-number.result c.in_err-number.field-0.0 c.from_residual-in_err-number.ensures.1 ℕ c.in_ok-count.count s0 s1 s1 (look_write (Ok c.in_ok-count.count) s0 s1 c.in_ok-count.ensures.look) (write_none (Err c.in_err-number.field-0.0) c.in_err-number.field-0.0 refl s1)

pub returns-clause-small : goal.returns-clause-small
returns-clause-small g c = number_fits c.in_ok-number.number c.in_ok-number.ensures.small

pub add_entry-requires : goal.add_entry-requires
add_entry-requires g c = number_fits c.in_ok-number.number c.in_ok-number.ensures.small

pub returns-clause-added : goal.returns-clause-added
returns-clause-added g c clean is_open has register are =
    let s0 = g.S.Session.state c.args.conn.now in
    let s1 = g.S.Session.state c.entry_count.new.conn in
    let s2 = g.S.Session.state c.add_entry.new.conn in
    let clean1 : HasCleanDisk s1 = was_clean _ _ c.in_ok-add_entry.ensures.write.later clean in
    let count : c.in_ok-count.count ≡ length register = c.in_ok-count.ensures.value clean1 is_open has register are in
    let number : c.in_ok-number.number ≡ length register + 1 = c.in_ok-number.ensures.next ∙ ap (λ n. n + 1) count in
    let same = c.in_ok-count.ensures.look.ok clean1 is_open has in
    let added = c.in_ok-add_entry.ensures.added clean same.is_open (ap (λ (d : Database). d.schema) same.now ∙ has) register (subst (λ (d : Database). AreEntries d register) (sym same.now) are) number in
    (number, subst (λ (d : Database). EntryAdded d s2.now register c.args.entry.now c.args.reply.now) same.now added)

-- Entry by entry.
use Rattle.std.proofs.Common.{◌≡◌, ◌≤◌, Bool, Err, Ok, false, refl, arith}
use Rattle.std.specs.Prelude.{flat_map}
use Rattle.desk_rules.specs.Content.{history_of}
use Rattle.desk_register.proofs.ViewLemmas.{idle_goes}
use Rattle.desk_register.proofs.ReadLemmas.{kept_so, read_one}
use Rattle.desk_register.specs.declared.fault.WalkFault.TheVariants.{Memory}
use Rattle.desk_report.specs.declared.format.Format.TheVariants.{Json}
use Rattle.desk_report.specs.RowData.{account_data}
use Rattle.desk_report.specs.Accounts.{AreHeld, HoldRegistered, IsAccountsText, account_rows}
use Rattle.desk_report.proofs.AccountLemmas.{accounts_text, held_exist, hold_registered, rows_by_entry}
use Rattle.desk_report.proofs.EndLemmas.{walk_broke}
use Rattle.desk_report.proofs.LoopLemmas.{numbering_begins, numbering_breaks, numbering_ends, numbering_goes_on, numbering_known}
use Rattle.desk_report.proofs.RowsLemmas.{nothing_of, register_failed}
use Rattle.desk_report.proofs.accounts.write_accounts.Goals as goal

pub returns-in_err-count-clause-written : goal.returns-in_err-count-clause-written
returns-in_err-count-clause-written g c = λ json honest sure.
    let v0 = g.R.Register.view c.args.register.now in
    let before = g.W.Write.contents c.args.writer.now in
    let kept = c.requires.ready.books refl (c.in_err-count.ensures.read.later.honest honest) in
    let all = held_exist v0.content (hold_registered v0.room kept.0 v0.content kept.1) in
    register_failed (IsAccountsText v0.content) c.in_err-count.field-0.0 c.from_residual.result before before c.from_residual.ensures.1
    (accounts_text {X = Unit {0}} v0.content all.0 (Err Memory) before before all.1 (nothing_of account_data (flat_map (account_rows all.0) (history_of v0.content)) false before))

pub entries-init : goal.entries-init
entries-init g c =
    let r = c.in_ok-count.ensures in
    let v0 = g.R.Register.view c.args.register.now in
    let v = g.R.Register.view c.count.new.self in
    let idle = c.requires.ready.stage refl in
    numbering_begins account_data AreHeld rows_by_entry (c.args.format ≡ Json) v0 v c.in_ok-count.count (g.W.Write.contents c.args.writer.now) (read_one c.in_ok-count.count v0 v r.read)
    (λ honest sure. r.value honest sure (idle_goes _ idle))

pub write_entry-requires-clause-known : goal.write_entry-requires-clause-known
write_entry-requires-clause-known g c =
    numbering_known account_data AreHeld rows_by_entry (c.args.format ≡ Json) (g.R.Register.view c.args.register.now) (g.R.Register.view c.entries.register) c.in_ok-count.count c.entries.index c.entries.is_later
    (g.W.Write.contents c.args.writer.now) (g.W.Write.contents c.entries.writer) c.entries.invariant c.entries-test.true

pub write_entry-requires-clause-registered : goal.write_entry-requires-clause-registered
write_entry-requires-clause-registered g c = λ honest sure.
    let v0 = g.R.Register.view c.args.register.now in
    let v = g.R.Register.view c.entries.register in
    let read = c.entries.invariant.loop.read in
    let kept = c.requires.ready.books refl (read.later.honest honest) in
    kept_so v0 v read HoldRegistered honest (read.later.sure honest sure) (hold_registered v0.room kept.0 v0.content kept.1)

pub returns-in_err-is_later-clause-written : goal.returns-in_err-is_later-clause-written
returns-in_err-is_later-clause-written g c = λ json honest sure.
    let v0 = g.R.Register.view c.args.register.now in
    let v = g.R.Register.view c.entries.register in
    let v1 = g.R.Register.view c.write_entry.new.register in
    let before = g.W.Write.contents c.args.writer.now in
    let now = g.W.Write.contents c.write_entry.new.writer in
    let w = c.in_err-is_later.ensures in
    let r = c.from_residual-in_err-is_later.result in
    let i = c.entries.invariant in
    let kept = c.requires.ready.books refl (i.loop.read.later.honest (w.read.later.honest honest)) in
    let all = held_exist v0.content (hold_registered v0.room kept.0 v0.content kept.1) in
    accounts_text v0.content all.0 r before now all.1
    (numbering_breaks account_data AreHeld rows_by_entry (c.args.format ≡ Json) v0 v c.in_ok-count.count c.entries.index c.entries.is_later before (g.W.Write.contents c.entries.writer) i v1 now c.in_err-is_later.field-0.0 r
    c.from_residual-in_err-is_later.ensures.1 w.read.later w.written json honest sure all.0 all.1)

pub returns-in_err-is_later-clause-read : goal.returns-in_err-is_later-clause-read
returns-in_err-is_later-clause-read g c =
    walk_broke Bool c.in_err-is_later.field-0.0 c.from_residual-in_err-is_later.result (g.R.Register.view c.args.register.now) (g.R.Register.view c.entries.register) (g.R.Register.view c.write_entry.new.register)
    c.from_residual-in_err-is_later.ensures.1 c.entries.invariant.loop.read c.in_err-is_later.ensures.read

pub entries-preserved : goal.entries-preserved
entries-preserved g c =
    let w = c.in_ok-is_later.ensures in
    numbering_goes_on account_data AreHeld rows_by_entry (c.args.format ≡ Json) (g.R.Register.view c.args.register.now) (g.R.Register.view c.entries.register) c.in_ok-count.count c.entries.index c.entries.is_later
    (g.W.Write.contents c.args.writer.now) (g.W.Write.contents c.entries.writer) c.entries.invariant (g.R.Register.view c.write_entry.new.register) c.in_ok-is_later.is_later (g.W.Write.contents c.write_entry.new.writer)
    w.read w.written

pub returns-clause-written : goal.returns-clause-written
returns-clause-written g c = λ json honest sure.
    let v0 = g.R.Register.view c.args.register.now in
    let v = g.R.Register.view c.entries.register in
    let before = g.W.Write.contents c.args.writer.now in
    let now = g.W.Write.contents c.entries.writer in
    let i = c.entries.invariant in
    let every : c.in_ok-count.count ≤ c.entries.index = omega arith in
    let kept = c.requires.ready.books refl (i.loop.read.later.honest honest) in
    let all = held_exist v0.content (hold_registered v0.room kept.0 v0.content kept.1) in
    accounts_text {X = Unit {0}} v0.content all.0 (Ok tt) before now all.1
    (numbering_ends account_data AreHeld rows_by_entry (c.args.format ≡ Json) v0 v c.in_ok-count.count c.entries.index c.entries.is_later before now i every json honest sure all.0 all.1)

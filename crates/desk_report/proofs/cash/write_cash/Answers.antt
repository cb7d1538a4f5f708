-- Entry by entry.
use Rattle.std.proofs.Common.{◌≡◌, ◌≤◌, Bool, false, refl, arith}
use Rattle.desk_register.proofs.ViewLemmas.{idle_goes}
use Rattle.desk_register.proofs.ReadLemmas.{read_one}
use Rattle.desk_report.specs.declared.format.Format.TheVariants.{Json}
use Rattle.desk_report.specs.RowData.{cash_data}
use Rattle.desk_report.specs.Cash.{IsCashText, cash_of}
use Rattle.desk_report.proofs.CashLemmas.{NoneGiven, rows_by_entry}
use Rattle.desk_report.proofs.EndLemmas.{walk_broke}
use Rattle.desk_report.proofs.LoopLemmas.{numbering_begins, numbering_breaks, numbering_ends, numbering_goes_on, numbering_known}
use Rattle.desk_report.proofs.RowsLemmas.{nothing_of, register_failed}
use Rattle.desk_report.proofs.cash.write_cash.Goals as goal

pub returns-in_err-count-clause-written : goal.returns-in_err-count-clause-written
returns-in_err-count-clause-written g c = λ json honest sure.
    let content = (g.R.Register.view c.args.register.now).content in
    let before = g.W.Write.contents c.args.writer.now in
    register_failed (IsCashText content) c.in_err-count.field-0.0 c.from_residual.result before before c.from_residual.ensures.1 (nothing_of cash_data (cash_of content) false before)

pub entries-init : goal.entries-init
entries-init g c =
    let r = c.in_ok-count.ensures in
    let v0 = g.R.Register.view c.args.register.now in
    let v = g.R.Register.view c.count.new.self in
    let idle = c.requires.ready.stage refl in
    numbering_begins cash_data NoneGiven rows_by_entry (c.args.format ≡ Json) v0 v c.in_ok-count.count (g.W.Write.contents c.args.writer.now) (read_one c.in_ok-count.count v0 v r.read)
    (λ honest sure. r.value honest sure (idle_goes _ idle))

pub write_entry-requires-clause-known : goal.write_entry-requires-clause-known
write_entry-requires-clause-known g c =
    numbering_known cash_data NoneGiven rows_by_entry (c.args.format ≡ Json) (g.R.Register.view c.args.register.now) (g.R.Register.view c.entries.register) c.in_ok-count.count c.entries.index c.entries.is_later
    (g.W.Write.contents c.args.writer.now) (g.W.Write.contents c.entries.writer) c.entries.invariant c.entries-test.true

pub returns-in_err-is_later-clause-written : goal.returns-in_err-is_later-clause-written
returns-in_err-is_later-clause-written g c = λ json honest sure.
    let w = c.in_err-is_later.ensures in
    numbering_breaks cash_data NoneGiven rows_by_entry (c.args.format ≡ Json) (g.R.Register.view c.args.register.now) (g.R.Register.view c.entries.register) c.in_ok-count.count c.entries.index c.entries.is_later
    (g.W.Write.contents c.args.writer.now) (g.W.Write.contents c.entries.writer) c.entries.invariant (g.R.Register.view c.write_entry.new.register) (g.W.Write.contents c.write_entry.new.writer) c.in_err-is_later.field-0.0
    c.from_residual-in_err-is_later.result c.from_residual-in_err-is_later.ensures.1 w.read.later (λ told really known x given. w.written told really known) json honest sure tt tt

pub returns-in_err-is_later-clause-read : goal.returns-in_err-is_later-clause-read
returns-in_err-is_later-clause-read g c =
    walk_broke Bool c.in_err-is_later.field-0.0 c.from_residual-in_err-is_later.result (g.R.Register.view c.args.register.now) (g.R.Register.view c.entries.register) (g.R.Register.view c.write_entry.new.register)
    c.from_residual-in_err-is_later.ensures.1 c.entries.invariant.loop.read c.in_err-is_later.ensures.read

pub entries-preserved : goal.entries-preserved
entries-preserved g c =
    let w = c.in_ok-is_later.ensures in
    numbering_goes_on cash_data NoneGiven rows_by_entry (c.args.format ≡ Json) (g.R.Register.view c.args.register.now) (g.R.Register.view c.entries.register) c.in_ok-count.count c.entries.index c.entries.is_later
    (g.W.Write.contents c.args.writer.now) (g.W.Write.contents c.entries.writer) c.entries.invariant (g.R.Register.view c.write_entry.new.register) c.in_ok-is_later.is_later (g.W.Write.contents c.write_entry.new.writer)
    w.read (λ told really known x given. w.written told really known)

pub returns-clause-written : goal.returns-clause-written
returns-clause-written g c = λ json honest sure.
    let all : c.in_ok-count.count ≤ c.entries.index = omega arith in
    numbering_ends cash_data NoneGiven rows_by_entry (c.args.format ≡ Json) (g.R.Register.view c.args.register.now) (g.R.Register.view c.entries.register) c.in_ok-count.count c.entries.index c.entries.is_later
    (g.W.Write.contents c.args.writer.now) (g.W.Write.contents c.entries.writer) c.entries.invariant all json honest sure tt tt

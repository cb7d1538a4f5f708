use Rattle.std.proofs.Common.{◌≡◌, ◌≢◌, Some, ap, subst, sym, ◌∙◌}
use Rattle.std.proofs.lemmas.Bool.{le-ltb}
use Rattle.desk_rules.specs.History.{entry_at}
use Rattle.desk_rules.specs.Tables.{AreTables}
use Rattle.desk_rules.proofs.HistoryLemmas.{entry_at-known}
use Rattle.desk_register.specs.declared.register.Stage.TheVariants.{Failed, Idle}
use Rattle.desk_register.proofs.ViewLemmas.{idle_goes}
use Rattle.desk_register.proofs.ReadLemmas.{read_more, read_none, read_one}
use Rattle.desk_journal.specs.Journal.{data_of, row_from}
use Rattle.desk_journal.proofs.KnownLemmas.{entry_known}
use Rattle.desk_journal.proofs.StepLemmas.{read_both, register_broke, row_broke}
use Rattle.desk_journal.proofs.WritingLemmas.{number_written, unread}
use Rattle.desk_journal.proofs.walk.write_number.Goals as goal

pub returns-in_err-entry-clause-written : goal.returns-in_err-entry-clause-written
returns-in_err-entry-clause-written g c = λ books json honest sure tables sent.
    unread (data_of books) (row_from books c.args.from c.args.number) c.args.is_later c.in_err-entry.field-0.0 c.from_residual.result (g.W.Write.contents c.args.writer.now) c.from_residual.ensures.1

pub returns-in_err-entry-clause-read : goal.returns-in_err-entry-clause-read
returns-in_err-entry-clause-read g c =
    let v0 = g.R.Register.view c.args.register.now in
    register_broke c.in_err-entry.field-0.0 c.from_residual.result v0 v0 (g.R.Register.view c.entry.new.self) c.from_residual.ensures.1 (read_none v0) c.in_err-entry.ensures.read

pub outcome-requires-clause-known : goal.outcome-requires-clause-known
outcome-requires-clause-known g c =
    let r = c.in_ok-entry.ensures in
    let v0 = g.R.Register.view c.args.register.now in
    entry_known v0 (g.R.Register.view c.entry.new.self) c.args.number c.in_ok-entry.field-0 c.in-Some.entry r.read c.requires.known (λ honest sure. r.value honest sure (idle_goes _ c.requires.stage)) c.in-Some.is

pub returns-in_err-outcome-clause-written : goal.returns-in_err-outcome-clause-written
returns-in_err-outcome-clause-written g c = λ books json honest sure tables sent.
    unread (data_of books) (row_from books c.args.from c.args.number) c.args.is_later c.in_err-outcome.field-0.0 c.from_residual-in_err-outcome.result (g.W.Write.contents c.args.writer.now) c.from_residual-in_err-outcome.ensures.1

pub returns-in_err-outcome-clause-read : goal.returns-in_err-outcome-clause-read
returns-in_err-outcome-clause-read g c =
    let v0 = g.R.Register.view c.args.register.now in
    let v1 = g.R.Register.view c.entry.new.self in
    register_broke c.in_err-outcome.field-0.0 c.from_residual-in_err-outcome.result v0 v1 (g.R.Register.view c.outcome.new.register) c.from_residual-in_err-outcome.ensures.1
    (read_one c.in_ok-entry.field-0 v0 v1 c.in_ok-entry.ensures.read) c.in_err-outcome.ensures.read

pub returns-in_err-write_journal_row-clause-read : goal.returns-in_err-write_journal_row-clause-read
returns-in_err-write_journal_row-clause-read g c =
    let v0 = g.R.Register.view c.args.register.now in
    let v1 = g.R.Register.view c.entry.new.self in
    let v2 = g.R.Register.view c.outcome.new.register in
    row_broke (Unit {0}) c.in_err-write_journal_row.field-0.0 c.from_residual-in_err-write_journal_row.result v0 v2 c.from_residual-in_err-write_journal_row.ensures.1 c.in_err-write_journal_row.ensures.register
    (read_more c.in_ok-outcome.outcome v0 v1 v2 (read_one c.in_ok-entry.field-0 v0 v1 c.in_ok-entry.ensures.read) c.in_ok-outcome.ensures.read)

pub returns-clause-read : goal.returns-clause-read
returns-clause-read g c =
    read_both c.in_ok-entry.field-0 c.in_ok-outcome.outcome tt (g.R.Register.view c.args.register.now) (g.R.Register.view c.entry.new.self) (g.R.Register.view c.outcome.new.register) c.in_ok-entry.ensures.read
    c.in_ok-outcome.ensures.read

pub returns-clause-written : goal.returns-clause-written
returns-clause-written g c = λ books json honest sure tables sent.
    let v0 = g.R.Register.view c.args.register.now in
    let first = c.in_ok-entry.ensures in
    let second = c.in_ok-outcome.ensures in
    let honest1 = second.read.later.honest honest in
    let begun : v0.stage ≢ Failed = λ failed. (let clash : Idle ≡ Failed = sym c.requires.stage ∙ failed in cc) in
    let at : entry_at books.history c.args.number ≡ Some c.in-Some.entry = ap (λ h. entry_at h c.args.number) (sym tables.history) ∙ sym (first.value honest1 sure begun) ∙ c.in-Some.is in
    let known = entry_at-known books.history c.args.number c.in-Some.entry at in
    let tables1 = subst (AreTables books) (sym (first.read.same honest1 sure)) tables in
    let fares = second.outcome books honest (first.read.ok.sure honest1 sure) tables1 (c.deref.ensures.value ∙ sent.notices) in
    number_written books c.args.from c.args.number c.in-Some.entry c.in_ok-outcome.outcome c.messages_by-messages.result.now c.args.is_later (g.W.Write.contents c.args.writer.now) (g.W.Write.contents c.write_journal_row.new.writer)
    (le-ltb c.args.number c.args.from c.if-number-from.false) at fares (c.messages_by-messages.ensures books tables.are sent known.0 known.1) (c.in_ok-write_journal_row.ensures.written json)

-- The rows of the participant that the entry registers.
use Rattle.std.proofs.Common.{Some, ap, ◌∙◌, subst}
use Rattle.desk_rules.specs.Content.{Content, history_of}
use Rattle.desk_rules.specs.declared.history.entry.Entry.TheVariants.{Participant}
use Rattle.desk_register.proofs.ReadingLemmas.{read_on}
use Rattle.desk_register.proofs.ReadLemmas.{read_none}
use Rattle.desk_report.specs.RowData.{cash_data}
use Rattle.desk_report.specs.Cash.{balance_rows, cash_rows, currencies}
use Rattle.desk_report.specs.RowsWriting.{WritesRows, rows_at}
use Rattle.desk_report.proofs.CashLemmas.{no_participant}
use Rattle.desk_report.proofs.EndLemmas.{walk_then}
use Rattle.desk_report.proofs.LoopLemmas.{entry_rows, no_entry_rows}
use Rattle.desk_report.proofs.RowsLemmas.{rows_failed}
use Rattle.desk_report.proofs.cash.write_entry.Goals as goal

pub returns-in_err-bic-clause-written : goal.returns-in_err-bic-clause-written
returns-in_err-bic-clause-written g c = λ json honest sure.
    let content = (g.R.Register.view c.args.register.now).content in
    rows_failed cash_data (rows_at (cash_rows content) (history_of content) c.args.number) c.args.is_later c.in_err-bic.field-0.0 c.from_residual.result (g.W.Write.contents c.args.writer.now) c.from_residual.ensures.1

pub returns-in_default-clause-written : goal.returns-in_default-clause-written
returns-in_default-clause-written g c = λ json honest sure.
    let content = (g.R.Register.view c.args.register.now).content in
    let entry = c.in_ok-bic.field-0 in
    no_entry_rows cash_data (cash_rows content) (history_of content) c.args.number entry (c.in_ok-bic.ensures.entry honest sure) c.args.is_later (g.W.Write.contents c.args.writer.now)
    (no_participant content entry c.in_default.not-Participant)

pub returns-in-Participant-clause-written : goal.returns-in-Participant-clause-written
returns-in-Participant-clause-written g c = λ json honest sure.
    let first = c.in_ok-bic.ensures in
    let second = c.write_balances.ensures in
    let honest1 = second.read.later.honest honest in
    let content = (g.R.Register.view c.args.register.now).content in
    let before = g.W.Write.contents c.args.writer.now in
    let now = g.W.Write.contents c.write_balances.new.writer in
    let bic = c.in-Participant.bic in
    let P : Content → Type 0 = λ z. WritesRows cash_data (balance_rows z bic currencies) c.args.is_later c.write_balances.result before now in
    entry_rows cash_data (cash_rows content) (history_of content) c.args.number (Participant c.in-Participant.reference bic) (first.entry honest1 sure ∙ ap Some c.in-Participant.is) c.args.is_later c.write_balances.result before now
    (subst P (first.read.same honest1 sure) (second.written json honest (first.read.ok.sure honest1 sure)))

pub returns-in-Participant-clause-read : goal.returns-in-Participant-clause-read
returns-in-Participant-clause-read g c =
    let v0 = g.R.Register.view c.args.register.now in
    let v1 = g.R.Register.view c.entry_of.new.register in
    let v2 = g.R.Register.view c.write_balances.new.register in
    walk_then c.write_balances.result v0 v1 v2 (read_on v0 v0 (read_none v0) c.in_ok-bic.field-0 v1 c.in_ok-bic.ensures.read) c.write_balances.ensures.read

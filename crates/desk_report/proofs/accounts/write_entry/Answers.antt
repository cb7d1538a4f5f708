-- The rows of the account that the entry registers.
use Rattle.std.proofs.Common.{Some, ap, ◌∙◌}
use Rattle.desk_rules.specs.Content.{history_of}
use Rattle.desk_rules.specs.declared.history.entry.Entry.TheVariants.{Account}
use Rattle.desk_holdings.specs.Holdings.{AreHoldings, HoldsRegistered}
use Rattle.desk_register.proofs.ReadLemmas.{kept_so, read_none}
use Rattle.desk_register.proofs.ReadingLemmas.{read_on, read_so}
use Rattle.desk_report.specs.RowData.{account_data}
use Rattle.desk_report.specs.Accounts.{account_rows, rows_of}
use Rattle.desk_report.specs.RowsWriting.{IsRows, rows_at}
use Rattle.desk_report.proofs.AccountLemmas.{has_row, no_account}
use Rattle.desk_report.proofs.EndLemmas.{walk_broke}
use Rattle.desk_report.proofs.LoopLemmas.{entry_rows, no_entry_rows}
use Rattle.desk_report.proofs.RowsLemmas.{handed_on, rows_broke, rows_failed}
use Rattle.desk_report.proofs.StepLemmas.{read_both, register_broke}
use Rattle.desk_report.proofs.accounts.write_entry.Goals as goal

pub returns-in_err-bic-clause-written : goal.returns-in_err-bic-clause-written
returns-in_err-bic-clause-written g c = λ json honest sure held are.
    rows_failed account_data (rows_at (account_rows held) (history_of (g.R.Register.view c.args.register.now).content) c.args.number) c.args.is_later c.in_err-bic.field-0.0 c.from_residual.result
    (g.W.Write.contents c.args.writer.now) c.from_residual.ensures.1

pub returns-in_err-bic-clause-read : goal.returns-in_err-bic-clause-read
returns-in_err-bic-clause-read g c =
    let v0 = g.R.Register.view c.args.register.now in
    register_broke c.in_err-bic.field-0.0 c.from_residual.result v0 v0 (g.R.Register.view c.entry_of.new.register) c.from_residual.ensures.1 (read_none v0) c.in_err-bic.ensures.read

pub returns-in_default-clause-written : goal.returns-in_default-clause-written
returns-in_default-clause-written g c = λ json honest sure held are.
    let entry = c.in_ok-bic.field-0 in
    no_entry_rows account_data (account_rows held) (history_of (g.R.Register.view c.args.register.now).content) c.args.number entry (c.in_ok-bic.ensures.entry honest sure) c.args.is_later
    (g.W.Write.contents c.args.writer.now) (no_account held entry c.in_default.not-Account)

pub returns-in_default-clause-read : goal.returns-in_default-clause-read
returns-in_default-clause-read g c =
    let v0 = g.R.Register.view c.args.register.now in
    let v1 = g.R.Register.view c.entry_of.new.register in
    read_so v0 v1 (read_on v0 v0 (read_none v0) c.in_ok-bic.field-0 v1 c.in_ok-bic.ensures.read) tt

pub write_account-requires-clause-registered : goal.write_account-requires-clause-registered
write_account-requires-clause-registered g c = λ honest sure.
    let first = c.in_ok-bic.ensures.read in
    let v0 = g.R.Register.view c.args.register.now in
    let v1 = g.R.Register.view c.entry_of.new.register in
    let sure0 = first.later.sure honest sure in
    let known = c.requires.registered (first.later.honest honest) sure0 in
    kept_so v0 v1 (read_on v0 v0 (read_none v0) c.in_ok-bic.field-0 v1 first) (λ z. HoldsRegistered z c.in-Account.account) honest sure0 (known.each c.in-Account.account)

pub returns-in_err-write_account-in-Account-clause-written : goal.returns-in_err-write_account-in-Account-clause-written
returns-in_err-write_account-in-Account-clause-written g c = λ json honest sure held are.
    let first = c.in_ok-bic.ensures in
    let second = c.in_err-write_account-in-Account.ensures in
    let honest1 = second.read.later.honest honest in
    let v0 = g.R.Register.view c.args.register.now in
    let v1 = g.R.Register.view c.entry_of.new.register in
    let before = g.W.Write.contents c.args.writer.now in
    let now = g.W.Write.contents c.write_account.new.writer in
    let owner = c.in-Account.bic in
    let account = c.in-Account.account in
    let fault = c.in_err-write_account-in-Account.field-0.0 in
    let r = c.from_residual-in_err-write_account-in-Account.result in
    let is = c.from_residual-in_err-write_account-in-Account.ensures.1 in
    let here = kept_so v0 v1 (read_on v0 v0 (read_none v0) c.in_ok-bic.field-0 v1 first.read) (λ z. AreHoldings z account (held account)) honest1 sure (are.each account) in
    entry_rows account_data (account_rows held) (history_of v0.content) c.args.number (Account c.in-Account.reference owner account) (first.entry honest1 sure ∙ ap Some c.in-Account.is) c.args.is_later r before now
    (rows_broke account_data (rows_of owner account (held account)) c.args.is_later fault r before now is
    (handed_on (IsRows account_data (rows_of owner account (held account)) c.args.is_later) fault r before now is
    (second.written json honest (first.read.ok.sure honest1 sure) (held account) here)))

pub returns-in_err-write_account-in-Account-clause-read : goal.returns-in_err-write_account-in-Account-clause-read
returns-in_err-write_account-in-Account-clause-read g c =
    let v0 = g.R.Register.view c.args.register.now in
    let v1 = g.R.Register.view c.entry_of.new.register in
    let v2 = g.R.Register.view c.write_account.new.register in
    walk_broke (Unit {0}) c.in_err-write_account-in-Account.field-0.0 c.from_residual-in_err-write_account-in-Account.result v0 v1 v2 c.from_residual-in_err-write_account-in-Account.ensures.1
    (read_on v0 v0 (read_none v0) c.in_ok-bic.field-0 v1 c.in_ok-bic.ensures.read) c.in_err-write_account-in-Account.ensures.read

pub returns-in_ok-write_account-in-Account-clause-written : goal.returns-in_ok-write_account-in-Account-clause-written
returns-in_ok-write_account-in-Account-clause-written g c = λ json honest sure held are.
    let first = c.in_ok-bic.ensures in
    let second = c.in_ok-write_account-in-Account.ensures in
    let honest1 = second.read.later.honest honest in
    let v0 = g.R.Register.view c.args.register.now in
    let v1 = g.R.Register.view c.entry_of.new.register in
    let before = g.W.Write.contents c.args.writer.now in
    let now = g.W.Write.contents c.write_account.new.writer in
    let owner = c.in-Account.bic in
    let account = c.in-Account.account in
    let here = kept_so v0 v1 (read_on v0 v0 (read_none v0) c.in_ok-bic.field-0 v1 first.read) (λ z. AreHoldings z account (held account)) honest1 sure (are.each account) in
    entry_rows account_data (account_rows held) (history_of v0.content) c.args.number (Account c.in-Account.reference owner account) (first.entry honest1 sure ∙ ap Some c.in-Account.is) c.args.is_later _ before now
    (record { text = second.written json honest (first.read.ok.sure honest1 sure) (held account) here; later = has_row owner account c.args.is_later (held account) })

pub returns-in_ok-write_account-in-Account-clause-read : goal.returns-in_ok-write_account-in-Account-clause-read
returns-in_ok-write_account-in-Account-clause-read g c =
    read_both c.in_ok-bic.field-0 tt tt (g.R.Register.view c.args.register.now) (g.R.Register.view c.entry_of.new.register) (g.R.Register.view c.write_account.new.register) c.in_ok-bic.ensures.read
    c.in_ok-write_account-in-Account.ensures.read

use Rattle.std.proofs.Common.{◌≡◌}
use Rattle.sqlite.specs.declared.error.Error.TheVariants.{SqliteFailure}
use Rattle.sqlite.specs.declared.error.ErrorCode.TheVariants.{OutOfMemory}
use Rattle.sql_tables.proofs.ResultLemmas.{on_error}
use Rattle.sql_entries.proofs.ReadingLemmas.{entry_found, entry_reads}
use Rattle.sql_entries.proofs.looking.first_entry.Goals as goal

pub returns-in_ok-entry_in-in-Some-clause-value : goal.returns-in_ok-entry_in-in-Some-clause-value
returns-in_ok-entry_in-in-Some-clause-value c kept is =
    entry_found kept c.args.rows.now c.in-Some.row.now c.in_ok-entry_in-in-Some.field-0 is c.in-Some.ensures.value c.in_ok-entry_in-in-Some.ensures.kind c.in_ok-entry_in-in-Some.ensures.says

pub returns-in_err-entry_in-in-Some-clause-all : goal.returns-in_err-entry_in-in-Some-clause-all
returns-in_err-entry_in-in-Some-clause-all c kept is spelt =
    let e = c.in_err-entry_in-in-Some.field-0.0 in
    on_error c.from_residual.result e (λ e. e ≡ SqliteFailure OutOfMemory) c.from_residual.ensures.1
    (entry_reads (e ≡ SqliteFailure OutOfMemory) kept c.args.rows.now c.in-Some.row.now is c.in-Some.ensures.value spelt c.in_err-entry_in-in-Some.ensures.all)

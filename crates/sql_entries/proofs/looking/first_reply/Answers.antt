use Rattle.std.proofs.Common.{◌≡◌}
use Rattle.sqlite.specs.declared.error.Error.TheVariants.{SqliteFailure}
use Rattle.sqlite.specs.declared.error.ErrorCode.TheVariants.{OutOfMemory}
use Rattle.sql_tables.proofs.ResultLemmas.{on_error}
use Rattle.sql_entries.proofs.ReadingLemmas.{reply_reads}
use Rattle.sql_entries.proofs.looking.first_reply.Goals as goal

pub returns-in_err-reply_in-in-Some-clause-all : goal.returns-in_err-reply_in-in-Some-clause-all
returns-in_err-reply_in-in-Some-clause-all c kept is short =
    let e = c.in_err-reply_in-in-Some.field-0.0 in
    on_error c.from_residual.result e (λ e. e ≡ SqliteFailure OutOfMemory) c.from_residual.ensures.1
    (reply_reads (e ≡ SqliteFailure OutOfMemory) kept c.args.rows.now c.in-Some.row.now is c.in-Some.ensures.value short c.in_err-reply_in-in-Some.ensures.all)

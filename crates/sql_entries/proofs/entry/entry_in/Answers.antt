use Rattle.std.proofs.Common.{arith, sym, ◌∙◌}
use Rattle.sql_tables.proofs.ColumnLemmas.{count}
use Rattle.sql_entries.proofs.SpeltLemmas.{as_cancellation, as_instruction, no_error}
use Rattle.sql_entries.proofs.entry.entry_in.Goals as goal

pub returns-in_err-bic_at-in-8-clause-all : goal.returns-in_err-bic_at-in-8-clause-all
returns-in_err-bic_at-in-8-clause-all c entry long kind says spelt =
    let it = as_instruction c.args.row.now entry (count _ _ (sym kind ∙ c.in_ok-other.ensures.value) ∙ c.in-8.is) says spelt in
    absurd (let e = c.in_err-bic_at-in-8.ensures.all it.0 (omega (arith, long)) it.2.0 it.3.0 in cc)

pub returns-in-9-clause-all : goal.returns-in-9-clause-all
returns-in-9-clause-all c entry long kind says spelt =
    let it = as_cancellation c.args.row.now entry (count _ _ (sym kind ∙ c.in_ok-other.ensures.value) ∙ c.in-9.is) says spelt in
    no_error c.cancellation_in.result (c.cancellation_in.ensures.all it.0 it.1 long it.2 it.3)

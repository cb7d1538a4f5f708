use Rattle.std.proofs.Common.{Err, sym, ap, subst, ◌∙◌}
use Rattle.sql_tables.specs.Statements.{IsEdit}
use Rattle.sql_rows.specs.Keys.{ledger_of}
use Rattle.sql_rows.specs.AmountStatements.{take_text}
use Rattle.sql_rows.proofs.AmountMeanings.{take_edit}
use Rattle.sql_rows.proofs.EffectLemmas.{takes}
use Rattle.sql_tables.specs.Ends.{ForCause}
use Rattle.sql_tables.proofs.ResultLemmas.{on_error}
use Rattle.sql_rows.proofs.AmountCauses.{take_caused}
use Rattle.sql_rows.proofs.amounts.calls.take.Goals as goal

pub execute-requires : goal.execute-requires
execute-requires g c = record { edit = subst IsEdit (sym (c.take_off-text.ensures ∙ ap take_text c.ledger.ensures)) (take_edit (ledger_of c.args.key.now)) }

pub returns-clause-changed : goal.returns-clause-changed
returns-clause-changed g c clean is_open has amounts =
    takes (g.S.Session.state c.args.conn.now) c.args.key.now c.args.amount has amounts (g.S.Session.state c.execute.new.conn) c.in_ok-count.count
    (rw (c.take_off-text.ensures, c.ledger.ensures, c.first.ensures, c.second.ensures, c.integer.ensures) at (c.in_ok-count.ensures.runs clean))

pub returns-in_err-count-clause-blame : goal.returns-in_err-count-clause-blame
returns-in_err-count-clause-blame g c clean is_open has amounts =
    let old = g.S.Session.state c.args.conn.now in
    let new = g.S.Session.state c.execute.new.conn in
    on_error c.from_residual.result c.in_err-count.field-0.0 (ForCause old new) c.from_residual.ensures.1
    (take_caused old new has is_open (c.in_err-count.ensures.obeyed is_open) c.args.key.now c.args.amount amounts (Err c.in_err-count.field-0.0)
    (rw (c.take_off-text.ensures, c.ledger.ensures, c.first.ensures, c.second.ensures, c.integer.ensures) at (c.in_err-count.ensures.runs clean)))

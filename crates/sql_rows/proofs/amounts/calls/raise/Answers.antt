use Rattle.std.proofs.Common.{Err, sym, ap, subst, ◌∙◌}
use Rattle.sql_tables.specs.Statements.{IsEdit}
use Rattle.sql_rows.specs.Keys.{ledger_of}
use Rattle.sql_rows.specs.AmountStatements.{put_text}
use Rattle.sql_rows.proofs.AmountMeanings.{put_edit}
use Rattle.sql_rows.proofs.EffectLemmas.{puts}
use Rattle.sql_tables.specs.Ends.{ForCause}
use Rattle.sql_tables.proofs.ResultLemmas.{on_error}
use Rattle.sql_rows.proofs.AmountCauses.{put_caused}
use Rattle.sql_rows.proofs.amounts.calls.raise.Goals as goal

pub execute-requires : goal.execute-requires
execute-requires g c = record { edit = subst IsEdit (sym (c.put_on-text.ensures ∙ ap put_text c.ledger.ensures)) (put_edit (ledger_of c.args.key.now)) }

pub returns-clause-changed : goal.returns-clause-changed
returns-clause-changed g c clean is_open has amounts fits =
    puts (g.S.Session.state c.args.conn.now) c.args.key.now c.args.amount has amounts (g.S.Session.state c.execute.new.conn) c.in_ok-raised.raised fits
    (rw (c.put_on-text.ensures, c.ledger.ensures, c.first.ensures, c.second.ensures, c.integer.ensures) at (c.in_ok-raised.ensures.runs clean))

pub returns-in_err-raised-clause-blame : goal.returns-in_err-raised-clause-blame
returns-in_err-raised-clause-blame g c clean is_open has amounts fits =
    let old = g.S.Session.state c.args.conn.now in
    let new = g.S.Session.state c.execute.new.conn in
    on_error c.from_residual.result c.in_err-raised.field-0.0 (ForCause old new) c.from_residual.ensures.1
    (put_caused old new has is_open (c.in_err-raised.ensures.obeyed is_open) c.args.key.now c.args.amount amounts fits (Err c.in_err-raised.field-0.0)
    (rw (c.put_on-text.ensures, c.ledger.ensures, c.first.ensures, c.second.ensures, c.integer.ensures) at (c.in_err-raised.ensures.runs clean)))

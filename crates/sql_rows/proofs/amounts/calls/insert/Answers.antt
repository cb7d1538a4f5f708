use Rattle.std.proofs.Common.{sym, ap, subst, ◌∙◌}
use Rattle.sql_tables.specs.Statements.{IsEdit}
use Rattle.sql_rows.specs.Keys.{ledger_of}
use Rattle.sql_rows.specs.AmountStatements.{first_text}
use Rattle.sql_rows.proofs.AmountMeanings.{first_edit}
use Rattle.sql_rows.proofs.ClauseLemmas.{inserted}
use Rattle.sql_rows.proofs.AmountCauses.{first_caused}
use Rattle.sql_rows.proofs.amounts.calls.insert.Goals as goal

pub execute-requires : goal.execute-requires
execute-requires g c = record { edit = subst IsEdit (sym (c.first_row-text.ensures ∙ ap first_text c.ledger.ensures)) (first_edit (ledger_of c.args.key.now)) }

pub returns-clause-changed : goal.returns-clause-changed
returns-clause-changed g c clean is_open has amounts absent =
    inserted (g.S.Session.state c.args.conn.now) (g.S.Session.state c.execute.new.conn) has amounts c.args.key.now c.args.amount absent c.requires.small c.execute.result
    (rw (c.first_row-text.ensures, c.ledger.ensures, c.first.ensures, c.second.ensures, c.integer.ensures) at (c.execute.ensures.runs clean))

pub returns-clause-blame : goal.returns-clause-blame
returns-clause-blame g c clean is_open has amounts absent =
    first_caused (g.S.Session.state c.args.conn.now) (g.S.Session.state c.execute.new.conn) has is_open (c.execute.ensures.obeyed is_open) c.args.key.now c.args.amount amounts absent c.requires.small c.execute.result
    (rw (c.first_row-text.ensures, c.ledger.ensures, c.first.ensures, c.second.ensures, c.integer.ensures) at (c.execute.ensures.runs clean))

use Rattle.std.proofs.Common.{Err}
use Rattle.sql_tables.specs.Ends.{ForCause}
use Rattle.sql_tables.proofs.ResultLemmas.{on_error}
use Rattle.sql_entries.proofs.TextLemmas.{insert_edit}
use Rattle.sql_entries.proofs.EffectLemmas.{added}
use Rattle.sql_entries.proofs.AddLemmas.{add_caused}
use Rattle.sql_entries.proofs.adding.add_entry.Goals as goal

pub execute-requires : goal.execute-requires
execute-requires g c = record { edit = insert_edit }

pub returns-clause-added : goal.returns-clause-added
returns-clause-added g c clean is_open has register are is =
    added (g.S.Session.state c.args.conn.now) (g.S.Session.state c.execute.new.conn) register has are c.args.entry.now c.args.reply.now c.args.number c.in_ok-execute.field-0 is c.requires
    (rw c.row_values-row.ensures.said at (c.in_ok-execute.ensures.runs clean))

pub returns-in_err-execute-clause-blame : goal.returns-in_err-execute-clause-blame
returns-in_err-execute-clause-blame g c clean is_open has register are is formed unused =
    let old = g.S.Session.state c.args.conn.now in
    let new = g.S.Session.state c.execute.new.conn in
    let e = c.in_err-execute.field-0.0 in
    on_error c.from_residual.result e (ForCause old new) c.from_residual.ensures.1
    (add_caused old new has is_open (c.in_err-execute.ensures.obeyed is_open) register are c.args.number is c.args.entry.now c.args.reply.now c.formed.ensures formed unused (Err e)
    (rw c.row_values-row.ensures.said at (c.in_err-execute.ensures.runs clean)))

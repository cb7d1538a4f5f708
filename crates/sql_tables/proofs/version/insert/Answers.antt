use Rattle.std.proofs.Common.{pos, [], ◌∷◌}
use Rattle.sqlite.specs.declared.types.Value.TheVariants.{Int}
use Rattle.sql_tables.proofs.VersionLemmas.{set_caused, set_edit, set_text, sets}
use Rattle.sql_tables.proofs.ResultLemmas.{on_done}
use Rattle.sql_tables.proofs.version.insert.Goals as goal

pub execute-requires : goal.execute-requires
execute-requires g c = record { edit = set_edit }

pub returns-clause-set : goal.returns-clause-set
returns-clause-set g c clean is_open has none =
    let old = g.S.Session.state c.args.conn.now in
    let new = g.S.Session.state c.execute.new.conn in
    on_done set_text (Int (pos 3) ∷ []) old new c.execute.result (λ count h. sets old new has 3 count none h) (rw c.integer.ensures at (c.execute.ensures.runs clean))

pub returns-clause-blame : goal.returns-clause-blame
returns-clause-blame g c clean is_open has none =
    set_caused (g.S.Session.state c.args.conn.now) (g.S.Session.state c.execute.new.conn) has is_open (c.execute.ensures.obeyed is_open) 3 none c.execute.result (rw c.integer.ensures at (c.execute.ensures.runs clean))

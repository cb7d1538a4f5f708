use Rattle.std.proofs.Common.{sym, ◌∙◌}
use Rattle.desk_file.proofs.FormLemmas.{formed_in}
use Rattle.desk_file.proofs.schema.ours.has_desk_tables.Goals as goal

pub returns-clause-formed : goal.returns-clause-formed
returns-clause-formed g c told is_open order =
    formed_in c.args.version (g.S.Session.state c.args.conn.now) c.schema.ensures.live (sym c.schema.ensures.value ∙ c.is_desk.ensures.0 told) is_open order

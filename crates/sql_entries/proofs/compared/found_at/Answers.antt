use Rattle.std.proofs.Common.{filter, Vec}
use Rattle.std.specs.declared.alloc.Global.{Global}
use Rattle.sqlite.specs.Order.{Row}
use Rattle.sql_tables.proofs.LookLemmas.{look_after, look_passed}
use Rattle.sql_tables.specs.ByNumber.{has_number}
use Rattle.sql_tables.specs.Versions.{register_tree}
use Rattle.sql_entries.proofs.ComparedRows.{found, found_caused, found_exact, nothing_found}
use Rattle.sql_entries.proofs.compared.found_at.Goals as goal

pub returns-clause-found : goal.returns-clause-found
returns-clause-found g c clean is_open has formed =
    found c.args.version ((g.S.Session.state c.args.conn.now).now.trees (register_tree c.args.version)) c.in_ok-rows.rows.items c.deref.result.now c.args.number c.found_in.result formed (c.in_ok-rows.ensures.shown c.args.version clean is_open has) c.deref.ensures.value c.found_in.ensures.shown

pub returns-clause-exact : goal.returns-clause-exact
returns-clause-exact g c clean is_open has =
    found_exact c.args.version ((g.S.Session.state c.args.conn.now).now.trees (register_tree c.args.version)) c.in_ok-rows.rows.items c.deref.result.now c.args.number c.found_in.result (c.in_ok-rows.ensures.shown c.args.version clean is_open has) c.deref.ensures.value c.found_in.ensures.exact

pub returns-clause-nothing : goal.returns-clause-nothing
returns-clause-nothing g c clean is_open has =
    nothing_found ((g.S.Session.state c.args.conn.now).now.trees (register_tree c.args.version)) c.in_ok-rows.rows.items c.deref.result.now c.args.number c.found_in.result (c.in_ok-rows.ensures.shown c.args.version clean is_open has) c.deref.ensures.value c.found_in.ensures.nothing

pub returns-clause-blame : goal.returns-clause-blame
returns-clause-blame g c clean is_open has =
    let s0 = g.S.Session.state c.args.conn.now in
    let s1 = g.S.Session.state c.rows_at.new.conn in
    found_caused s0 s1 (filter (has_number c.args.number) (s0.now.trees (register_tree c.args.version))) c.in_ok-rows.rows.items c.deref.result.now c.found_in.result (c.in_ok-rows.ensures.shown c.args.version clean is_open has) c.deref.ensures.value c.found_in.ensures.fails

pub returns-in_err-rows-clause-look : goal.returns-in_err-rows-clause-look
returns-in_err-rows-clause-look g c =
    look_passed (Vec Row Global) c.in_err-rows.field-0.0 c.from_residual.result c.from_residual.ensures.1 (g.S.Session.state c.args.conn.now) (g.S.Session.state c.rows_at.new.conn) (c.in_err-rows.ensures.look c.args.version)

pub returns-clause-look : goal.returns-clause-look
returns-clause-look g c = look_after c.in_ok-rows.rows c.found_in.result (g.S.Session.state c.args.conn.now) (g.S.Session.state c.rows_at.new.conn) (c.in_ok-rows.ensures.look c.args.version)

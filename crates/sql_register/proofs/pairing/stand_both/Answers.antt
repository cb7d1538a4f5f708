use Rattle.std.proofs.Common.{Err, ◌≢◌}
use Rattle.sqlite.specs.State.{HasCleanDisk}
use Rattle.sql_register.proofs.BothContent.{stands_both}
use Rattle.desk_rules.specs.declared.history.standing.State.TheVariants.{NoInstruction}
use Rattle.sql_rows.specs.Standings.{AreStandings, standing_in}
use Rattle.sql_tables.specs.Ends.{ForCause}
use Rattle.sql_tables.proofs.CallLemmas.{write_then}
use Rattle.sql_tables.proofs.ResultLemmas.{no_error, on_error}
use Rattle.sql_register.proofs.CauseLemmas.{caused_from, wrote}
use Rattle.sql_register.proofs.FailedLemmas.{not_done, write_handed, write_none}
use Rattle.sql_register.proofs.PairCauses.{later_still}
use Rattle.sql_register.proofs.ReadLemmas.{was_clean}
use Rattle.sql_register.proofs.pairing.stand_both.Goals as goal

pub returns-clause-changed : goal.returns-clause-changed
returns-clause-changed g c clean is_open has standings =
    let clean_mid : HasCleanDisk (g.S.Session.state c.set_standing.new.conn) = was_clean _ _ c.set_standing-2.ensures.write.later clean in
    let mid = c.in_ok-set_standing.ensures.write.ok clean_mid is_open has in
    let first = c.in_ok-set_standing.ensures.changed clean_mid is_open has standings in
    stands_both (g.S.Session.state c.args.conn.now).now (g.S.Session.state c.set_standing.new.conn).now (g.S.Session.state c.set_standing-2.new.conn).now c.args.earlier c.args.later c.args.new_state c.set_standing-2.result
    c.in_ok-in_order.ensures.order first (c.set_standing-2.ensures.changed clean mid.is_open mid.schema first.kept)

pub returns-clause-blame : goal.returns-clause-blame
returns-clause-blame g c clean is_open has already some order small =
    let s0 = g.S.Session.state c.args.conn.now in
    let s1 = g.S.Session.state c.set_standing.new.conn in
    let s2 = g.S.Session.state c.set_standing-2.new.conn in
    caused_from c.set_standing-2.result s0 s1 s2 (AreStandings s1.now × ((standing_in s1.now c.args.later).state ≢ NoInstruction)) c.in_ok-set_standing.ensures.write.later c.set_standing-2.ensures.write.later
    (wrote _ s0 s1 (AreStandings s1.now × ((standing_in s1.now c.args.later).state ≢ NoInstruction)) c.in_ok-set_standing.ensures.write (λ clean1 open0 has0.
    let first = c.in_ok-set_standing.ensures.changed clean1 open0 has0 already.standings in
    (first.kept, later_still s0.now s1.now c.args.earlier c.args.later c.args.new_state c.in_ok-in_order.ensures.order first already.later)))
    (λ clean2 open1 has1 it. c.set_standing-2.ensures.blame clean2 open1 has1 it.0 it.1) clean is_open has

pub returns-in_err-in_order-clause-changed : goal.returns-in_err-in_order-clause-changed
returns-in_err-in_order-clause-changed g c clean is_open has standings = not_done c.from_residual.result c.in_err-in_order.field-0.0 c.from_residual.ensures.1 _

pub returns-in_err-in_order-clause-write : goal.returns-in_err-in_order-clause-write
returns-in_err-in_order-clause-write g c = write_none c.from_residual.result c.in_err-in_order.field-0.0 c.from_residual.ensures.1 (g.S.Session.state c.args.conn.now)

pub returns-in_err-in_order-clause-blame : goal.returns-in_err-in_order-clause-blame
returns-in_err-in_order-clause-blame g c clean is_open has already some order small =
    absurd (no_error {X = Unit {0}} (Err c.in_err-in_order.field-0.0) (λ e. ⊥) (c.in_err-in_order.ensures.all some order small))

pub returns-in_err-set_standing-clause-changed : goal.returns-in_err-set_standing-clause-changed
returns-in_err-set_standing-clause-changed g c clean is_open has standings = not_done c.from_residual-in_err-set_standing.result c.in_err-set_standing.field-0.0 c.from_residual-in_err-set_standing.ensures.1 _

pub returns-in_err-set_standing-clause-write : goal.returns-in_err-set_standing-clause-write
returns-in_err-set_standing-clause-write g c =
    write_handed c.from_residual-in_err-set_standing.result c.in_err-set_standing.field-0.0 c.from_residual-in_err-set_standing.ensures.1 (Unit {0}) (g.S.Session.state c.args.conn.now) (g.S.Session.state c.set_standing.new.conn) c.in_err-set_standing.ensures.write

pub returns-in_err-set_standing-clause-blame : goal.returns-in_err-set_standing-clause-blame
returns-in_err-set_standing-clause-blame g c clean is_open has already some order small =
    on_error c.from_residual-in_err-set_standing.result c.in_err-set_standing.field-0.0 (ForCause (g.S.Session.state c.args.conn.now) (g.S.Session.state c.set_standing.new.conn)) c.from_residual-in_err-set_standing.ensures.1
    (c.in_err-set_standing.ensures.blame clean is_open has already.standings already.earlier)

pub returns-clause-write : goal.returns-clause-write
returns-clause-write g c =
    write_then c.in_ok-set_standing.field-0 c.set_standing-2.result (g.S.Session.state c.args.conn.now) (g.S.Session.state c.set_standing.new.conn) (g.S.Session.state c.set_standing-2.new.conn) c.in_ok-set_standing.ensures.write c.set_standing-2.ensures.write

use Rattle.std.proofs.Common.{Ok, Err, Result, OnOk, ℕ, subst, ◌≢◌, sym}
use Rattle.sqlite.specs.State.{State}
use Rattle.sqlite.specs.declared.error.Error.{Error}
use Rattle.desk_register.specs.Changes.{CanCancel, cancelled, standing_at}
use Rattle.desk_rules.specs.declared.history.standing.State.TheVariants.{Cancelled, NoInstruction, Unmatched}
use Rattle.sql_rows.specs.Standings.{StandingsChanged, standing_in}
use Rattle.sql_tables.specs.Ends.{Stays}
use Rattle.sql_register.specs.Content.{content_in}
use Rattle.sql_register.specs.Holds.{Becomes, IsDesk}
use Rattle.sql_register.proofs.StandingContent.{cancels}
use Rattle.sql_register.proofs.CauseLemmas.{above, below}
use Rattle.sql_register.proofs.PairCauses.{is_some}
use Rattle.sql_tables.proofs.ResultLemmas.{no_error}
use Rattle.sql_register.proofs.FailedLemmas.{not_done, write_none}
use Rattle.sql_register.proofs.cancelling.cancel.Goals as goal

becomes : (old new : State) (n : ℕ) (r : Result (Unit {0}) Error) → IsDesk old.now → CanCancel (content_in old.now) n → OnOk r (Stays old new)
    → OnOk r (StandingsChanged old.now new.now (standing_at (standing_in old.now) n (record (standing_in old.now n) { state = Cancelled }))) → OnOk r (Becomes new.now (cancelled n (content_in old.now)))
becomes old new n (Ok tt) desk can stays stood = cancels old.now new.now n desk can stays.schema stood
becomes old new n (Err e) desk can stays stood = tt

pub returns-clause-changed : goal.returns-clause-changed
returns-clause-changed g c clean is_open has desk can =
    let s0 = g.S.Session.state c.args.conn.now in
    let s1 = g.S.Session.state c.set_state.new.conn in
    let stood = subst (λ k. OnOk c.set_state.result (StandingsChanged s0.now s1.now (standing_at (standing_in s0.now) k (record (standing_in s0.now k) { state = Cancelled })))) c.in_ok-number.ensures.same (c.set_state.ensures.changed clean is_open has desk.standings) in
    becomes s0 s1 c.args.number c.set_state.result desk can (c.set_state.ensures.write.ok clean is_open has) stood

pub returns-in_err-number-clause-blame : goal.returns-in_err-number-clause-blame
returns-in_err-number-clause-blame g c clean is_open has desk can =
    let db = (g.S.Session.state c.args.conn.now).now in
    absurd (no_error {X = ℕ} (Err c.in_err-number.field-0.0) (λ e. ⊥) (c.in_err-number.ensures.all (above db desk c.args.number can.instructed can.is_instruction) (below db desk c.args.number can.instructed can.is_instruction)))

pub returns-clause-blame : goal.returns-clause-blame
returns-clause-blame g c clean is_open has desk can =
    let s0 = g.S.Session.state c.args.conn.now in
    let some : (standing_in s0.now c.args.number).state ≢ NoInstruction = is_some (standing_in s0.now c.args.number).state Unmatched can.unmatched (λ e. cc) in
    c.set_state.ensures.blame clean is_open has desk.standings (subst (λ k. (standing_in s0.now k).state ≢ NoInstruction) (sym c.in_ok-number.ensures.same) some)

pub returns-in_err-number-clause-changed : goal.returns-in_err-number-clause-changed
returns-in_err-number-clause-changed g c clean is_open has desk can = not_done c.from_residual.result c.in_err-number.field-0.0 c.from_residual.ensures.1 _

pub returns-in_err-number-clause-write : goal.returns-in_err-number-clause-write
returns-in_err-number-clause-write g c = write_none c.from_residual.result c.in_err-number.field-0.0 c.from_residual.ensures.1 (g.S.Session.state c.args.conn.now)

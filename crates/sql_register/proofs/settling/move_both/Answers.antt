use Rattle.std.proofs.Common.{rules, true, false, Err, Ok, [], ◌∷◌, ℕ, ◌≡◌, ◌≢◌, ◌∙◌, ap, subst, sym}
use Rattle.sqlite.specs.Effect.{Database}
use Rattle.sqlite.specs.State.{HasCleanDisk}
use Rattle.desk_register.specs.Changes.{SidesFit}
use Rattle.desk_register.specs.declared.outcome.Outcome.TheVariants.{Lacks, Settled}
use Rattle.desk_rules.specs.declared.history.pair.Lack.TheVariants.{Money}
use Rattle.sql_rows.specs.Amounts.{AreAmounts}
use Rattle.sql_tables.specs.Control.{mark_at}
use Rattle.sql_tables.specs.Ends.{ForCause, IfSound}
use Rattle.sql_tables.proofs.ResultLemmas.{on_error}
use Rattle.sql_register.specs.Content.{content_in}
use Rattle.sql_register.proofs.CauseLemmas.{IsReady, caused_error, marked}
use Rattle.sql_register.proofs.FailedLemmas.{back_trial, no_value, save_trial, trial_fell, trial_handed}
use Rattle.sql_register.proofs.LegLemmas.{both_back, both_moved}
use Rattle.sql_register.proofs.WithinLemmas.{trial_as, write_marked}
use Rattle.sql_register.proofs.settling.move_both.Goals.{in-Lacks-Money, in_default, in_default-2}
use Rattle.sql_register.proofs.ReadLemmas.{was_clean}
use Rattle.sql_register.proofs.settling.move_both.Goals as goal

false_true : false ≡ true → ⊥
false_true e = cc

settled_lacks : Settled ≡ Lacks Money → ⊥
settled_lacks e = cc

pub returns-in_err-outcome-clause-blame : goal.returns-in_err-outcome-clause-blame
returns-in_err-outcome-clause-blame g c clean is_open has amounts fits inside none =
    let s0 = g.S.Session.state c.args.conn.now in
    let s1 = g.S.Session.state c.save.new.conn in
    let s2 = g.S.Session.state c.move_legs.new.conn in
    let e = c.in_err-outcome.field-0.0 in
    let pair = c.args.pair.now in
    let saved : IfSound s0 s1 (IsReady s1 (s1.now ≡ s0.now)) = (λ clean1 open0 has0.
    let saves = c.in_ok-save.ensures.ok clean1 open0 has0 inside none in
    record { is_open = saves.is_open; schema = ap (λ (d : Database). d.schema) saves.now ∙ has0; holds = saves.now }) in
    on_error c.from_residual-in_err-outcome.result e (ForCause s0 s2) c.from_residual-in_err-outcome.ensures.1
    (caused_error e s0 s1 s2 (s1.now ≡ s0.now) c.in_ok-save.ensures.later c.in_err-outcome.ensures.write.later saved
    (λ clean2 open1 has1 same. c.in_err-outcome.ensures.blame clean2 open1 has1 (subst AreAmounts (sym same) amounts) (subst (λ (d : Database). SidesFit (content_in d) pair.earlier pair.later) (sym same) fits)) clean is_open has)

pub returns-in_err-save-clause-changed : goal.returns-in_err-save-clause-changed
returns-in_err-save-clause-changed g c clean is_open has amounts fits inside none = no_value c.from_residual.result c.in_err-save.field-0.0 c.from_residual.ensures.1 _

pub returns-in_err-outcome-clause-changed : goal.returns-in_err-outcome-clause-changed
returns-in_err-outcome-clause-changed g c clean is_open has amounts fits inside none = no_value c.from_residual-in_err-outcome.result c.in_err-outcome.field-0.0 c.from_residual-in_err-outcome.ensures.1 _

pub returns-in_err-go_back-clause-changed : goal.returns-in_err-go_back-clause-changed
returns-in_err-go_back-clause-changed g c clean is_open has amounts fits inside none = no_value c.from_residual-in_err-go_back.result c.in_err-go_back.field-0.0 c.from_residual-in_err-go_back.ensures.1 _

pub returns-in_err-save-clause-trial : goal.returns-in_err-save-clause-trial
returns-in_err-save-clause-trial g c =
    let s0 = g.S.Session.state c.args.conn.now in
    let s1 = g.S.Session.state c.save.new.conn in
    let e = c.in_err-save.ensures in
    trial_handed c.from_residual.result c.in_err-save.field-0.0 c.from_residual.ensures.1 ℕ s0 s1 _ _ (save_trial {Y = ℕ} (Err c.in_err-save.field-0.0) s0 s1 e.ok e.err e.why e.opened e.later)

pub returns-in_err-outcome-clause-trial : goal.returns-in_err-outcome-clause-trial
returns-in_err-outcome-clause-trial g c =
    let s0 = g.S.Session.state c.args.conn.now in
    let s1 = g.S.Session.state c.save.new.conn in
    let s2 = g.S.Session.state c.move_legs.new.conn in
    trial_fell c.from_residual-in_err-outcome.result c.in_err-outcome.field-0.0 c.from_residual-in_err-outcome.ensures.1 _ c.in_ok-save.field-0 s0 s1 s2 _ (save_trial (Ok c.in_ok-save.field-0) s0 s1 c.in_ok-save.ensures.ok c.in_ok-save.ensures.err c.in_ok-save.ensures.why c.in_ok-save.ensures.opened c.in_ok-save.ensures.later) c.in_err-outcome.ensures.write

pub returns-in_err-go_back-clause-trial : goal.returns-in_err-go_back-clause-trial
returns-in_err-go_back-clause-trial g c =
    let s0 = g.S.Session.state c.args.conn.now in
    let s1 = g.S.Session.state c.save.new.conn in
    let s2 = g.S.Session.state c.move_legs.new.conn in
    let s3 = g.S.Session.state c.go_back.new.conn in
    let e = c.in_err-go_back.ensures in
    let moved = write_marked c.in_ok-save.field-0 (Ok c.in_ok-outcome.outcome) s0 s1 s2 (save_trial (Ok c.in_ok-save.field-0) s0 s1 c.in_ok-save.ensures.ok c.in_ok-save.ensures.err c.in_ok-save.ensures.why c.in_ok-save.ensures.opened c.in_ok-save.ensures.later) c.in_ok-outcome.ensures.write in
    trial_handed c.from_residual-in_err-go_back.result c.in_err-go_back.field-0.0 c.from_residual-in_err-go_back.ensures.1 ℕ s0 s3 _ _ (back_trial {Y = ℕ} c.in_ok-outcome.outcome (Err c.in_err-go_back.field-0.0) s0 s2 s3 moved e.ok e.err e.why e.opened e.later)

pub returns-in_err-save-clause-blame : goal.returns-in_err-save-clause-blame
returns-in_err-save-clause-blame g c clean is_open has amounts fits inside none =
    on_error c.from_residual.result c.in_err-save.field-0.0 (ForCause (g.S.Session.state c.args.conn.now) (g.S.Session.state c.save.new.conn)) c.from_residual.ensures.1 (c.in_err-save.ensures.blame clean is_open has)

pub returns-in_err-go_back-clause-blame : goal.returns-in_err-go_back-clause-blame
returns-in_err-go_back-clause-blame g c clean is_open has amounts fits inside none =
    let s0 = g.S.Session.state c.args.conn.now in
    let s1 = g.S.Session.state c.save.new.conn in
    let s2 = g.S.Session.state c.move_legs.new.conn in
    let s3 = g.S.Session.state c.go_back.new.conn in
    let e = c.in_err-go_back.field-0.0 in
    let saved = save_trial (Ok c.in_ok-save.field-0) s0 s1 c.in_ok-save.ensures.ok c.in_ok-save.ensures.err c.in_ok-save.ensures.why c.in_ok-save.ensures.opened c.in_ok-save.ensures.later in
    let moved = write_marked c.in_ok-save.field-0 (Ok c.in_ok-outcome.outcome) s0 s1 s2 saved c.in_ok-outcome.ensures.write in
    on_error c.from_residual-in_err-go_back.result e (ForCause s0 s3) c.from_residual-in_err-go_back.ensures.1
    (caused_error e s0 s2 s3 (s2.marks ≡ mark_at s0.now ∷ []) moved.later c.in_err-go_back.ensures.later (marked c.in_ok-outcome.outcome s0 s2 (s2.marks ≡ mark_at s0.now ∷ []) moved inside none (λ clean1 open0 has0 mark. mark.marks))
    (λ clean3 open2 has2 it. c.in_err-go_back.ensures.blame clean3 open2 has2 s0.now it) clean is_open has)

pub returns-in_ok-go_back-clause-trial : goal.returns-in_ok-go_back-clause-trial
returns-in_ok-go_back-clause-trial g c =
    let s0 = g.S.Session.state c.args.conn.now in
    let s1 = g.S.Session.state c.save.new.conn in
    let s2 = g.S.Session.state c.move_legs.new.conn in
    let s3 = g.S.Session.state c.go_back.new.conn in
    let back = c.in_ok-go_back.ensures in
    let saved = save_trial (Ok c.in_ok-save.field-0) s0 s1 c.in_ok-save.ensures.ok c.in_ok-save.ensures.err c.in_ok-save.ensures.why c.in_ok-save.ensures.opened c.in_ok-save.ensures.later in
    let moved = write_marked c.in_ok-save.field-0 (Ok c.in_ok-outcome.outcome) s0 s1 s2 saved c.in_ok-outcome.ensures.write in
    trial_as c.in_ok-go_back.field-0 c.in_ok-outcome.outcome s0 s3 _ (back_trial c.in_ok-outcome.outcome (Ok c.in_ok-go_back.field-0) s0 s2 s3 moved back.ok back.err back.why back.opened back.later)

pub returns-in_ok-go_back-clause-blame : goal.returns-in_ok-go_back-clause-blame
returns-in_ok-go_back-clause-blame g c clean is_open has amounts fits inside none = tt

pub returns-in_ok-go_back-clause-changed : goal.returns-in_ok-go_back-clause-changed
returns-in_ok-go_back-clause-changed g c clean is_open has amounts fits inside none =
    let s0 = g.S.Session.state c.args.conn.now in
    let s1 = g.S.Session.state c.save.new.conn in
    let s2 = g.S.Session.state c.move_legs.new.conn in
    let s3 = g.S.Session.state c.go_back.new.conn in
    let p = c.args.pair.now in
    let clean2 : HasCleanDisk s2 = was_clean _ _ c.in_ok-go_back.ensures.later clean in
    let clean1 : HasCleanDisk s1 = was_clean _ _ c.in_ok-outcome.ensures.write.later clean2 in
    let saves = c.in_ok-save.ensures.ok clean1 is_open has inside none in
    let has1 = ap (λ (d : Database). d.schema) saves.now ∙ has in
    let stays = c.in_ok-outcome.ensures.write.ok clean2 saves.is_open has1 in
    let legs = c.in_ok-outcome.ensures.changed clean2 saves.is_open has1 (subst AreAmounts (sym saves.now) amounts) (subst (λ (d : Database). SidesFit (content_in d) p.earlier p.later) (sym saves.now) fits) in
    let back = c.in_ok-go_back.ensures.ok clean stays.is_open stays.schema s0.now (stays.marks ∙ saves.marks) in
    let lacks : c.in_ok-outcome.outcome ≡ Lacks Money = elim c.match-matches.branch [
      | in-Lacks-Money w ↦ search rules
      | in_default w ↦ absurd (false_true (sym w.matches-is ∙ c.if-matches.true))
      | in_default-2 w ↦ absurd (false_true (sym w.matches-is ∙ c.if-matches.true))
    ] in
    both_back s0.now s1.now s2.now p.earlier p.later c.in_ok-outcome.outcome saves.now legs s3.now back.now amounts lacks

pub returns-else-matches-clause-trial : goal.returns-else-matches-clause-trial
returns-else-matches-clause-trial g c =
    let s0 = g.S.Session.state c.args.conn.now in
    let s1 = g.S.Session.state c.save.new.conn in
    let s2 = g.S.Session.state c.move_legs.new.conn in
    let saved = save_trial (Ok c.in_ok-save.field-0) s0 s1 c.in_ok-save.ensures.ok c.in_ok-save.ensures.err c.in_ok-save.ensures.why c.in_ok-save.ensures.opened c.in_ok-save.ensures.later in
    write_marked c.in_ok-save.field-0 (Ok c.in_ok-outcome.outcome) s0 s1 s2 saved c.in_ok-outcome.ensures.write

pub returns-else-matches-clause-blame : goal.returns-else-matches-clause-blame
returns-else-matches-clause-blame g c clean is_open has amounts fits inside none = tt

pub returns-else-matches-clause-changed : goal.returns-else-matches-clause-changed
returns-else-matches-clause-changed g c clean is_open has amounts fits inside none =
    let s0 = g.S.Session.state c.args.conn.now in
    let s1 = g.S.Session.state c.save.new.conn in
    let s2 = g.S.Session.state c.move_legs.new.conn in
    let p = c.args.pair.now in
    let clean1 : HasCleanDisk s1 = was_clean _ _ c.in_ok-outcome.ensures.write.later clean in
    let saves = c.in_ok-save.ensures.ok clean1 is_open has inside none in
    let has1 = ap (λ (d : Database). d.schema) saves.now ∙ has in
    let legs = c.in_ok-outcome.ensures.changed clean saves.is_open has1 (subst AreAmounts (sym saves.now) amounts) (subst (λ (d : Database). SidesFit (content_in d) p.earlier p.later) (sym saves.now) fits) in
    let goes : c.in_ok-outcome.outcome ≢ Lacks Money = elim c.match-matches.branch [
      | in-Lacks-Money w ↦ absurd (false_true (sym c.if-matches.false ∙ w.matches-is))
      | in_default w ↦ search rules
      | in_default-2 w ↦ λ e. settled_lacks (sym w.in_default.is ∙ e)
    ] in
    both_moved s0.now s1.now s2.now p.earlier p.later c.in_ok-outcome.outcome saves.now legs goes

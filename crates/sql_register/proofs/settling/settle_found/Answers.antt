use Rattle.std.proofs.Common.{Err, ℕ, ◌∙◌, subst, sym, Ok, ◌≡◌, [], ◌∷◌}
use Rattle.sqlite.specs.Effect.{Database}
use Rattle.sqlite.specs.State.{HasCleanDisk}
use Rattle.desk_register.specs.Changes.{TriesPair}
use Rattle.sql_register.specs.Content.{content_in}
use Rattle.sql_register.specs.Holds.{IsDesk}
use Rattle.sql_register.proofs.TrialLemmas.{moved_desk, sides_fit, triable, tried}
use Rattle.sql_register.proofs.WithinLemmas.{release_trial, write_marked, trial_as}
use Rattle.sql_tables.specs.Control.{mark_at}
use Rattle.sql_tables.specs.Ends.{ForCause}
use Rattle.sql_tables.proofs.CallLemmas.{later_then}
use Rattle.sql_tables.proofs.ResultLemmas.{on_error}
use Rattle.sql_register.specs.Pairs.{StandAlready, StandBoth}
use Rattle.sql_register.proofs.CauseLemmas.{above, below, caused_error, marked, wrote_then}
use Rattle.sql_register.proofs.FailedLemmas.{no_value, trial_fell, trial_handed}
use Rattle.sql_register.proofs.PairCauses.{moved_stands}
use Rattle.sql_register.proofs.ReadLemmas.{was_clean}
use Rattle.sql_register.proofs.settling.settle_found.Goals as goal

pub returns-clause-trial : goal.returns-clause-trial
returns-clause-trial g c =
    let s0 = g.S.Session.state c.args.conn.now in
    let s2 = g.S.Session.state c.move_both.new.conn in
    let s3 = g.S.Session.state c.stand_both.new.conn in
    let s4 = g.S.Session.state c.release.new.conn in
    let t3 = write_marked c.in_ok-outcome.outcome (Ok c.in_ok-stand_both.field-0) s0 s2 s3 c.in_ok-outcome.ensures.trial c.in_ok-stand_both.ensures.write in
    trial_as c.in_ok-release.field-0 c.in_ok-outcome.outcome s0 s4 _ (release_trial c.in_ok-stand_both.field-0 (Ok c.in_ok-release.field-0) s0 s3 s4 t3 c.in_ok-release.ensures.ok c.in_ok-release.ensures.err c.in_ok-release.ensures.why c.in_ok-release.ensures.opened c.in_ok-release.ensures.later)

pub returns-clause-changed : goal.returns-clause-changed
returns-clause-changed g c clean is_open has desk day can pair inside none =
    let s0 = g.S.Session.state c.args.conn.now in
    let s2 = g.S.Session.state c.move_both.new.conn in
    let s3 = g.S.Session.state c.stand_both.new.conn in
    let s4 = g.S.Session.state c.release.new.conn in
    let clean3 : HasCleanDisk s3 = was_clean _ _ c.in_ok-release.ensures.later clean in
    let clean2 : HasCleanDisk s2 = was_clean _ _ c.in_ok-stand_both.ensures.write.later clean3 in
    let p = c.args.pair.now in
    let content = content_in s0.now in
    let matched = triable content p.mate p.number day p.earlier p.later can pair in
    let fits = sides_fit content p.mate p.number day p.earlier p.later can pair in
    let moves = c.in_ok-outcome.ensures.changed clean2 is_open has desk.amounts fits inside none in
    let marked2 = c.in_ok-outcome.ensures.trial.ok clean2 is_open has inside none in
    let moved = moved_desk s0.now s2.now p.mate p.number p.earlier p.later c.in_ok-outcome.outcome desk matched moves marked2.schema in
    let stood = subst (λ how. StandBoth s2.now s3.now p.mate p.number how) c.state_then.ensures.same (c.in_ok-stand_both.ensures.changed clean3 marked2.is_open marked2.schema moved.desk.standings) in
    let stays3 = c.in_ok-stand_both.ensures.write.ok clean3 marked2.is_open marked2.schema in
    let releases = c.in_ok-release.ensures.ok clean stays3.is_open stays3.schema s0.now (stays3.marks ∙ marked2.marks) in
    let all = tried s0.now s2.now p.mate p.number p.earlier p.later c.in_ok-outcome.outcome desk matched moves marked2.schema s3.now stays3.schema stood in
    subst (λ (d : Database). IsDesk d × TriesPair content p.number c.in_ok-outcome.outcome (content_in d)) (sym releases.now) all

pub returns-in_err-outcome-clause-blame : goal.returns-in_err-outcome-clause-blame
returns-in_err-outcome-clause-blame g c clean is_open has desk day can pair inside none =
    let s0 = g.S.Session.state c.args.conn.now in
    let p = c.args.pair.now in
    let e = c.in_err-outcome.field-0.0 in
    on_error c.from_residual.result e (ForCause s0 (g.S.Session.state c.move_both.new.conn)) c.from_residual.ensures.1
    (c.in_err-outcome.ensures.blame clean is_open has desk.amounts (sides_fit (content_in s0.now) p.mate p.number day p.earlier p.later can pair) inside none)

pub returns-in_err-stand_both-clause-blame : goal.returns-in_err-stand_both-clause-blame
returns-in_err-stand_both-clause-blame g c clean is_open has desk day can pair inside none =
    let s0 = g.S.Session.state c.args.conn.now in
    let s2 = g.S.Session.state c.move_both.new.conn in
    let s3 = g.S.Session.state c.stand_both.new.conn in
    let p = c.args.pair.now in
    let content = content_in s0.now in
    let e = c.in_err-stand_both.field-0.0 in
    let matched = triable content p.mate p.number day p.earlier p.later can pair in
    let fits = sides_fit content p.mate p.number day p.earlier p.later can pair in
    let Asks = StandAlready s2.now p.mate p.number in
    let clean2 : HasCleanDisk s2 = was_clean _ _ c.in_err-stand_both.ensures.write.later clean in
    let moves = c.in_ok-outcome.ensures.changed clean2 is_open has desk.amounts fits inside none in
    let moved = marked c.in_ok-outcome.outcome s0 s2 Asks c.in_ok-outcome.ensures.trial inside none (λ clean1 open0 has0 mark.
    moved_stands s0.now s2.now p.mate p.number p.earlier p.later c.in_ok-outcome.outcome matched (moved_desk s0.now s2.now p.mate p.number p.earlier p.later c.in_ok-outcome.outcome desk matched moves mark.schema)) in
    on_error c.from_residual-in_err-stand_both.result e (ForCause s0 s3) c.from_residual-in_err-stand_both.ensures.1
    (caused_error e s0 s2 s3 Asks c.in_ok-outcome.ensures.trial.later c.in_err-stand_both.ensures.write.later moved (λ clean3 open2 has2 it. c.in_err-stand_both.ensures.blame clean3 open2 has2 it (above s0.now desk p.mate p.earlier pair.is_earlier) matched.two (below s0.now desk p.number p.later pair.is_later)) clean is_open has)

pub returns-in_err-release-clause-blame : goal.returns-in_err-release-clause-blame
returns-in_err-release-clause-blame g c clean is_open has desk day can pair inside none =
    let s0 = g.S.Session.state c.args.conn.now in
    let s2 = g.S.Session.state c.move_both.new.conn in
    let s3 = g.S.Session.state c.stand_both.new.conn in
    let s4 = g.S.Session.state c.release.new.conn in
    let e = c.in_err-release.field-0.0 in
    let moved = marked c.in_ok-outcome.outcome s0 s2 (s2.marks ≡ mark_at s0.now ∷ []) c.in_ok-outcome.ensures.trial inside none (λ clean1 open0 has0 mark. mark.marks) in
    let closed = wrote_then _ s0 s2 s3 (s2.marks ≡ mark_at s0.now ∷ []) (s3.marks ≡ mark_at s0.now ∷ []) moved c.in_ok-stand_both.ensures.write (λ clean3 open2 has2 it. (c.in_ok-stand_both.ensures.write.ok clean3 open2 has2).marks ∙ it) in
    on_error c.from_residual-in_err-release.result e (ForCause s0 s4) c.from_residual-in_err-release.ensures.1
    (caused_error e s0 s3 s4 (s3.marks ≡ mark_at s0.now ∷ []) (later_then s0 s2 s3 c.in_ok-outcome.ensures.trial.later c.in_ok-stand_both.ensures.write.later) c.in_err-release.ensures.later closed
    (λ clean4 open3 has3 it. c.in_err-release.ensures.blame clean4 open3 has3 s0.now it) clean is_open has)

pub returns-in_err-outcome-clause-changed : goal.returns-in_err-outcome-clause-changed
returns-in_err-outcome-clause-changed g c clean is_open has desk day can pair inside none = no_value c.from_residual.result c.in_err-outcome.field-0.0 c.from_residual.ensures.1 _

pub returns-in_err-stand_both-clause-changed : goal.returns-in_err-stand_both-clause-changed
returns-in_err-stand_both-clause-changed g c clean is_open has desk day can pair inside none = no_value c.from_residual-in_err-stand_both.result c.in_err-stand_both.field-0.0 c.from_residual-in_err-stand_both.ensures.1 _

pub returns-in_err-release-clause-changed : goal.returns-in_err-release-clause-changed
returns-in_err-release-clause-changed g c clean is_open has desk day can pair inside none = no_value c.from_residual-in_err-release.result c.in_err-release.field-0.0 c.from_residual-in_err-release.ensures.1 _

pub returns-in_err-outcome-clause-trial : goal.returns-in_err-outcome-clause-trial
returns-in_err-outcome-clause-trial g c =
    let s0 = g.S.Session.state c.args.conn.now in
    let s2 = g.S.Session.state c.move_both.new.conn in
    trial_handed c.from_residual.result c.in_err-outcome.field-0.0 c.from_residual.ensures.1 _ s0 s2 _ _ c.in_err-outcome.ensures.trial

pub returns-in_err-stand_both-clause-trial : goal.returns-in_err-stand_both-clause-trial
returns-in_err-stand_both-clause-trial g c =
    let s0 = g.S.Session.state c.args.conn.now in
    let s2 = g.S.Session.state c.move_both.new.conn in
    let s3 = g.S.Session.state c.stand_both.new.conn in
    trial_fell c.from_residual-in_err-stand_both.result c.in_err-stand_both.field-0.0 c.from_residual-in_err-stand_both.ensures.1 _ c.in_ok-outcome.outcome s0 s2 s3 _ c.in_ok-outcome.ensures.trial c.in_err-stand_both.ensures.write

pub returns-in_err-release-clause-trial : goal.returns-in_err-release-clause-trial
returns-in_err-release-clause-trial g c =
    let s0 = g.S.Session.state c.args.conn.now in
    let s2 = g.S.Session.state c.move_both.new.conn in
    let s3 = g.S.Session.state c.stand_both.new.conn in
    let s4 = g.S.Session.state c.release.new.conn in
    let t3 = write_marked c.in_ok-outcome.outcome (Ok c.in_ok-stand_both.field-0) s0 s2 s3 c.in_ok-outcome.ensures.trial c.in_ok-stand_both.ensures.write in
    let e = c.in_err-release.ensures in
    trial_handed c.from_residual-in_err-release.result c.in_err-release.field-0.0 c.from_residual-in_err-release.ensures.1 ℕ s0 s4 _ _ (release_trial {Y = ℕ} c.in_ok-stand_both.field-0 (Err c.in_err-release.field-0.0) s0 s3 s4 t3 e.ok e.err e.why e.opened e.later)

use Rattle.std.proofs.Common.{◌≡◌, length, refl, subst, sym, take, rules}
use Rattle.std.specs.Prelude.{Err}
use Rattle.std.proofs.lemmas.Option.{slice_get_read}
use Rattle.desk_engine.specs.KeptHistory.{HoldsKept}
use Rattle.desk_engine.proofs.ReplayLemmas.{blames_done, blames_no_step, breaks_off, done_none, done_then, exact_all, holds_all, holds_next, keeps_some, later_done, later_none}
use Rattle.desk_engine.proofs.TakenLemmas.{exact_never, never_kept}
use Rattle.desk_engine.proofs.replaying.replay.Goals as goal

pub loop-one-init : goal.loop-one-init
loop-one-init g c =
    let v0 = g.R.Register.view c.args.register.now in
    record { done = done_none v0 c.requires.stage; later = later_none v0; held = λ honest sure. c.requires.empty honest sure }

pub take_kept-requires-clause-keeps : goal.take_kept-requires-clause-keeps
take_kept-requires-clause-keeps g c = λ honest sure.
    let v0 = g.R.Register.view c.args.register.now in
    let v1 = g.R.Register.view c.loop-one.register in
    let before = c.loop-one.invariant.later in
    keeps_some v0.room v1.room c.args.kept.now c.loop-one.one-index v1.content before.room (c.loop-one.invariant.held honest (before.sure honest sure))

pub returns-in_err-take_kept-clause-err : goal.returns-in_err-take_kept-clause-err
returns-in_err-take_kept-clause-err g c =
    let v0 = g.R.Register.view c.args.register.now in
    let v1 = g.R.Register.view c.loop-one.register in
    let v2 = g.R.Register.view c.take_kept.new.register in
    let step = c.in_err-take_kept.ensures in
    let is : c.from_residual.result ≡ Err c.in_err-take_kept.field-0.0 = search rules in
    rw is (breaks_off c.in_err-take_kept.field-0.0 v0 v1 v2 c.args.kept.now c.loop-one.one-index step.later c.loop-one.invariant.held step.err)

pub returns-in_err-take_kept-clause-later : goal.returns-in_err-take_kept-clause-later
returns-in_err-take_kept-clause-later g c =
    later_done (g.R.Register.view c.args.register.now) (g.R.Register.view c.loop-one.register) (g.R.Register.view c.take_kept.new.register)
    c.loop-one.invariant.done c.loop-one.invariant.later c.in_err-take_kept.ensures.later

pub returns-in_err-take_kept-clause-blame : goal.returns-in_err-take_kept-clause-blame
returns-in_err-take_kept-clause-blame g c =
    let is : c.from_residual.result ≡ Err c.in_err-take_kept.field-0.0 = search rules in
    rw is
    (blames_done (g.R.Register.view c.args.register.now) (g.R.Register.view c.loop-one.register) (g.R.Register.view c.take_kept.new.register)
    c.loop-one.invariant.done c.loop-one.invariant.later c.in_err-take_kept.ensures.later c.in_err-take_kept.field-0.0 c.in_err-take_kept.ensures.blame)

pub returns-then-not-branch-clause-exact : goal.returns-then-not-branch-clause-exact
returns-then-not-branch-clause-exact g c honest sure =
    let old = g.R.Register.view c.args.register.now in
    let mid = g.R.Register.view c.loop-one.register in
    let now = g.R.Register.view c.take_kept.new.register in
    let kept = c.args.kept.now in
    let i = c.loop-one.one-index in
    let still = c.take_kept.ensures.later.honest honest in
    let room : mid.room ≡ old.room = c.loop-one.invariant.later.room in
    let held = subst (λ r. HoldsKept r (take i kept) mid.content) (sym room) (c.loop-one.invariant.held still sure) in
    let next = c.in_ok-take_kept.ensures.next (take i kept) honest (c.loop-one.invariant.done.sure still sure) held in
    exact_never old.room kept (never_kept old.room mid.room kept i c.one-item.result c.in_ok-take_kept.field-0 now.content room
    (slice_get_read kept (length kept) i c.one-item.result refl c.loop-one-test.true c.one-item.is) next c.if-not-branch.true)

pub returns-then-not-branch-clause-ok : goal.returns-then-not-branch-clause-ok
returns-then-not-branch-clause-ok g c =
    done_then (g.R.Register.view c.args.register.now) (g.R.Register.view c.loop-one.register) (g.R.Register.view c.take_kept.new.register)
    c.loop-one.invariant.done c.loop-one.invariant.later c.in_ok-take_kept.ensures.later c.in_ok-take_kept.ensures.ok

pub returns-then-not-branch-clause-later : goal.returns-then-not-branch-clause-later
returns-then-not-branch-clause-later g c =
    later_done (g.R.Register.view c.args.register.now) (g.R.Register.view c.loop-one.register) (g.R.Register.view c.take_kept.new.register)
    c.loop-one.invariant.done c.loop-one.invariant.later c.in_ok-take_kept.ensures.later

pub returns-then-not-branch-clause-blame : goal.returns-then-not-branch-clause-blame
returns-then-not-branch-clause-blame g c = blames_no_step _ (g.R.Register.view c.args.register.now) (g.R.Register.view c.take_kept.new.register)

pub loop-one-preserved : goal.loop-one-preserved
loop-one-preserved g c =
    let v0 = g.R.Register.view c.args.register.now in
    let v1 = g.R.Register.view c.loop-one.register in
    let v2 = g.R.Register.view c.take_kept.new.register in
    let i = c.loop-one.invariant in
    let step = c.in_ok-take_kept.ensures in
    let kept = c.args.kept.now in
    let at = slice_get_read kept (length kept) c.loop-one.one-index c.one-item.result refl c.loop-one-test.true c.one-item.is in record {
      done = done_then v0 v1 v2 i.done i.later step.later step.ok;
      later = later_done v0 v1 v2 i.done i.later step.later;
      held = λ honest sure.
          let still = step.later.honest honest in
          holds_next v0.room v1.room kept c.loop-one.one-index v1.content i.later.room (i.held still sure) c.one-item.result c.in_ok-take_kept.field-0 v2.content at
          (λ held. step.next (take c.loop-one.one-index kept) honest (i.done.sure still sure) held) c.if-not-branch.false;
    }

pub returns-clause-exact : goal.returns-clause-exact
returns-clause-exact g c = λ honest sure.
    let v0 = g.R.Register.view c.args.register.now in
    let v1 = g.R.Register.view c.loop-one.register in
    exact_all v0.room c.args.kept.now v1.content (holds_all v0.room c.args.kept.now c.loop-one.one-index v1.content c.loop-one-test.false (c.loop-one.invariant.held honest sure))

pub returns-clause-held : goal.returns-clause-held
returns-clause-held g c = λ honest sure is.
    let v0 = g.R.Register.view c.args.register.now in
    let v1 = g.R.Register.view c.loop-one.register in
    holds_all v0.room c.args.kept.now c.loop-one.one-index v1.content c.loop-one-test.false (c.loop-one.invariant.held honest sure)

pub returns-clause-blame : goal.returns-clause-blame
returns-clause-blame g c = blames_no_step _ (g.R.Register.view c.args.register.now) (g.R.Register.view c.loop-one.register)

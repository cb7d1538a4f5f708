use Rattle.std.proofs.Common.{ap, ◌∙◌, subst, sym, IsTrue}
use Rattle.sqlite.specs.State.{HasCleanDisk}
use Rattle.desk_codes.specs.Number.{number_of}
use Rattle.desk_register.specs.Changes.{CanSettle}
use Rattle.desk_register.specs.View.{IsChange}
use Rattle.sql_register.specs.Content.{content_in}
use Rattle.sql_register.specs.Kept.{Kept, shown}
use Rattle.sql_register.proofs.KeptLemmas.{bounded_later, ok_first}
use Rattle.sql_register.proofs.ReadLemmas.{was_clean}
use Rattle.sql_register.proofs.ChangeLemmas.{tried_kept, trial_said}
use Rattle.sql_register.proofs.calls.SqlRegisterRegister.settle_pair.Goals as goal

pub invariant_of-self : goal.invariant_of-self
invariant_of-self g c =
    let old = g.S.Session.state c.self.inside.conn in
    let new = g.S.Session.state c.settle_pair.new.conn in
    let begun = ap (λ k. k.stage) c.self.view_is ∙ c.requires.stage in
    let can = subst (λ (k : Kept _). HasCleanDisk (g.S.Session.state k.connection) → IsTrue (g.S.Session.state k.connection).is_open → CanSettle (content_in (g.S.Session.state k.connection).now) c.args.number (number_of c.args._day)) (sym c.self.view_is) c.requires.fits in
    let was = was_clean old new c.settle_pair.ensures.trial.later in (
      tried_kept old new c.self.inside.stage c.told.new.stage c.self.inside.limit c.settle_pair.result c.told.result begun c.self.invariant.0 c.settle_pair.ensures.trial c.told.ensures
          (λ clean is_open has desk inside none. ok_first _ _ c.settle_pair.result (c.settle_pair.ensures.changed clean is_open has desk (number_of c.args._day) (can (was clean) is_open) inside none)),
      bounded_later old new c.self.inside.limit c.self.invariant.1 c.settle_pair.ensures.trial.later,
    )

pub returns-clause-change : goal.returns-clause-change
returns-clause-change g c =
    let old = g.S.Session.state c.self.inside.conn in
    let new = g.S.Session.state c.settle_pair.new.conn in
    let begun = ap (λ k. k.stage) c.self.view_is ∙ c.requires.stage in
    let can = subst (λ (k : Kept _). HasCleanDisk (g.S.Session.state k.connection) → IsTrue (g.S.Session.state k.connection).is_open → CanSettle (content_in (g.S.Session.state k.connection).now) c.args.number (number_of c.args._day)) (sym c.self.view_is) c.requires.fits in
    let was = was_clean old new c.settle_pair.ensures.trial.later in
    subst (λ (k : Kept _). IsChange c.told.result (shown (g.S.Session.state k.connection) k.stage k.room) (shown new c.told.new.stage c.self.inside.limit)) c.self.view_is
    (trial_said old new c.self.inside.stage c.told.new.stage c.self.inside.limit c.settle_pair.result c.told.result begun c.self.invariant.0 c.self.invariant.1.unlimited c.settle_pair.ensures.trial
    (λ clean is_open has desk inside none. c.settle_pair.ensures.blame clean is_open has desk (number_of c.args._day) (can (was clean) is_open) inside none) c.told.ensures)

use Rattle.std.proofs.Common.{ap, sym, subst, ◌∙◌}
use Rattle.desk_register.specs.Changes.{CanCancelPair}
use Rattle.desk_register.specs.View.{View, IfTrusted}
use Rattle.desk_file.proofs.ChangeLemmas.{tables_fit}
use Rattle.desk_file.proofs.mirror.calls.MirroredRegisterRegister.cancel_pair.Goals as goal

pub cancel_pair-requires-clause-fits : goal.cancel_pair-requires-clause-fits
cancel_pair-requires-clause-fits g c =
    let Fits : View → Type 0 = λ v. IfTrusted v v (CanCancelPair v.content c.args.earlier c.args.later) in
    tables_fit (λ room content. CanCancelPair content c.args.earlier c.args.later) _ _ _ (g.met.M.MemoryRegister.has_no_device _) c.self.invariant (ap (λ k. k.stage) c.self.view_is ∙ c.requires.stage)
    (subst (λ k. Fits (g.M.Register.view k)) (sym (ap (λ k. k.memory) c.self.view_is)) c.requires.fits)

pub cancel_pair-requires-2-clause-fits : goal.cancel_pair-requires-2-clause-fits
cancel_pair-requires-2-clause-fits g c =
    let Fits : View → Type 0 = λ v. IfTrusted v v (CanCancelPair v.content c.args.earlier c.args.later) in
    subst (λ k. Fits (g.M.Register.view k)) (sym (ap (λ k. k.memory) c.self.view_is)) c.requires.fits

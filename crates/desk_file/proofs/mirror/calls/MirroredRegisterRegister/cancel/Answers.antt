use Rattle.std.proofs.Common.{ap, sym, subst, ◌∙◌}
use Rattle.desk_register.specs.Changes.{CanCancel}
use Rattle.desk_register.specs.View.{View, IfTrusted}
use Rattle.desk_file.proofs.ChangeLemmas.{tables_fit}
use Rattle.desk_file.proofs.mirror.calls.MirroredRegisterRegister.cancel.Goals as goal

pub cancel-requires-clause-fits : goal.cancel-requires-clause-fits
cancel-requires-clause-fits g c =
    let Fits : View → Type 0 = λ v. IfTrusted v v (CanCancel v.content c.args.number) in
    tables_fit (λ room content. CanCancel content c.args.number) _ _ _ (g.met.M.MemoryRegister.has_no_device _) c.self.invariant (ap (λ k. k.stage) c.self.view_is ∙ c.requires.stage)
    (subst (λ k. Fits (g.M.Register.view k)) (sym (ap (λ k. k.memory) c.self.view_is)) c.requires.fits)

pub cancel-requires-2-clause-fits : goal.cancel-requires-2-clause-fits
cancel-requires-2-clause-fits g c =
    let Fits : View → Type 0 = λ v. IfTrusted v v (CanCancel v.content c.args.number) in
    subst (λ k. Fits (g.M.Register.view k)) (sym (ap (λ k. k.memory) c.self.view_is)) c.requires.fits

use Rattle.std.proofs.Common.{ap, sym, subst, ◌∙◌}
use Rattle.desk_register.specs.Changes.{CanPair}
use Rattle.desk_register.specs.View.{View, IfTrusted}
use Rattle.desk_file.proofs.ChangeLemmas.{tables_fit}
use Rattle.desk_file.proofs.mirror.calls.MirroredRegisterRegister.pair.Goals as goal

pub pair-requires-clause-fits : goal.pair-requires-clause-fits
pair-requires-clause-fits g c =
    let Fits : View → Type 0 = λ v. IfTrusted v v (CanPair v.content c.args.earlier c.args.later) in
    tables_fit (λ room content. CanPair content c.args.earlier c.args.later) _ _ _ (g.met.M.MemoryRegister.has_no_device _) c.self.invariant (ap (λ k. k.stage) c.self.view_is ∙ c.requires.stage)
    (subst (λ k. Fits (g.M.Register.view k)) (sym (ap (λ k. k.memory) c.self.view_is)) c.requires.fits)

pub pair-requires-2-clause-fits : goal.pair-requires-2-clause-fits
pair-requires-2-clause-fits g c =
    let Fits : View → Type 0 = λ v. IfTrusted v v (CanPair v.content c.args.earlier c.args.later) in
    subst (λ k. Fits (g.M.Register.view k)) (sym (ap (λ k. k.memory) c.self.view_is)) c.requires.fits

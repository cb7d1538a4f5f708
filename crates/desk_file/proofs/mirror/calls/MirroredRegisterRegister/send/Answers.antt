use Rattle.std.proofs.Common.{OnOk, ap, refl, sym, subst, ◌≡◌, ◌∙◌}
use Rattle.desk_register.specs.Changes.{CanSend, with_sent}
use Rattle.desk_register.specs.View.{View, IfTrusted, IsChange}
use Rattle.desk_file.specs.Both.{shown}
use Rattle.desk_file.specs.Mirrored.{AreMirrored, stage_of}
use Rattle.desk_file.proofs.BothLemmas.{both_keep, both_shown, fell_keeps, fell_shown, no_value, want_keeps, want_shown}
use Rattle.desk_file.proofs.ChangeLemmas.{begun_at, copied_is, copied_phase, tables_fit}
use Rattle.desk_file.proofs.mirror.calls.MirroredRegisterRegister.send.Goals as goal

pub send-requires-clause-stage : goal.send-requires-clause-stage
send-requires-clause-stage g c = (begun_at _ _ _ c.self.invariant (ap (λ k. k.stage) c.self.view_is ∙ c.requires.stage)).tables

pub send-requires-clause-fits : goal.send-requires-clause-fits
send-requires-clause-fits g c =
    let Fits : View → Type 0 = λ v. IfTrusted v v (CanSend v.content) in
    tables_fit (λ room content. CanSend content) _ _ _ (g.met.M.MemoryRegister.has_no_device _) c.self.invariant (ap (λ k. k.stage) c.self.view_is ∙ c.requires.stage)
    (subst (λ k. Fits (g.M.Register.view k)) (sym (ap (λ k. k.memory) c.self.view_is)) c.requires.fits)

pub send-requires-2-clause-stage : goal.send-requires-2-clause-stage
send-requires-2-clause-stage g c = (begun_at _ _ _ c.self.invariant (ap (λ k. k.stage) c.self.view_is ∙ c.requires.stage)).memory

pub send-requires-2-clause-fits : goal.send-requires-2-clause-fits
send-requires-2-clause-fits g c =
    let Fits : View → Type 0 = λ v. IfTrusted v v (CanSend v.content) in
    subst (λ k. Fits (g.M.Register.view k)) (sym (ap (λ k. k.memory) c.self.view_is)) c.requires.fits

pub invariant_of-self : goal.invariant_of-self
invariant_of-self g c =
    want_keeps c.copy_of.result c.copied.result c.in_err-copy.field-0.0 c.self.inside.phase c.copied.new.self _ _ c.self.invariant (ap (λ k. k.stage) c.self.view_is ∙ c.requires.stage) c.in_err-copy.was c.copied.ensures

pub returns-in_err-copy-clause-sent : goal.returns-in_err-copy-clause-sent
returns-in_err-copy-clause-sent g c = λ honest sure. no_value c.from_residual.result _ _ c.from_residual.ensures.1

pub returns-in_err-copy-clause-change : goal.returns-in_err-copy-clause-change
returns-in_err-copy-clause-change g c =
    let now = shown (g.M.Register.view c.self.inside.memory) (stage_of c.copied.new.self) (g.S.Register.view c.self.inside.tables) in
    subst (λ k. IsChange c.from_residual.result (shown (g.M.Register.view k.memory) k.stage (g.S.Register.view k.tables)) now) c.self.view_is
    (want_shown c.copy_of.result c.copied.result c.in_err-copy.field-0.0 c.self.inside.phase c.copied.new.self _ _ c.self.invariant (ap (λ k. k.stage) c.self.view_is ∙ c.requires.stage) c.in_err-copy.was c.copied.ensures
    c.from_residual.result c.from_residual.ensures.1)

pub invariant_of-self-in_err-after : goal.invariant_of-self-in_err-after
invariant_of-self-in_err-after g c =
    let copied = copied_phase c.copy_of.result _ _ _ c.in_ok-copy.copy c.in_ok-copy.ensures refl in
    let m = g.M.Register.view c.self.inside.memory in
    let t = g.S.Register.view c.self.inside.tables in
    fell_keeps c.send.result c.in_err-after.field-0.0 c.copied.new.self c.after.new.self m t (g.S.Register.view c.send.new.self)
    (subst (λ p. AreMirrored p m t) (sym copied) c.self.invariant) (ap stage_of copied ∙ ap (λ k. k.stage) c.self.view_is ∙ c.requires.stage) (sym c.after.ensures.same ∙ c.in_err-after.was) c.send.ensures.change c.after.ensures.after

pub returns-in_err-after-clause-sent : goal.returns-in_err-after-clause-sent
returns-in_err-after-clause-sent g c = λ honest sure. no_value c.from_residual-in_err-after.result _ _ c.from_residual-in_err-after.ensures.1

pub returns-in_err-after-clause-change : goal.returns-in_err-after-clause-change
returns-in_err-after-clause-change g c =
    let copied = copied_phase c.copy_of.result _ _ _ c.in_ok-copy.copy c.in_ok-copy.ensures refl in
    let m = g.M.Register.view c.self.inside.memory in
    let t = g.S.Register.view c.self.inside.tables in
    let now = shown m (stage_of c.after.new.self) (g.S.Register.view c.send.new.self) in
    let r = c.from_residual-in_err-after.result in
    subst (λ k. IsChange r (shown (g.M.Register.view k.memory) k.stage (g.S.Register.view k.tables)) now) c.self.view_is
    (subst (λ s. IsChange r (shown m s t) now) (ap stage_of copied)
    (fell_shown c.send.result c.in_err-after.field-0.0 c.copied.new.self c.after.new.self m t (g.S.Register.view c.send.new.self)
    (subst (λ p. AreMirrored p m t) (sym copied) c.self.invariant) (ap stage_of copied ∙ ap (λ k. k.stage) c.self.view_is ∙ c.requires.stage) (sym c.after.ensures.same ∙ c.in_err-after.was) c.send.ensures.change c.after.ensures.after
    r c.from_residual-in_err-after.ensures.1))

pub invariant_of-self-2 : goal.invariant_of-self-2
invariant_of-self-2 g c =
    let law = g.met.M.MemoryRegister.has_no_device in
    let copied = copied_phase c.copy_of.result _ _ _ c.in_ok-copy.copy c.in_ok-copy.ensures refl in
    let copy_is = copied_is c.copy_of.result _ _ _ c.in_ok-copy.copy c.args.message c.copy_of.ensures c.in_ok-copy.ensures refl in
    let m = g.M.Register.view c.self.inside.memory in
    let t = g.S.Register.view c.self.inside.tables in
    both_keep c.send.result c.in_ok-after.field-0 c.send-2.result c.copied.new.self c.after.new.self c.after-2.new.self m _ t _ (law _) (law _)
    (subst (λ p. AreMirrored p m t) (sym copied) c.self.invariant) (ap stage_of copied ∙ ap (λ k. k.stage) c.self.view_is ∙ c.requires.stage) (sym c.after.ensures.same ∙ c.in_ok-after.was)
    c.send.ensures.change c.after.ensures.after c.send-2.ensures.change c.after-2.ensures.after (with_sent c.in_ok-copy.copy) (with_sent c.args.message) (λ k. ap (λ x. with_sent x k) copy_is) c.send-2.ensures.sent c.send.ensures.sent

pub returns-clause-sent : goal.returns-clause-sent
returns-clause-sent g c =
    let copy_is = copied_is c.copy_of.result _ _ _ c.in_ok-copy.copy c.args.message c.copy_of.ensures c.in_ok-copy.ensures refl in
    let m' = g.M.Register.view c.send-2.new.self in
    subst (λ r. let v = g.M.Register.view c.args.self.now.memory in IfTrusted v m' (OnOk r (m'.content ≡ with_sent c.args.message v.content))) (sym c.after-2.ensures.same)
    (subst (λ k. let v = g.M.Register.view k.memory in IfTrusted v m' (OnOk c.send-2.result (m'.content ≡ with_sent c.args.message v.content))) c.self.view_is
    (subst (λ x. let v = g.M.Register.view c.self.inside.memory in IfTrusted v m' (OnOk c.send-2.result (m'.content ≡ with_sent x v.content))) copy_is c.send-2.ensures.sent))

pub returns-clause-change : goal.returns-clause-change
returns-clause-change g c =
    let law = g.met.M.MemoryRegister.has_no_device in
    let copied = copied_phase c.copy_of.result _ _ _ c.in_ok-copy.copy c.in_ok-copy.ensures refl in
    let m = g.M.Register.view c.self.inside.memory in
    let t = g.S.Register.view c.self.inside.tables in
    let t' = g.S.Register.view c.send.new.self in
    let now = shown (g.M.Register.view c.send-2.new.self) (stage_of c.after-2.new.self) t' in
    subst (λ r. IsChange r (shown (g.M.Register.view c.args.self.now.memory) c.args.self.now.stage (g.S.Register.view c.args.self.now.tables)) now) (sym c.after-2.ensures.same)
    (subst (λ k. IsChange c.send-2.result (shown (g.M.Register.view k.memory) k.stage (g.S.Register.view k.tables)) now) c.self.view_is
    (subst (λ s. IsChange c.send-2.result (shown m s t) now) (ap stage_of copied)
    (both_shown c.send.result c.in_ok-after.field-0 c.send-2.result c.copied.new.self c.after.new.self c.after-2.new.self m _ t t' (law _) (law _)
    (subst (λ p. AreMirrored p m t) (sym copied) c.self.invariant) (ap stage_of copied ∙ ap (λ k. k.stage) c.self.view_is ∙ c.requires.stage) (sym c.after.ensures.same ∙ c.in_ok-after.was)
    c.send.ensures.change c.after.ensures.after c.send-2.ensures.change c.after-2.ensures.after)))

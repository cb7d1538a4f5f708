use Rattle.std.proofs.Common.{◌≡◌, ◌∙◌, OnOk, ap, sym, subst}
use Rattle.desk_register.specs.Changes.{CanAppend, appended}
use Rattle.desk_register.specs.View.{View, IfTrusted, IsChange}
use Rattle.desk_file.specs.Both.{shown}
use Rattle.desk_file.specs.Mirrored.{stage_of}
use Rattle.desk_file.proofs.BothLemmas.{both_keep, both_shown, fell_keeps, fell_shown, no_value}
use Rattle.desk_file.proofs.ChangeLemmas.{begun_at, tables_fit}
use Rattle.desk_file.proofs.mirror.mirrored_register.MirroredRegister.append_both.Goals as goal

pub append-requires-clause-stage : goal.append-requires-clause-stage
append-requires-clause-stage g c = (begun_at _ _ _ c.self.invariant (ap (λ k. k.stage) c.self.view_is ∙ c.requires.stage)).tables

pub append-requires-clause-fits : goal.append-requires-clause-fits
append-requires-clause-fits g c =
    let Fits : View → Type 0 = λ v. IfTrusted v v (CanAppend v.room c.args.entry c.args.copy v.content) in
    tables_fit (λ room content. CanAppend room c.args.entry c.args.copy content) _ _ _ (g.met.M.MemoryRegister.has_no_device _) c.self.invariant (ap (λ k. k.stage) c.self.view_is ∙ c.requires.stage)
    (subst (λ k. Fits (g.M.Register.view k)) (sym (ap (λ k. k.memory) c.self.view_is)) (subst (λ r. let v = g.M.Register.view c.args.self.now.memory in IfTrusted v v (CanAppend v.room c.args.entry r v.content)) (sym c.requires.same) c.requires.fits))

pub invariant_of-self : goal.invariant_of-self
invariant_of-self g c =
    fell_keeps c.append.result c.in_err-after.field-0.0 c.self.inside.phase c.after.new.self (g.M.Register.view c.self.inside.memory) (g.S.Register.view c.self.inside.tables) (g.S.Register.view c.append.new.self)
    c.self.invariant (ap (λ k. k.stage) c.self.view_is ∙ c.requires.stage) (sym c.after.ensures.same ∙ c.in_err-after.was) c.append.ensures.change c.after.ensures.after

pub returns-in_err-after-clause-added : goal.returns-in_err-after-clause-added
returns-in_err-after-clause-added g c = λ honest sure. no_value c.from_residual.result _ _ c.from_residual.ensures.1

pub returns-in_err-after-clause-change : goal.returns-in_err-after-clause-change
returns-in_err-after-clause-change g c =
    let m = g.M.Register.view c.self.inside.memory in
    let now = shown m (stage_of c.after.new.self) (g.S.Register.view c.append.new.self) in
    subst (λ k. IsChange c.from_residual.result (shown (g.M.Register.view k.memory) k.stage (g.S.Register.view k.tables)) now) c.self.view_is
    (fell_shown c.append.result c.in_err-after.field-0.0 c.self.inside.phase c.after.new.self m (g.S.Register.view c.self.inside.tables) (g.S.Register.view c.append.new.self)
    c.self.invariant (ap (λ k. k.stage) c.self.view_is ∙ c.requires.stage) (sym c.after.ensures.same ∙ c.in_err-after.was) c.append.ensures.change c.after.ensures.after c.from_residual.result c.from_residual.ensures.1)

pub append-requires-2-clause-stage : goal.append-requires-2-clause-stage
append-requires-2-clause-stage g c = (begun_at _ _ _ c.self.invariant (ap (λ k. k.stage) c.self.view_is ∙ c.requires.stage)).memory

pub append-requires-2-clause-fits : goal.append-requires-2-clause-fits
append-requires-2-clause-fits g c =
    let Fits : View → Type 0 = λ v. IfTrusted v v (CanAppend v.room c.args.entry c.args.reply v.content) in
    subst (λ k. Fits (g.M.Register.view k)) (sym (ap (λ k. k.memory) c.self.view_is)) c.requires.fits

pub invariant_of-self-2 : goal.invariant_of-self-2
invariant_of-self-2 g c =
    let law = g.met.M.MemoryRegister.has_no_device in
    both_keep c.append.result c.in_ok-after.field-0 c.append-2.result c.self.inside.phase c.after.new.self c.after-2.new.self _ _ _ _ (law _) (law _) c.self.invariant (ap (λ k. k.stage) c.self.view_is ∙ c.requires.stage) (sym c.after.ensures.same ∙ c.in_ok-after.was)
    c.append.ensures.change c.after.ensures.after c.append-2.ensures.change c.after-2.ensures.after (appended c.args.entry c.args.reply) (appended c.args.entry c.args.copy) (λ k. ap (λ r. appended c.args.entry r k) (sym c.requires.same))
    c.append-2.ensures.added c.append.ensures.added

pub returns-clause-added : goal.returns-clause-added
returns-clause-added g c =
    let m' = g.M.Register.view c.append-2.new.self in
    subst (λ r. let v = g.M.Register.view c.args.self.now.memory in IfTrusted v m' (OnOk r (m'.content ≡ appended c.args.entry c.args.reply v.content))) (sym c.after-2.ensures.same)
    (subst (λ k. let v = g.M.Register.view k.memory in IfTrusted v m' (OnOk c.append-2.result (m'.content ≡ appended c.args.entry c.args.reply v.content))) c.self.view_is c.append-2.ensures.added)

pub returns-clause-change : goal.returns-clause-change
returns-clause-change g c =
    let law = g.met.M.MemoryRegister.has_no_device in
    let now = shown (g.M.Register.view c.append-2.new.self) (stage_of c.after-2.new.self) (g.S.Register.view c.append.new.self) in
    subst (λ r. IsChange r (shown (g.M.Register.view c.args.self.now.memory) c.args.self.now.stage (g.S.Register.view c.args.self.now.tables)) now) (sym c.after-2.ensures.same)
    (subst (λ k. IsChange c.append-2.result (shown (g.M.Register.view k.memory) k.stage (g.S.Register.view k.tables)) now) c.self.view_is
    (both_shown c.append.result c.in_ok-after.field-0 c.append-2.result c.self.inside.phase c.after.new.self c.after-2.new.self _ _ _ _ (law _) (law _) c.self.invariant (ap (λ k. k.stage) c.self.view_is ∙ c.requires.stage) (sym c.after.ensures.same ∙ c.in_ok-after.was)
    c.append.ensures.change c.after.ensures.after c.append-2.ensures.change c.after-2.ensures.after))

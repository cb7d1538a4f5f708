use Rattle.std.proofs.Common.{Ok, ap, subst, sym, ◌∙◌}
use Rattle.desk_register.specs.View.{IsChange}
use Rattle.desk_file.specs.Both.{shown}
use Rattle.desk_file.specs.Mirrored.{stage_of}
use Rattle.desk_file.proofs.BothLemmas.{alone_fell, alone_handed, alone_shown, tried_fell, tried_handed, tried_shown}
use Rattle.desk_file.proofs.WaitingLemmas.{tried_fits, vain_keeps, try_keeps}
use Rattle.desk_file.proofs.mirror.calls.MirroredRegisterRegister.settle_pair.Goals as goal

pub follow-followed-requires-clause-known : goal.follow-followed-requires-clause-known
follow-followed-requires-clause-known g c =
    let law = g.met.M.MemoryRegister.has_no_device in
    let tried = c.settle_pair.ensures in
    tried_fits c.settle_pair.result c.in_ok-outcome.outcome c.reason_of_pair-reason.result _ _ c.args.number _ _ _ _ (law _) (law _) (law _) c.self.invariant (ap (λ k. k.stage) c.self.view_is ∙ c.requires.stage) c.reason_of_pair-reason.ensures.read
    (sym c.after.ensures.same ∙ c.in_ok-outcome.was) tried.settled tried.change c.after.ensures.after c.known_pair-known.result _ (law _) c.known_pair-known.ensures.known

pub invariant_of-self-then-is_in_vain : goal.invariant_of-self-then-is_in_vain
invariant_of-self-then-is_in_vain g c =
    let law = g.met.M.MemoryRegister.has_no_device in
    let tried = c.settle_pair.ensures in
    let read = c.reason_of_pair-reason.ensures in
    vain_keeps c.settle_pair.result c.in_ok-outcome.outcome c.reason_of_pair-reason.result _ _ c.args.number _ _ _ _ (law _) (law _) (law _) c.self.invariant (ap (λ k. k.stage) c.self.view_is ∙ c.requires.stage) read.read
    (sym c.after.ensures.same ∙ c.in_ok-outcome.was) tried.settled tried.change c.after.ensures.after read.waits (c.is_in_vain.ensures c.if-is_in_vain.true)

pub invariant_of-self-2 : goal.invariant_of-self-2
invariant_of-self-2 g c =
    let law = g.met.M.MemoryRegister.has_no_device in
    let tried = c.settle_pair.ensures in
    let told = c.follow-followed.ensures in
    try_keeps c.settle_pair.result c.in_ok-outcome.outcome c.reason_of_pair-reason.result _ _ c.args.number _ _ _ _ (law _) (law _) (law _) c.self.invariant (ap (λ k. k.stage) c.self.view_is ∙ c.requires.stage) c.reason_of_pair-reason.ensures.read
    (sym c.after.ensures.same ∙ c.in_ok-outcome.was) tried.settled tried.change c.after.ensures.after
    _ (law _) c.known_pair-known.ensures.read c.follow-followed.result c.in_ok-after.field-0 _ _ (sym c.after-2.ensures.same ∙ c.in_ok-after.was) told.followed told.change c.after-2.ensures.after

pub invariant_of-self : goal.invariant_of-self
invariant_of-self g c =
    let law = g.met.M.MemoryRegister.has_no_device in
    alone_fell c.settle_pair.result c.self.inside.phase c.after.new.self _ _ _ _ (law _) (law _) (law _) c.self.invariant (ap (λ k. k.stage) c.self.view_is ∙ c.requires.stage) c.reason_of_pair-reason.ensures.read c.settle_pair.ensures.change c.after.ensures.after c.in_err-outcome.field-0.0 (sym c.after.ensures.same ∙ c.in_err-outcome.was)

pub returns-in_err-outcome-clause-change : goal.returns-in_err-outcome-clause-change
returns-in_err-outcome-clause-change g c =
    let law = g.met.M.MemoryRegister.has_no_device in
    let now = shown (g.M.Register.view c.settle_pair.new.self) (stage_of c.after.new.self) (g.S.Register.view c.self.inside.tables) in
    subst (λ k. IsChange c.from_residual.result (shown (g.M.Register.view k.memory) k.stage (g.S.Register.view k.tables)) now) c.self.view_is
    (alone_handed c.settle_pair.result c.self.inside.phase c.after.new.self _ _ _ _ (law _) (law _) (law _) c.self.invariant (ap (λ k. k.stage) c.self.view_is ∙ c.requires.stage) c.reason_of_pair-reason.ensures.read c.settle_pair.ensures.change c.after.ensures.after c.in_err-outcome.field-0.0 (sym c.after.ensures.same ∙ c.in_err-outcome.was) c.from_residual.result c.from_residual.ensures.1)

pub returns-then-is_in_vain-clause-change : goal.returns-then-is_in_vain-clause-change
returns-then-is_in_vain-clause-change g c =
    let law = g.met.M.MemoryRegister.has_no_device in
    let now = shown (g.M.Register.view c.settle_pair.new.self) (stage_of c.after.new.self) (g.S.Register.view c.self.inside.tables) in
    subst (λ r. IsChange r (shown (g.M.Register.view c.args.self.now.memory) c.args.self.now.stage (g.S.Register.view c.args.self.now.tables)) now) (sym c.after.ensures.same ∙ c.in_ok-outcome.was)
    (subst (λ k. IsChange c.settle_pair.result (shown (g.M.Register.view k.memory) k.stage (g.S.Register.view k.tables)) now) c.self.view_is
    (alone_shown c.settle_pair.result c.self.inside.phase c.after.new.self _ _ _ _ (law _) (law _) (law _) c.self.invariant (ap (λ k. k.stage) c.self.view_is ∙ c.requires.stage) c.reason_of_pair-reason.ensures.read c.settle_pair.ensures.change c.after.ensures.after))

pub invariant_of-self-in_err-after : goal.invariant_of-self-in_err-after
invariant_of-self-in_err-after g c =
    let law = g.met.M.MemoryRegister.has_no_device in
    tried_fell c.settle_pair.result c.in_ok-outcome.outcome c.follow-followed.result c.self.inside.phase c.after.new.self c.after-2.new.self _ _ _ _ _ _ (law _) (law _) c.self.invariant (ap (λ k. k.stage) c.self.view_is ∙ c.requires.stage) c.reason_of_pair-reason.ensures.read (sym c.after.ensures.same ∙ c.in_ok-outcome.was)
    c.settle_pair.ensures.change c.after.ensures.after c.known_pair-known.ensures.read c.follow-followed.ensures.change c.after-2.ensures.after c.in_err-after.field-0.0 (sym c.after-2.ensures.same ∙ c.in_err-after.was)

pub returns-in_err-after-clause-change : goal.returns-in_err-after-clause-change
returns-in_err-after-clause-change g c =
    let law = g.met.M.MemoryRegister.has_no_device in
    let now = shown (g.M.Register.view c.known_pair-known.new.register) (stage_of c.after-2.new.self) (g.S.Register.view c.follow-followed.new.tables) in
    subst (λ k. IsChange c.from_residual-in_err-after.result (shown (g.M.Register.view k.memory) k.stage (g.S.Register.view k.tables)) now) c.self.view_is
    (tried_handed c.settle_pair.result c.in_ok-outcome.outcome c.follow-followed.result c.self.inside.phase c.after.new.self c.after-2.new.self _ _ _ _ _ _ (law _) (law _) c.self.invariant (ap (λ k. k.stage) c.self.view_is ∙ c.requires.stage) c.reason_of_pair-reason.ensures.read (sym c.after.ensures.same ∙ c.in_ok-outcome.was)
    c.settle_pair.ensures.change c.after.ensures.after c.known_pair-known.ensures.read c.follow-followed.ensures.change c.after-2.ensures.after c.in_err-after.field-0.0 (sym c.after-2.ensures.same ∙ c.in_err-after.was) c.from_residual-in_err-after.result c.from_residual-in_err-after.ensures.1)

pub returns-clause-change : goal.returns-clause-change
returns-clause-change g c =
    let law = g.met.M.MemoryRegister.has_no_device in
    let now = shown (g.M.Register.view c.known_pair-known.new.register) (stage_of c.after-2.new.self) (g.S.Register.view c.follow-followed.new.tables) in
    subst (λ k. IsChange (Ok c.in_ok-outcome.outcome) (shown (g.M.Register.view k.memory) k.stage (g.S.Register.view k.tables)) now) c.self.view_is
    (tried_shown c.settle_pair.result c.in_ok-outcome.outcome c.follow-followed.result c.self.inside.phase c.after.new.self c.after-2.new.self _ _ _ _ _ _ (law _) (law _) c.self.invariant (ap (λ k. k.stage) c.self.view_is ∙ c.requires.stage) c.reason_of_pair-reason.ensures.read (sym c.after.ensures.same ∙ c.in_ok-outcome.was)
    c.settle_pair.ensures.change c.after.ensures.after c.known_pair-known.ensures.read c.follow-followed.ensures.change c.after-2.ensures.after c.in_ok-after.field-0 (sym c.after-2.ensures.same ∙ c.in_ok-after.was))

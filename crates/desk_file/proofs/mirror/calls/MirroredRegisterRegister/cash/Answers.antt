use Rattle.std.proofs.Common.{subst}
use Rattle.desk_register.specs.View.{IsRead}
use Rattle.desk_file.specs.Both.{shown}
use Rattle.desk_file.specs.Mirrored.{stage_of}
use Rattle.desk_file.proofs.ReadLemmas.{read_keeps, read_shown}
use Rattle.desk_file.proofs.mirror.calls.MirroredRegisterRegister.cash.Goals as goal

pub invariant_of-self : goal.invariant_of-self
invariant_of-self g c =
    let law = g.met.M.MemoryRegister.has_no_device in
    read_keeps c.cash.result _ _ _ _ _ (law _) (law _) c.cash.ensures.read c.after.ensures.after c.self.invariant

pub returns-clause-read : goal.returns-clause-read
returns-clause-read g c =
    let law = g.met.M.MemoryRegister.has_no_device in
    subst (λ k. IsRead c.after.result (shown (g.M.Register.view k.memory) k.stage (g.S.Register.view k.tables)) (shown (g.M.Register.view c.cash.new.self) (stage_of c.after.new.self) (g.S.Register.view c.self.inside.tables))) c.self.view_is
    (read_shown c.cash.result c.after.result _ _ _ _ _ (law _) (law _) c.self.invariant c.cash.ensures.read c.after.ensures.after c.after.ensures.same)

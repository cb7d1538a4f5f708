use Rattle.std.proofs.Common.{rules, ◌≡◌, ◌-◌, length, vec_len}
use Rattle.memory_register.proofs.RegisteredLemmas.{numbers_off}
use Rattle.memory_register.proofs.entries.registered.drop_last.Goals as goal

pub returns : goal.returns
returns c days last whole =
    let count : vec_len c.args.runs.now - 1 ≡ length c.args.runs.now.items - 1 = search rules in
    numbers_off c.args.runs.now.items c.pop.new.self.items (vec_len c.args.runs.now - 1) days last count c.pop.ensures.rest whole

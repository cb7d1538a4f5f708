use Rattle.desk_codes.specs.Number.{number_of}
use Rattle.desk_register.proofs.ShortLemmas.{first_to_try_ok}
use Rattle.desk_register.proofs.register.Register.pair_to_try_after.Goals as goal

pub returns-clause-value : goal.returns-clause-value
returns-clause-value g c = λ honest sure up. first_to_try_ok (g.Self.Register.view c.args.self.now).content (number_of c.args.day) c.args.place c.due_pair_after.result (c.due_pair_after.ensures.value honest sure up)

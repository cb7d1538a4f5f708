use Rattle.desk_engine.proofs.TakenLemmas.{taken_in}
use Rattle.desk_engine.proofs.taking.take_accepted.Goals as goal

pub returns-in-Ok-clause-decided : goal.returns-in-Ok-clause-decided
returns-in-Ok-clause-decided g c books honest sure keeps =
    taken_in (g.R.Register.view c.args.register.now).room books c.args.entry c.in-Ok.accepted (g.R.Register.view c.args.register.now).content (g.R.Register.view c.accept.new.register).content keeps
    (c.in-Ok.ensures.accepted books honest sure keeps)

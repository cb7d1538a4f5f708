use Rattle.desk_engine.proofs.TryingLemmas.{Trying}
use Rattle.desk_engine.proofs.settlement_run.run_pass.Given as goal

abbrev pub invariant-pairs : goal.invariant-pairs
invariant-pairs g l = Trying (g.R.Register.view l.fn.register).room (g.R.Register.view l.fn.register) (g.R.Register.view l.register) l.day l.again l.place l.tried l.settled

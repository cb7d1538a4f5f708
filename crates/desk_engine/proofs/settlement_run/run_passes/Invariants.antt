use Rattle.desk_engine.proofs.RunningLemmas.{Passing}
use Rattle.desk_engine.proofs.settlement_run.run_passes.Given as goal

abbrev pub invariant-passes : goal.invariant-passes
invariant-passes g l = Passing (g.R.Register.view l.fn.register).room (g.R.Register.view l.fn.register) (g.R.Register.view l.register) l.day l.rule l._begun l.number l.ran

use Rattle.desk_engine.proofs.RebuildLemmas.{Rebuilding}
use Rattle.desk_engine.proofs.rebuilding.apply_all.Given as goal

abbrev pub invariant-loop-entry : goal.invariant-loop-entry
invariant-loop-entry g l = Rebuilding (g.R.Register.view l.fn.register) (g.R.Register.view l.register) l.entries l.entry-index

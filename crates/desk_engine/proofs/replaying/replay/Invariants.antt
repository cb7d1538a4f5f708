use Rattle.std.proofs.Common.{take}
use Rattle.desk_register.specs.View.{IfTrusted, IsLater}
use Rattle.desk_engine.specs.Accepting.{IsDone}
use Rattle.desk_engine.specs.KeptHistory.{HoldsKept}
use Rattle.desk_engine.proofs.replaying.replay.Given as goal

-- the entries so far are held
abbrev pub invariant-loop-one : goal.invariant-loop-one
invariant-loop-one g l = record {
  done : IsDone (g.R.Register.view l.fn.register) (g.R.Register.view l.register);
  later : IsLater (g.R.Register.view l.fn.register) (g.R.Register.view l.register);
  held : IfTrusted (g.R.Register.view l.fn.register) (g.R.Register.view l.register) (HoldsKept (g.R.Register.view l.fn.register).room (take l.one-index l.kept) (g.R.Register.view l.register).content);
}

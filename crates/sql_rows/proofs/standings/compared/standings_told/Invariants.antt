use Rattle.std.proofs.Common.{◌≤◌, length, take}
use Rattle.desk_register.specs.View.{HasRead, IfTrusted}
use Rattle.sql_rows.specs.StandingsTold.{as_said, AreTold}
use Rattle.sql_rows.proofs.standings.compared.standings_told.Given as goal

-- the rows so far show the standings so far
abbrev pub invariant-loop-before : goal.invariant-loop-before
invariant-loop-before g l = record {
  read : HasRead (g.R.Register.view l.fn.register) (g.R.Register.view l.register);
  within : l.at ≤ length l.rows;
  told : IfTrusted (g.R.Register.view l.fn.register) (g.R.Register.view l.register) (AreTold (λ n. as_said l.version ((g.R.Register.view l.fn.register).content.standing n)) l.before (take l.at l.rows));
}

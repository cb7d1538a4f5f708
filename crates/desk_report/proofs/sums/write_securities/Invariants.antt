use Rattle.desk_register.specs.View.{HasRead}
use Rattle.desk_report.proofs.sums.write_securities.Given as goal

abbrev pub invariant-securities : goal.invariant-securities
invariant-securities g l = HasRead (g.R.Register.view l.fn.register) (g.R.Register.view l.register)

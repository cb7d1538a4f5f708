use Rattle.desk_register.specs.View.{HasRead}
use Rattle.desk_report.proofs.sums.write_currencies.Given as goal

abbrev pub invariant-currencies : goal.invariant-currencies
invariant-currencies g l = HasRead (g.R.Register.view l.fn.register) (g.R.Register.view l.register)

use Rattle.desk_register.specs.View.{HasRead}
use Rattle.desk_report.proofs.report.write_lines.Given as goal

abbrev pub invariant-parts : goal.invariant-parts
invariant-parts g l = HasRead (g.R.Register.view l.fn.register) (g.R.Register.view l.register)

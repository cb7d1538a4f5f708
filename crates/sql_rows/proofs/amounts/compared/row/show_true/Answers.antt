use Rattle.std.proofs.Common.{Err, arith}
use Rattle.desk_register.proofs.ReadLemmas.{read_idle, read_none, read_ok, read_then}
use Rattle.sql_rows.proofs.StepLemmas.{none_said, read_handed}
use Rattle.sql_rows.proofs.amounts.compared.row.show_true.Goals as goal

pub loop-row-init : goal.loop-row-init
loop-row-init g c = record {
  read = read_none (g.R.Register.view c.args.register.now);
  show = λ honest sure k d low. absurd (omega (arith, low));
}

pub shows_true-requires : goal.shows_true-requires
shows_true-requires g c = record { stage = read_idle (g.R.Register.view c.args.register.now) (g.R.Register.view c.loop-row.register) c.loop-row.invariant.read c.requires.stage }

pub returns-in_err-shows_true-clause-show : goal.returns-in_err-shows_true-clause-show
returns-in_err-shows_true-clause-show g c = λ honest sure. none_said c.in_err-shows_true.field-0.0 c.from_residual.result c.from_residual.ensures.1 _

pub returns-in_err-shows_true-clause-exact : goal.returns-in_err-shows_true-clause-exact
returns-in_err-shows_true-clause-exact g c = λ honest sure. none_said c.in_err-shows_true.field-0.0 c.from_residual.result c.from_residual.ensures.1 _

pub returns-in_err-shows_true-clause-read : goal.returns-in_err-shows_true-clause-read
returns-in_err-shows_true-clause-read g c = read_handed c.in_err-shows_true.field-0.0 c.from_residual.result c.from_residual.ensures.1 (g.R.Register.view c.args.register.now) (g.R.Register.view c.shows_true.new.register) (read_then (g.R.Register.view c.args.register.now) (g.R.Register.view c.loop-row.register) (g.R.Register.view c.shows_true.new.register) c.loop-row.invariant.read (Err c.in_err-shows_true.field-0.0) c.in_err-shows_true.ensures.read)

pub returns-then-not-branch-clause-read : goal.returns-then-not-branch-clause-read
returns-then-not-branch-clause-read g c = read_ok _ _ (g.R.Register.view c.args.register.now) (g.R.Register.view c.shows_true.new.register) (read_then (g.R.Register.view c.args.register.now) (g.R.Register.view c.loop-row.register) (g.R.Register.view c.shows_true.new.register) c.loop-row.invariant.read _ c.in_ok-shows_true.ensures.read)

pub returns-clause-show : goal.returns-clause-show
returns-clause-show g c = λ honest sure yes k d low. c.loop-row.invariant.show honest sure k d (omega (arith, low))

pub returns-clause-read : goal.returns-clause-read
returns-clause-read g c = read_ok _ _ (g.R.Register.view c.args.register.now) (g.R.Register.view c.loop-row.register) c.loop-row.invariant.read

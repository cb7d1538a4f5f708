use Rattle.desk_report.proofs.FirstLemmas.{noting_begins, noting_goes_on}
use Rattle.desk_report.proofs.EndLemmas.{walk_broke}
use Rattle.desk_report.proofs.unmatched.first_numbers.note_first.Goals as goal

pub numbers-init : goal.numbers-init
numbers-init g c = noting_begins (g.R.Register.view c.args.register.now) c.args.numbers.now c.requires.empty

pub returns-in_err-note_number-clause-read : goal.returns-in_err-note_number-clause-read
returns-in_err-note_number-clause-read g c =
    walk_broke (Unit {0}) c.in_err-note_number.field-0.0 c.from_residual.result (g.R.Register.view c.args.register.now) (g.R.Register.view c.numbers.register) (g.R.Register.view c.note_number.new.register)
    c.from_residual.ensures.1 c.numbers.invariant.read c.in_err-note_number.ensures.read

pub numbers-preserved : goal.numbers-preserved
numbers-preserved g c =
    let w = c.in_ok-note_number.ensures in
    noting_goes_on (g.R.Register.view c.args.register.now) (g.R.Register.view c.numbers.register) (g.R.Register.view c.note_number.new.register) c.numbers.before c.numbers.numbers c.note_number.new.numbers
    c.numbers.invariant w.read w.noted

pub returns-clause-read : goal.returns-clause-read
returns-clause-read g c = c.numbers.invariant.read

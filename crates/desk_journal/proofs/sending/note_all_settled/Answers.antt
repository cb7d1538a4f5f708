use Rattle.std.proofs.Common.{◌≡◌, ◌∙◌, arith}
use Rattle.desk_journal.proofs.SettledLemmas.{noting_breaks, noting_ends, noting_goes_on}
use Rattle.desk_journal.proofs.sending.note_all_settled.Goals as goal

pub returns-in_err-note_settled-clause-read : goal.returns-in_err-note_settled-clause-read
returns-in_err-note_settled-clause-read g c =
    noting_breaks (g.R.Register.view c.args.register.now) (g.R.Register.view c.numbers.register) (g.R.Register.view c.note_settled.new.register) c.numbers.before c.args.notices.now.items c.numbers.notices.items
    c.numbers.invariant c.in_err-note_settled.field-0.0 c.from_residual.result c.from_residual.ensures.1 c.in_err-note_settled.ensures.read

pub numbers-preserved : goal.numbers-preserved
numbers-preserved g c =
    let w = c.in_ok-note_settled.ensures in
    noting_goes_on (g.R.Register.view c.args.register.now) (g.R.Register.view c.numbers.register) (g.R.Register.view c.note_settled.new.register) c.numbers.before c.args.notices.now.items c.numbers.notices.items
    c.note_settled.new.notices.items c.numbers.invariant w.read w.noted

pub returns-clause-noted : goal.returns-clause-noted
returns-clause-noted g c = λ books honest sure tables is all.
    let done : c.numbers.before ≡ c.args.count = omega arith in
    noting_ends (g.R.Register.view c.args.register.now) (g.R.Register.view c.numbers.register) c.numbers.before c.args.notices.now.items c.numbers.notices.items c.numbers.invariant books honest sure tables is (done ∙ all)

use Rattle.std.proofs.Common.{◌≡◌, ◌≤◌, arith}
use Rattle.desk_report.specs.declared.format.Format.TheVariants.{Json}
use Rattle.desk_journal.proofs.WritingLemmas.{writing_begins, writing_breaks, writing_ends, writing_goes_on}
use Rattle.desk_journal.proofs.walk.write_rows.Goals as goal

pub numbers-init : goal.numbers-init
numbers-init g c =
    writing_begins c.args.from c.args.sending.now (c.args.format ≡ Json) (g.R.Register.view c.args.register.now) c.args.count (g.W.Write.contents c.args.writer.now)

pub returns-in_err-is_later-clause-written : goal.returns-in_err-is_later-clause-written
returns-in_err-is_later-clause-written g c = λ books json honest sure tables sent entries.
    let w = c.in_err-is_later.ensures in
    let within : c.numbers.before ≤ c.args.count = omega arith in
    writing_breaks c.args.from c.args.sending.now (c.args.format ≡ Json) (g.R.Register.view c.args.register.now) c.args.count (g.R.Register.view c.numbers.register) c.numbers.before c.numbers.is_later (g.W.Write.contents c.args.writer.now)
    (g.W.Write.contents c.numbers.writer) c.numbers.invariant (g.R.Register.view c.write_number.new.register) (g.W.Write.contents c.write_number.new.writer) c.in_err-is_later.field-0.0 c.from_residual.result within
    c.from_residual.ensures.1 w.read.later w.written books json honest sure (record { tables = tables; sent = sent; entries = entries })

pub numbers-preserved : goal.numbers-preserved
numbers-preserved g c =
    let w = c.in_ok-is_later.ensures in
    writing_goes_on c.args.from c.args.sending.now (c.args.format ≡ Json) (g.R.Register.view c.args.register.now) c.args.count (g.R.Register.view c.numbers.register) c.numbers.before c.numbers.is_later (g.W.Write.contents c.args.writer.now)
    (g.W.Write.contents c.numbers.writer) c.numbers.invariant (g.R.Register.view c.write_number.new.register) c.in_ok-is_later.is_later (g.W.Write.contents c.write_number.new.writer) w.read w.written

pub returns-clause-written : goal.returns-clause-written
returns-clause-written g c = λ books json honest sure tables sent entries.
    let within : c.numbers.before ≤ c.args.count = omega arith in
    let enough : c.args.count ≤ c.numbers.before = omega arith in
    writing_ends c.args.from c.args.sending.now (c.args.format ≡ Json) (g.R.Register.view c.args.register.now) c.args.count (g.R.Register.view c.numbers.register) c.numbers.before c.numbers.is_later (g.W.Write.contents c.args.writer.now)
    (g.W.Write.contents c.numbers.writer) c.numbers.invariant within enough books json honest sure (record { tables = tables; sent = sent; entries = entries })

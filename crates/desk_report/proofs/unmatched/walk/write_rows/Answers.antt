use Rattle.std.proofs.Common.{◌≡◌, ◌≤◌, Bool, ◌∙◌, arith}
use Rattle.desk_register.proofs.ReadingLemmas.{read_so}
use Rattle.desk_report.specs.declared.format.Format.TheVariants.{Json}
use Rattle.desk_report.proofs.EndLemmas.{walk_broke}
use Rattle.desk_report.proofs.KnownFirstLemmas.{first_held}
use Rattle.desk_report.proofs.UnmatchedWritingLemmas.{writing_begins, writing_breaks, writing_ends, writing_goes_on}
use Rattle.desk_report.proofs.unmatched.walk.write_rows.Goals as goal

pub numbers-init : goal.numbers-init
numbers-init g c = writing_begins (c.args.format ≡ Json) (g.R.Register.view c.args.register.now) c.args.count (g.W.Write.contents c.args.writer.now) c.requires.entries

pub write_number-requires-clause-stage : goal.write_number-requires-clause-stage
write_number-requires-clause-stage g c = c.numbers.invariant.read.ok.stage ∙ c.requires.stage

pub write_number-requires-clause-first : goal.write_number-requires-clause-first
write_number-requires-clause-first g c =
    first_held c.args.count c.args.numbers.now (g.R.Register.view c.args.register.now) (g.R.Register.view c.numbers.register) c.numbers.invariant.read c.requires.entries c.requires.first

pub returns-in_err-is_later-clause-written : goal.returns-in_err-is_later-clause-written
returns-in_err-is_later-clause-written g c =
    let w = c.in_err-is_later.ensures in
    let within : c.numbers.before ≤ c.args.count = omega arith in
    writing_breaks (c.args.format ≡ Json) (g.R.Register.view c.args.register.now) c.args.count (g.R.Register.view c.numbers.register) c.numbers.before c.numbers.is_later (g.W.Write.contents c.args.writer.now)
    (g.W.Write.contents c.numbers.writer) c.numbers.invariant (g.R.Register.view c.write_number.new.register) (g.W.Write.contents c.write_number.new.writer) c.in_err-is_later.field-0.0 c.from_residual.result within
    c.from_residual.ensures.1 w.read.later w.written

pub returns-in_err-is_later-clause-read : goal.returns-in_err-is_later-clause-read
returns-in_err-is_later-clause-read g c =
    walk_broke Bool c.in_err-is_later.field-0.0 c.from_residual.result (g.R.Register.view c.args.register.now) (g.R.Register.view c.numbers.register) (g.R.Register.view c.write_number.new.register)
    c.from_residual.ensures.1 c.numbers.invariant.read c.in_err-is_later.ensures.read

pub numbers-preserved : goal.numbers-preserved
numbers-preserved g c =
    let w = c.in_ok-is_later.ensures in
    writing_goes_on (c.args.format ≡ Json) (g.R.Register.view c.args.register.now) c.args.count (g.R.Register.view c.numbers.register) c.numbers.before c.numbers.is_later (g.W.Write.contents c.args.writer.now)
    (g.W.Write.contents c.numbers.writer) c.numbers.invariant (g.R.Register.view c.write_number.new.register) c.in_ok-is_later.is_later (g.W.Write.contents c.write_number.new.writer) w.read w.written

pub returns-clause-written : goal.returns-clause-written
returns-clause-written g c =
    let within : c.numbers.before ≤ c.args.count = omega arith in
    let enough : c.args.count ≤ c.numbers.before = omega arith in
    writing_ends (c.args.format ≡ Json) (g.R.Register.view c.args.register.now) c.args.count (g.R.Register.view c.numbers.register) c.numbers.before c.numbers.is_later (g.W.Write.contents c.args.writer.now)
    (g.W.Write.contents c.numbers.writer) c.numbers.invariant within enough

pub returns-clause-read : goal.returns-clause-read
returns-clause-read g c = read_so (g.R.Register.view c.args.register.now) (g.R.Register.view c.numbers.register) c.numbers.invariant.read tt

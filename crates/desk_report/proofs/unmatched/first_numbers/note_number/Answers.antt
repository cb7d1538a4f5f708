use Rattle.std.proofs.Common.{sym, ◌∙◌}
use Rattle.desk_register.proofs.ReadLemmas.{read_none, read_one}
use Rattle.desk_register.proofs.ReadingLemmas.{read_so}
use Rattle.desk_report.proofs.FirstLemmas.{noted_none, noted_one}
use Rattle.desk_report.proofs.StepLemmas.{register_broke}
use Rattle.desk_report.proofs.unmatched.first_numbers.note_number.Goals as goal

pub returns-in_err-one-clause-read : goal.returns-in_err-one-clause-read
returns-in_err-one-clause-read g c =
    let v0 = g.R.Register.view c.args.register.now in
    register_broke c.in_err-one.field-0.0 c.from_residual.result v0 v0 (g.R.Register.view c.unmatched.new.register) c.from_residual.ensures.1 (read_none v0) c.in_err-one.ensures.read

pub returns-in_default-clause-noted : goal.returns-in_default-clause-noted
returns-in_default-clause-noted g c = λ honest sure.
    noted_none (g.R.Register.view c.args.register.now).content c.args.number c.args.numbers.now (sym (c.in_ok-one.ensures.found honest sure) ∙ c.in_default.is)

pub returns-in_default-clause-read : goal.returns-in_default-clause-read
returns-in_default-clause-read g c =
    let v0 = g.R.Register.view c.args.register.now in
    let v1 = g.R.Register.view c.unmatched.new.register in
    read_so v0 v1 (read_one c.in_ok-one.field-0 v0 v1 c.in_ok-one.ensures.read) tt

pub returns-in-Ok-clause-noted : goal.returns-in-Ok-clause-noted
returns-in-Ok-clause-noted g c = λ honest sure.
    noted_one (g.R.Register.view c.args.register.now).content c.args.number c.args.numbers.now c.put_first.new.numbers c.in-Some.one c.key_of.result
    (sym (c.in_ok-one.ensures.found honest sure) ∙ c.in-Some.is) c.key_of.ensures c.in-Ok.ensures

pub returns-in-Ok-clause-read : goal.returns-in-Ok-clause-read
returns-in-Ok-clause-read g c =
    let v0 = g.R.Register.view c.args.register.now in
    let v1 = g.R.Register.view c.unmatched.new.register in
    read_so v0 v1 (read_one c.in_ok-one.field-0 v0 v1 c.in_ok-one.ensures.read) tt

pub returns-in-Err-clause-read : goal.returns-in-Err-clause-read
returns-in-Err-clause-read g c =
    let v0 = g.R.Register.view c.args.register.now in
    let v1 = g.R.Register.view c.unmatched.new.register in
    read_so v0 v1 (read_one c.in_ok-one.field-0 v0 v1 c.in_ok-one.ensures.read) tt

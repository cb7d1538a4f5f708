use Rattle.std.proofs.Common.{ap, sym, Some, ◌∙◌}
use Rattle.std.specs.BTreeMap.{get}
use Rattle.desk_register.proofs.ReadLemmas.{read_none, read_one}
use Rattle.desk_register.proofs.ReadingLemmas.{gives_up, read_so}
use Rattle.desk_report.specs.NearKeys.{near_cmp}
use Rattle.desk_report.proofs.NearestLemmas.{nearest_known, nearest_none, nearest_there}
use Rattle.desk_report.proofs.StepLemmas.{read_broke}
use Rattle.desk_report.proofs.unmatched.rows.nearest.Goals as goal

pub returns-in_default-clause-nearest : goal.returns-in_default-clause-nearest
returns-in_default-clause-nearest g c = λ honest sure.
    nearest_none (g.R.Register.view c.args.register.now).content c.args.numbers.now c.args.one.now (c.requires.first honest sure)
    (ap (get near_cmp c.args.numbers.now) (sym c.near_key.ensures) ∙ sym c.number_at.ensures ∙ c.in_default.is)

pub returns-in_err-other-clause-read : goal.returns-in_err-other-clause-read
returns-in_err-other-clause-read g c =
    let v0 = g.R.Register.view c.args.register.now in
    read_broke c.in_err-other.field-0.0 c.from_residual.result v0 v0 (g.R.Register.view c.instruction.new.register) c.from_residual.ensures.1 (read_none v0) c.in_err-other.ensures.read

pub returns-in_default-2-clause-read : goal.returns-in_default-2-clause-read
returns-in_default-2-clause-read g c =
    let r = c.in_ok-other.ensures in
    let v0 = g.R.Register.view c.args.register.now in
    let v1 = g.R.Register.view c.instruction.new.register in
    gives_up v0 v1 (read_one c.in_ok-other.field-0 v0 v1 r.read) c.requires.stage (λ honest sure.
    nearest_there v0.content c.args.numbers.now c.args.one.now (c.requires.first (r.read.later.honest honest) sure) c.in-Some.number
    (ap (get near_cmp c.args.numbers.now) (sym c.near_key.ensures) ∙ sym c.number_at.ensures ∙ c.in-Some.is)
    (sym (r.found honest sure) ∙ c.in_default-2.is))

pub returns-clause-nearest : goal.returns-clause-nearest
returns-clause-nearest g c = λ honest sure.
    let r = c.in_ok-other.ensures in
    let v0 = g.R.Register.view c.args.register.now in
    ap Some c.nearest_told.ensures
    ∙ nearest_known v0.content c.args.numbers.now c.args.one.now (c.requires.first (r.read.later.honest honest) sure) c.in-Some.number
    (ap (get near_cmp c.args.numbers.now) (sym c.near_key.ensures) ∙ sym c.number_at.ensures ∙ c.in-Some.is)
    c.in-Some-2.other (sym (r.found honest sure) ∙ c.in-Some-2.is)

pub returns-clause-read : goal.returns-clause-read
returns-clause-read g c =
    let v0 = g.R.Register.view c.args.register.now in
    let v1 = g.R.Register.view c.instruction.new.register in
    read_so v0 v1 (read_one c.in_ok-other.field-0 v0 v1 c.in_ok-other.ensures.read) _

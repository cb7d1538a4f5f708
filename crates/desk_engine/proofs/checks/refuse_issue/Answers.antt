use Rattle.std.proofs.Common.{◌≡◌, ◌≢◌, not, ap, sym, ◌∙◌, arith, rules}
use Rattle.std.specs.Prelude.{Err}
use Rattle.desk_register.specs.declared.register.Stage.TheVariants.{Failed}
use Rattle.desk_register.proofs.ReadLemmas.{read_more, read_ok, read_one}
use Rattle.desk_register.proofs.ReadingLemmas.{broke_off, read_so}
use Rattle.desk_engine.proofs.RefusalLemmas.{issue_no_account, issue_no_security, issue_over, issue_passes}
use Rattle.desk_engine.proofs.checks.refuse_issue.Goals as goal

pub returns-then-is_none-clause-value : goal.returns-then-is_none-clause-value
returns-then-is_none-clause-value g c = λ honest sure well.
    issue_no_account (g.R.Register.view c.args.register.now).content c.args.movement.now c.in_ok-owner.field-0 (c.in_ok-owner.ensures.value honest sure well) (c.is_none.ensures ∙ ap not c.if-is_none.true)

pub returns-then-is_none-clause-read : goal.returns-then-is_none-clause-read
returns-then-is_none-clause-read g c = read_ok _ _ (g.R.Register.view c.args.register.now) (g.R.Register.view c.owner.new.self) c.in_ok-owner.ensures.read

pub returns-in_err-security-clause-read : goal.returns-in_err-security-clause-read
returns-in_err-security-clause-read g c =
    let v0 = g.R.Register.view c.args.register.now in
    let v1 = g.R.Register.view c.owner.new.self in
    let is : c.from_residual-in_err-security.result ≡ Err c.in_err-security.field-0.0 = search rules in
    rw is (broke_off v0 v1 (read_one _ v0 v1 c.in_ok-owner.ensures.read) c.in_err-security.field-0.0 (g.R.Register.view c.security.new.self) c.in_err-security.ensures.read)

pub returns-then-is_none-2-clause-read : goal.returns-then-is_none-2-clause-read
returns-then-is_none-2-clause-read g c =
    let v0 = g.R.Register.view c.args.register.now in
    let v1 = g.R.Register.view c.owner.new.self in
    let v2 = g.R.Register.view c.security.new.self in
    read_so v0 v2 (read_more _ v0 v1 v2 (read_one _ v0 v1 c.in_ok-owner.ensures.read) c.in_ok-security.ensures.read) _

pub returns-then-is_none-2-clause-value : goal.returns-then-is_none-2-clause-value
returns-then-is_none-2-clause-value g c = λ honest sure well.
    let first = c.in_ok-owner.ensures in
    let second = c.in_ok-security.ensures in
    let honest1 = second.read.later.honest honest in
    let well1 : (g.R.Register.view c.owner.new.self).stage ≢ Failed = λ failed. well (sym first.read.ok.stage ∙ failed) in
    issue_no_security (g.R.Register.view c.args.register.now).content c.args.movement.now c.in_ok-owner.field-0 (first.value honest1 sure well)
    (g.R.Register.view c.owner.new.self).content c.in_ok-security.field-0 (first.read.same honest1 sure) (c.is_none.ensures ∙ ap not c.if-is_none.false)
    (second.value honest (first.read.ok.sure honest1 sure) well1) (c.is_none-2.ensures ∙ ap not c.if-is_none-2.true)

pub returns-in_err-outstanding-clause-read : goal.returns-in_err-outstanding-clause-read
returns-in_err-outstanding-clause-read g c =
    let v0 = g.R.Register.view c.args.register.now in
    let v1 = g.R.Register.view c.owner.new.self in
    let v2 = g.R.Register.view c.security.new.self in
    let so_far = read_more _ v0 v1 v2 (read_one _ v0 v1 c.in_ok-owner.ensures.read) c.in_ok-security.ensures.read in
    let is : c.from_residual-in_err-outstanding.result ≡ Err c.in_err-outstanding.field-0.0 = search rules in
    rw is (broke_off v0 v2 so_far c.in_err-outstanding.field-0.0 (g.R.Register.view c.outstanding.new.self) c.in_err-outstanding.ensures.read)

pub returns-then-branch-movement-clause-read : goal.returns-then-branch-movement-clause-read
returns-then-branch-movement-clause-read g c =
    let v0 = g.R.Register.view c.args.register.now in
    let v1 = g.R.Register.view c.owner.new.self in
    let v2 = g.R.Register.view c.security.new.self in
    let v3 = g.R.Register.view c.outstanding.new.self in
    let so_far = read_more _ v0 v1 v2 (read_one _ v0 v1 c.in_ok-owner.ensures.read) c.in_ok-security.ensures.read in
    read_so v0 v3 (read_more _ v0 v2 v3 so_far c.in_ok-outstanding.ensures.read) _

pub returns-then-branch-movement-clause-value : goal.returns-then-branch-movement-clause-value
returns-then-branch-movement-clause-value g c = λ honest sure well.
    let first = c.in_ok-owner.ensures in
    let second = c.in_ok-security.ensures in
    let third = c.in_ok-outstanding.ensures in
    let honest2 = third.read.later.honest honest in
    let honest1 = second.read.later.honest honest2 in
    let sure1 = first.read.ok.sure honest1 sure in
    let sure2 = second.read.ok.sure honest2 sure1 in
    let same1 = first.read.same honest1 sure in
    let same2 = second.read.same honest2 sure1 ∙ same1 in
    let well1 : (g.R.Register.view c.owner.new.self).stage ≢ Failed = λ failed. well (sym first.read.ok.stage ∙ failed) in
    let well2 : (g.R.Register.view c.security.new.self).stage ≢ Failed = λ failed. well1 (sym second.read.ok.stage ∙ failed) in
    issue_over (g.R.Register.view c.args.register.now).content c.args.movement.now c.in_ok-owner.field-0 (first.value honest1 sure well)
    (g.R.Register.view c.owner.new.self).content c.in_ok-security.field-0 same1 (c.is_none.ensures ∙ ap not c.if-is_none.false)
    (second.value honest2 sure1 well1) (g.R.Register.view c.security.new.self).content c.in_ok-outstanding.field-0 same2 (c.is_none-2.ensures ∙ ap not c.if-is_none-2.false)
    (third.value honest sure2 well2) c.args.movement.now.within (omega arith)

pub returns-clause-read : goal.returns-clause-read
returns-clause-read g c =
    let v0 = g.R.Register.view c.args.register.now in
    let v1 = g.R.Register.view c.owner.new.self in
    let v2 = g.R.Register.view c.security.new.self in
    let v3 = g.R.Register.view c.outstanding.new.self in
    let so_far = read_more _ v0 v1 v2 (read_one _ v0 v1 c.in_ok-owner.ensures.read) c.in_ok-security.ensures.read in
    read_so v0 v3 (read_more _ v0 v2 v3 so_far c.in_ok-outstanding.ensures.read) _

pub returns-clause-value : goal.returns-clause-value
returns-clause-value g c = λ honest sure well.
    let first = c.in_ok-owner.ensures in
    let second = c.in_ok-security.ensures in
    let third = c.in_ok-outstanding.ensures in
    let honest2 = third.read.later.honest honest in
    let honest1 = second.read.later.honest honest2 in
    let sure1 = first.read.ok.sure honest1 sure in
    let sure2 = second.read.ok.sure honest2 sure1 in
    let same1 = first.read.same honest1 sure in
    let same2 = second.read.same honest2 sure1 ∙ same1 in
    let well1 : (g.R.Register.view c.owner.new.self).stage ≢ Failed = λ failed. well (sym first.read.ok.stage ∙ failed) in
    let well2 : (g.R.Register.view c.security.new.self).stage ≢ Failed = λ failed. well1 (sym second.read.ok.stage ∙ failed) in
    issue_passes (g.R.Register.view c.args.register.now).content c.args.movement.now c.in_ok-owner.field-0 (first.value honest1 sure well)
    (g.R.Register.view c.owner.new.self).content c.in_ok-security.field-0 same1 (c.is_none.ensures ∙ ap not c.if-is_none.false)
    (second.value honest2 sure1 well1) (g.R.Register.view c.security.new.self).content c.in_ok-outstanding.field-0 same2 (c.is_none-2.ensures ∙ ap not c.if-is_none-2.false)
    (third.value honest sure2 well2) c.args.movement.now.within (omega arith)

use Rattle.std.proofs.Common.{◌≡◌, ◌≢◌, sym, ◌∙◌, rules}
use Rattle.std.specs.Prelude.{Err}
use Rattle.desk_register.specs.declared.register.Stage.TheVariants.{Failed}
use Rattle.desk_register.proofs.ReadLemmas.{read_more, read_ok, read_one}
use Rattle.desk_register.proofs.ReadingLemmas.{broke_off, read_so}
use Rattle.desk_engine.proofs.RefusalLemmas.{account_known, account_passes, account_stranger}
use Rattle.desk_engine.proofs.checks.refuse_account.Goals as goal

pub returns-then-is_some-clause-value : goal.returns-then-is_some-clause-value
returns-then-is_some-clause-value g c = λ honest sure well. account_known (g.R.Register.view c.args.register.now).content c.args.bic c.args.account c.in_ok-owner.field-0 (c.in_ok-owner.ensures.value honest sure well) (sym c.is_some.ensures ∙ c.if-is_some.true)

pub returns-then-is_some-clause-read : goal.returns-then-is_some-clause-read
returns-then-is_some-clause-read g c = read_ok _ _ (g.R.Register.view c.args.register.now) (g.R.Register.view c.owner.new.self) c.in_ok-owner.ensures.read

pub returns-in_err-participant-clause-read : goal.returns-in_err-participant-clause-read
returns-in_err-participant-clause-read g c =
    let v0 = g.R.Register.view c.args.register.now in
    let v1 = g.R.Register.view c.owner.new.self in
    let is : c.from_residual-in_err-participant.result ≡ Err c.in_err-participant.field-0.0 = search rules in
    rw is (broke_off v0 v1 (read_one _ v0 v1 c.in_ok-owner.ensures.read) c.in_err-participant.field-0.0 (g.R.Register.view c.participant.new.self) c.in_err-participant.ensures.read)

pub returns-then-branch-clause-read : goal.returns-then-branch-clause-read
returns-then-branch-clause-read g c =
    let v0 = g.R.Register.view c.args.register.now in
    let v1 = g.R.Register.view c.owner.new.self in
    let v2 = g.R.Register.view c.participant.new.self in
    read_so v0 v2 (read_more _ v0 v1 v2 (read_one _ v0 v1 c.in_ok-owner.ensures.read) c.in_ok-participant.ensures.read) _

pub returns-then-branch-clause-value : goal.returns-then-branch-clause-value
returns-then-branch-clause-value g c = λ honest sure well.
    let first = c.in_ok-owner.ensures in
    let second = c.in_ok-participant.ensures in
    let honest1 = second.read.later.honest honest in
    let well1 : (g.R.Register.view c.owner.new.self).stage ≢ Failed = λ failed. well (sym first.read.ok.stage ∙ failed) in
    account_passes (g.R.Register.view c.args.register.now).content c.args.bic c.args.account c.in_ok-owner.field-0 (first.value honest1 sure well) (sym c.is_some.ensures ∙ c.if-is_some.false)
    (g.R.Register.view c.owner.new.self).content c.in_ok-participant.field-0 (first.read.same honest1 sure) (second.value honest (first.read.ok.sure honest1 sure) well1) c.if-branch.true

pub returns-clause-read : goal.returns-clause-read
returns-clause-read g c =
    let v0 = g.R.Register.view c.args.register.now in
    let v1 = g.R.Register.view c.owner.new.self in
    let v2 = g.R.Register.view c.participant.new.self in
    read_so v0 v2 (read_more _ v0 v1 v2 (read_one _ v0 v1 c.in_ok-owner.ensures.read) c.in_ok-participant.ensures.read) _

pub returns-clause-value : goal.returns-clause-value
returns-clause-value g c = λ honest sure well.
    let first = c.in_ok-owner.ensures in
    let second = c.in_ok-participant.ensures in
    let honest1 = second.read.later.honest honest in
    let well1 : (g.R.Register.view c.owner.new.self).stage ≢ Failed = λ failed. well (sym first.read.ok.stage ∙ failed) in
    account_stranger (g.R.Register.view c.args.register.now).content c.args.bic c.args.account c.in_ok-owner.field-0 (first.value honest1 sure well) (sym c.is_some.ensures ∙ c.if-is_some.false)
    (g.R.Register.view c.owner.new.self).content c.in_ok-participant.field-0 (first.read.same honest1 sure) (second.value honest (first.read.ok.sure honest1 sure) well1) c.if-branch.false

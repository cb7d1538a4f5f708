use Rattle.std.proofs.Common.{◌≡◌, ◌≢◌, not, ap, sym, ◌∙◌, rules}
use Rattle.std.specs.Prelude.{Err}
use Rattle.desk_register.specs.declared.register.Stage.TheVariants.{Failed}
use Rattle.desk_register.proofs.ReadLemmas.{read_more, read_none, read_ok, read_one}
use Rattle.desk_register.proofs.ReadingLemmas.{broke_off, read_so}
use Rattle.desk_engine.proofs.RefusalLemmas.{instruct_elsewhere, instruct_no_party, instruct_no_security, instruct_not_owner, instruct_other_kind, instruct_passes}
use Rattle.desk_engine.proofs.checks.refuse_instruction.Goals as goal

pub returns-then-not-is_desk-clause-value : goal.returns-then-not-is_desk-clause-value
returns-then-not-is_desk-clause-value g c = λ honest sure well. instruct_elsewhere (g.R.Register.view c.args.register.now).content c.args.sender.now c.args.instruction.now (sym c.is_desk.ensures ∙ c.if-not-is_desk.true)

pub returns-then-not-is_desk-clause-read : goal.returns-then-not-is_desk-clause-read
returns-then-not-is_desk-clause-read g c = (let v0 = g.R.Register.view c.args.register.now in read_so v0 v0 (read_none v0) _)

pub returns-then-is_none-clause-value : goal.returns-then-is_none-clause-value
returns-then-is_none-clause-value g c = λ honest sure well.
    instruct_no_security (g.R.Register.view c.args.register.now).content c.args.sender.now c.args.instruction.now (sym c.is_desk.ensures ∙ c.if-not-is_desk.false) c.in_ok-kind.kind (c.in_ok-kind.ensures.value honest sure well) (c.is_none.ensures ∙ ap not c.if-is_none.true)

pub returns-then-not-is_of_kind-clause-value : goal.returns-then-not-is_of_kind-clause-value
returns-then-not-is_of_kind-clause-value g c = λ honest sure well.
    instruct_other_kind (g.R.Register.view c.args.register.now).content c.args.sender.now c.args.instruction.now (sym c.is_desk.ensures ∙ c.if-not-is_desk.false) c.in_ok-kind.kind (c.in_ok-kind.ensures.value honest sure well) (c.is_none.ensures ∙ ap not c.if-is_none.false) (sym c.is_of_kind.ensures ∙ c.if-not-is_of_kind.true)

pub returns-then-is_none-clause-read : goal.returns-then-is_none-clause-read
returns-then-is_none-clause-read g c = read_ok _ _ (g.R.Register.view c.args.register.now) (g.R.Register.view c.security.new.self) c.in_ok-kind.ensures.read

pub returns-then-not-is_of_kind-clause-read : goal.returns-then-not-is_of_kind-clause-read
returns-then-not-is_of_kind-clause-read g c = read_ok _ _ (g.R.Register.view c.args.register.now) (g.R.Register.view c.security.new.self) c.in_ok-kind.ensures.read

pub returns-in_err-owner-clause-read : goal.returns-in_err-owner-clause-read
returns-in_err-owner-clause-read g c =
    let v0 = g.R.Register.view c.args.register.now in
    let v1 = g.R.Register.view c.security.new.self in
    let is : c.from_residual-in_err-owner.result ≡ Err c.in_err-owner.field-0.0 = search rules in
    rw is (broke_off v0 v1 (read_one _ v0 v1 c.in_ok-kind.ensures.read) c.in_err-owner.field-0.0 (g.R.Register.view c.owner.new.self) c.in_err-owner.ensures.read)

pub returns-then-not-is_owner-clause-read : goal.returns-then-not-is_owner-clause-read
returns-then-not-is_owner-clause-read g c =
    let v0 = g.R.Register.view c.args.register.now in
    let v1 = g.R.Register.view c.security.new.self in
    let v2 = g.R.Register.view c.owner.new.self in
    read_so v0 v2 (read_more _ v0 v1 v2 (read_one _ v0 v1 c.in_ok-kind.ensures.read) c.in_ok-owner.ensures.read) _

pub returns-then-not-is_owner-clause-value : goal.returns-then-not-is_owner-clause-value
returns-then-not-is_owner-clause-value g c = λ honest sure well.
    let first = c.in_ok-kind.ensures in
    let second = c.in_ok-owner.ensures in
    let honest1 = second.read.later.honest honest in
    let well1 : (g.R.Register.view c.security.new.self).stage ≢ Failed = λ failed. well (sym first.read.ok.stage ∙ failed) in
    instruct_not_owner (g.R.Register.view c.args.register.now).content c.args.sender.now c.args.instruction.now (sym c.is_desk.ensures ∙ c.if-not-is_desk.false) c.in_ok-kind.kind (first.value honest1 sure well) (c.is_none.ensures ∙ ap not c.if-is_none.false) (sym c.is_of_kind.ensures ∙ c.if-not-is_of_kind.false)
    (g.R.Register.view c.security.new.self).content c.in_ok-owner.field-0 (first.read.same honest1 sure) (second.value honest (first.read.ok.sure honest1 sure) well1) (sym c.is_owner.ensures ∙ c.if-not-is_owner.true)

pub returns-in_err-participant-clause-read : goal.returns-in_err-participant-clause-read
returns-in_err-participant-clause-read g c =
    let v0 = g.R.Register.view c.args.register.now in
    let v1 = g.R.Register.view c.security.new.self in
    let v2 = g.R.Register.view c.owner.new.self in
    let so_far = read_more _ v0 v1 v2 (read_one _ v0 v1 c.in_ok-kind.ensures.read) c.in_ok-owner.ensures.read in
    let is : c.from_residual-in_err-participant.result ≡ Err c.in_err-participant.field-0.0 = search rules in
    rw is (broke_off v0 v2 so_far c.in_err-participant.field-0.0 (g.R.Register.view c.participant.new.self) c.in_err-participant.ensures.read)

pub returns-then-not-branch-clause-read : goal.returns-then-not-branch-clause-read
returns-then-not-branch-clause-read g c =
    let v0 = g.R.Register.view c.args.register.now in
    let v1 = g.R.Register.view c.security.new.self in
    let v2 = g.R.Register.view c.owner.new.self in
    let v3 = g.R.Register.view c.participant.new.self in
    let so_far = read_more _ v0 v1 v2 (read_one _ v0 v1 c.in_ok-kind.ensures.read) c.in_ok-owner.ensures.read in
    read_so v0 v3 (read_more _ v0 v2 v3 so_far c.in_ok-participant.ensures.read) _

pub returns-then-not-branch-clause-value : goal.returns-then-not-branch-clause-value
returns-then-not-branch-clause-value g c = λ honest sure well.
    let first = c.in_ok-kind.ensures in
    let second = c.in_ok-owner.ensures in
    let third = c.in_ok-participant.ensures in
    let honest2 = third.read.later.honest honest in
    let honest1 = second.read.later.honest honest2 in
    let sure1 = first.read.ok.sure honest1 sure in
    let same1 = first.read.same honest1 sure in
    let same2 = second.read.same honest2 sure1 ∙ same1 in
    let well1 : (g.R.Register.view c.security.new.self).stage ≢ Failed = λ failed. well (sym first.read.ok.stage ∙ failed) in
    let well2 : (g.R.Register.view c.owner.new.self).stage ≢ Failed = λ failed. well1 (sym second.read.ok.stage ∙ failed) in
    instruct_no_party (g.R.Register.view c.args.register.now).content c.args.sender.now c.args.instruction.now (sym c.is_desk.ensures ∙ c.if-not-is_desk.false) c.in_ok-kind.kind (first.value honest1 sure well) (c.is_none.ensures ∙ ap not c.if-is_none.false) (sym c.is_of_kind.ensures ∙ c.if-not-is_of_kind.false)
    (g.R.Register.view c.security.new.self).content c.in_ok-owner.field-0 same1 (second.value honest2 sure1 well1) (sym c.is_owner.ensures ∙ c.if-not-is_owner.false)
    (g.R.Register.view c.owner.new.self).content c.in_ok-participant.field-0 same2 (third.value honest (second.read.ok.sure honest2 sure1) well2) c.if-not-branch.true

pub returns-clause-read : goal.returns-clause-read
returns-clause-read g c =
    let v0 = g.R.Register.view c.args.register.now in
    let v1 = g.R.Register.view c.security.new.self in
    let v2 = g.R.Register.view c.owner.new.self in
    let v3 = g.R.Register.view c.participant.new.self in
    let so_far = read_more _ v0 v1 v2 (read_one _ v0 v1 c.in_ok-kind.ensures.read) c.in_ok-owner.ensures.read in
    read_so v0 v3 (read_more _ v0 v2 v3 so_far c.in_ok-participant.ensures.read) _

pub returns-clause-value : goal.returns-clause-value
returns-clause-value g c = λ honest sure well.
    let first = c.in_ok-kind.ensures in
    let second = c.in_ok-owner.ensures in
    let third = c.in_ok-participant.ensures in
    let honest2 = third.read.later.honest honest in
    let honest1 = second.read.later.honest honest2 in
    let sure1 = first.read.ok.sure honest1 sure in
    let same1 = first.read.same honest1 sure in
    let same2 = second.read.same honest2 sure1 ∙ same1 in
    let well1 : (g.R.Register.view c.security.new.self).stage ≢ Failed = λ failed. well (sym first.read.ok.stage ∙ failed) in
    let well2 : (g.R.Register.view c.owner.new.self).stage ≢ Failed = λ failed. well1 (sym second.read.ok.stage ∙ failed) in
    instruct_passes (g.R.Register.view c.args.register.now).content c.args.sender.now c.args.instruction.now (sym c.is_desk.ensures ∙ c.if-not-is_desk.false) c.in_ok-kind.kind (first.value honest1 sure well) (c.is_none.ensures ∙ ap not c.if-is_none.false) (sym c.is_of_kind.ensures ∙ c.if-not-is_of_kind.false)
    (g.R.Register.view c.security.new.self).content c.in_ok-owner.field-0 same1 (second.value honest2 sure1 well1) (sym c.is_owner.ensures ∙ c.if-not-is_owner.false)
    (g.R.Register.view c.owner.new.self).content c.in_ok-participant.field-0 same2 (third.value honest (second.read.ok.sure honest2 sure1) well2) c.if-not-branch.false

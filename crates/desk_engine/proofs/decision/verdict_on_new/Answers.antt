use Rattle.std.proofs.Common.{◌≢◌, length, sym, ◌∙◌, ap, arith}
use Rattle.desk_register.specs.declared.register.Stage.TheVariants.{Failed}
use Rattle.std.specs.Prelude.{nat_le}
use Rattle.desk_rules.specs.Content.{Content, history_of}
use Rattle.desk_register.specs.Checked.{checks_in}
use Rattle.desk_engine.proofs.DecisionLemmas.{refused, verdict_accept, verdict_full}
use Rattle.desk_engine.proofs.decision.verdict_on_new.Goals as goal

pub returns-in-Some-clause-value : goal.returns-in-Some-clause-value
returns-in-Some-clause-value g c = λ honest sure well.
    let content = (g.R.Register.view c.args.register.now).content in
    refused (checks_in content c.args.entry.now) c.in-Some.refusal (nat_le c.args.limit (length (history_of content)))
    (rw c.in-Some.is at (c.in_ok-refusal.ensures.value honest sure well))

pub returns-then-branch-clause-value : goal.returns-then-branch-clause-value
returns-then-branch-clause-value g c = λ honest sure well.
    let first = c.in_ok-refusal.ensures in
    let honest1 = c.in_ok-count.ensures.read.later.honest honest in
    let well1 : (g.R.Register.view c.refuse.new.register).stage ≢ Failed = λ failed. well (sym first.read.ok.stage ∙ failed) in
    let counted = c.in_ok-count.ensures.value honest (first.read.ok.sure honest1 sure) well1 in
    let content = (g.R.Register.view c.args.register.now).content in
    verdict_full c.args.limit c.in_ok-count.field-0 content c.args.entry.now (counted ∙ ap (λ (z : Content). length z.register) (first.read.same honest1 sure)) (rw c.in_default.is at (first.value honest1 sure well)) (let test = c.if-branch.true in omega arith)

pub returns-clause-value : goal.returns-clause-value
returns-clause-value g c = λ honest sure well.
    let first = c.in_ok-refusal.ensures in
    let honest1 = c.in_ok-count.ensures.read.later.honest honest in
    let well1 : (g.R.Register.view c.refuse.new.register).stage ≢ Failed = λ failed. well (sym first.read.ok.stage ∙ failed) in
    let counted = c.in_ok-count.ensures.value honest (first.read.ok.sure honest1 sure) well1 in
    let content = (g.R.Register.view c.args.register.now).content in
    verdict_accept c.args.limit c.in_ok-count.field-0 content c.args.entry.now (counted ∙ ap (λ (z : Content). length z.register) (first.read.same honest1 sure)) (rw c.in_default.is at (first.value honest1 sure well)) (let test = c.if-branch.false in omega arith)

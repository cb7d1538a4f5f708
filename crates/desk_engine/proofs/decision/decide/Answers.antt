use Rattle.std.proofs.Common.{◌≡◌, sym, subst, ◌∙◌, ap, ◌≢◌, rules}
use Rattle.std.specs.Prelude.{Err}
use Rattle.desk_register.specs.declared.register.Stage.TheVariants.{Failed}
use Rattle.desk_register.proofs.ReadLemmas.{read_more, read_ok, read_one, read_then}
use Rattle.desk_register.proofs.ReadingLemmas.{broke_off, read_so}
use Rattle.desk_rules.specs.Content.{history_of}
use Rattle.desk_rules.specs.Tables.{AreTables}
use Rattle.desk_engine.proofs.DecisionLemmas.{verdict_known, verdict_new_ok}
use Rattle.desk_engine.proofs.decision.decide.Goals as goal

pub returns-in-Some-clause-verdict : goal.returns-in-Some-clause-verdict
returns-in-Some-clause-verdict g c = λ books honest sure well tables.
    let first = c.in_ok-is_from_stranger.ensures in
    let honest1 = c.verdict_on_key.ensures.read.later.honest honest in
    let content1 = first.read.same honest1 sure in
    let history1 = ap history_of content1 in
    verdict_known (g.R.Register.view c.args.register.now).room books
    (history_of (g.R.Register.view c.is_from_stranger.new.register).content) c.args.entry.now c.in-Some.verdict
    (history1 ∙ tables.history)
    (rw history1 (sym (first.value honest1 sure well) ∙ c.if-branch.false))
    (rw c.in-Some.is at (c.in_ok-verdict.ensures.value honest (first.read.ok.sure honest1 sure) (λ failed. well (sym first.read.ok.stage ∙ failed))))

pub returns-clause-verdict : goal.returns-clause-verdict
returns-clause-verdict g c = λ books honest sure well tables.
    let first = c.in_ok-is_from_stranger.ensures in
    let second = c.in_ok-verdict.ensures in
    let honest2 = c.verdict_on_new.ensures.read.later.honest honest in
    let honest1 = c.verdict_on_key.ensures.read.later.honest honest2 in
    let sure1 = first.read.ok.sure honest1 sure in
    let well1 : (g.R.Register.view c.is_from_stranger.new.register).stage ≢ Failed = λ failed. well (sym first.read.ok.stage ∙ failed) in
    let well2 : (g.R.Register.view c.verdict_on_key.new.register).stage ≢ Failed = λ failed. well1 (sym second.read.ok.stage ∙ failed) in
    let same1 = first.read.same honest1 sure in
    let same = second.read.same honest2 sure1 ∙ same1 in
    let history1 = ap history_of same1 in
    let new = rw c.in_default.is at (second.value honest2 sure1 well1) in
    verdict_new_ok c.limit-limit.result (g.R.Register.view c.args.register.now).room books (g.R.Register.view c.verdict_on_key.new.register).content c.args.entry.now c.verdict_on_new.result c.limit-limit.ensures.limit
    (subst (AreTables books) (sym same) tables)
    (rw same (sym (first.value honest1 sure well) ∙ c.if-branch.false))
    (rw same (rw same1 at new))
    (c.verdict_on_new.ensures.value honest (second.read.ok.sure honest2 sure1) well2)

pub returns-then-branch-clause-read : goal.returns-then-branch-clause-read
returns-then-branch-clause-read g c = read_ok _ _ (g.R.Register.view c.args.register.now) (g.R.Register.view c.is_from_stranger.new.register) c.in_ok-is_from_stranger.ensures.read

pub returns-in_err-verdict-clause-read : goal.returns-in_err-verdict-clause-read
returns-in_err-verdict-clause-read g c =
    let v0 = g.R.Register.view c.args.register.now in
    let v1 = g.R.Register.view c.is_from_stranger.new.register in
    let is : c.from_residual-in_err-verdict.result ≡ Err c.in_err-verdict.field-0.0 = search rules in
    rw is (broke_off v0 v1 (read_one _ v0 v1 c.in_ok-is_from_stranger.ensures.read) c.in_err-verdict.field-0.0 (g.R.Register.view c.verdict_on_key.new.register) c.in_err-verdict.ensures.read)

pub returns-in-Some-clause-read : goal.returns-in-Some-clause-read
returns-in-Some-clause-read g c =
    let v0 = g.R.Register.view c.args.register.now in
    let v1 = g.R.Register.view c.is_from_stranger.new.register in
    let v2 = g.R.Register.view c.verdict_on_key.new.register in
    read_so v0 v2 (read_more _ v0 v1 v2 (read_one _ v0 v1 c.in_ok-is_from_stranger.ensures.read) c.in_ok-verdict.ensures.read) _

pub returns-clause-read : goal.returns-clause-read
returns-clause-read g c =
    let v0 = g.R.Register.view c.args.register.now in
    let v1 = g.R.Register.view c.is_from_stranger.new.register in
    let v2 = g.R.Register.view c.verdict_on_key.new.register in
    let so_far = read_more _ v0 v1 v2 (read_one _ v0 v1 c.in_ok-is_from_stranger.ensures.read) c.in_ok-verdict.ensures.read in
    read_then v0 v2 (g.R.Register.view c.verdict_on_new.new.register) so_far c.verdict_on_new.result c.verdict_on_new.ensures.read

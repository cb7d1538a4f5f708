use Rattle.std.proofs.Common.{◌≡◌, ◌≢◌, sym, ◌∙◌, ap, rules}
use Rattle.std.specs.Prelude.{Err}
use Rattle.desk_register.specs.declared.register.Stage.TheVariants.{Failed}
use Rattle.desk_register.proofs.ReadLemmas.{read_more, read_ok, read_one}
use Rattle.desk_register.proofs.ReadingLemmas.{broke_off, read_so}
use Rattle.desk_rules.specs.Content.{history_of}
use Rattle.desk_engine.proofs.DecisionLemmas.{key_repeated, key_used, not_both}
use Rattle.desk_engine.proofs.decision.verdict_on_key.Goals as goal

pub returns-then-asks_the_same-clause-value : goal.returns-then-asks_the_same-clause-value
returns-then-asks_the_same-clause-value g c = λ honest sure well.
    let first = c.in_ok-number.ensures in
    let second = c.in_ok-found.ensures in
    let honest1 = second.read.later.honest honest in
    let well1 : (g.R.Register.view c.number_of.new.self).stage ≢ Failed = λ failed. well (sym first.read.ok.stage ∙ failed) in
    key_repeated (history_of (g.R.Register.view c.args.register.now).content) (history_of (g.R.Register.view c.number_of.new.self).content) c.args.entry.now
    c.sender-sender.result c.reference-reference.result c.in-Some.number c.in_ok-found.found (ap history_of (first.read.same honest1 sure)) c.sender-sender.ensures c.reference-reference.ensures
    (rw c.in-Some.is at (first.value honest1 sure well)) (second.value honest (first.read.ok.sure honest1 sure) well1) (c.asks_the_same.ensures.0 c.if-asks_the_same.true)

pub returns-clause-value : goal.returns-clause-value
returns-clause-value g c = λ honest sure well.
    let first = c.in_ok-number.ensures in
    let second = c.in_ok-found.ensures in
    let honest1 = second.read.later.honest honest in
    let well1 : (g.R.Register.view c.number_of.new.self).stage ≢ Failed = λ failed. well (sym first.read.ok.stage ∙ failed) in
    key_used (history_of (g.R.Register.view c.args.register.now).content) (history_of (g.R.Register.view c.number_of.new.self).content) c.args.entry.now
    c.sender-sender.result c.reference-reference.result c.in-Some.number c.in_ok-found.found c.reused_by.result (ap history_of (first.read.same honest1 sure)) c.sender-sender.ensures c.reference-reference.ensures
    (rw c.in-Some.is at (first.value honest1 sure well)) (second.value honest (first.read.ok.sure honest1 sure) well1)
    (λ asks. not_both c.asks_the_same.result (c.asks_the_same.ensures.1 asks) c.if-asks_the_same.false) c.reused_by.ensures

pub returns-in_default-clause-read : goal.returns-in_default-clause-read
returns-in_default-clause-read g c = read_ok _ _ (g.R.Register.view c.args.register.now) (g.R.Register.view c.number_of.new.self) c.in_ok-number.ensures.read

pub returns-in_err-found-clause-read : goal.returns-in_err-found-clause-read
returns-in_err-found-clause-read g c =
    let v0 = g.R.Register.view c.args.register.now in
    let v1 = g.R.Register.view c.number_of.new.self in
    let is : c.from_residual-in_err-found.result ≡ Err c.in_err-found.field-0.0 = search rules in
    rw is (broke_off v0 v1 (read_one _ v0 v1 c.in_ok-number.ensures.read) c.in_err-found.field-0.0 (g.R.Register.view c.entry.new.self) c.in_err-found.ensures.read)

pub returns-then-asks_the_same-clause-read : goal.returns-then-asks_the_same-clause-read
returns-then-asks_the_same-clause-read g c =
    let v0 = g.R.Register.view c.args.register.now in
    let v1 = g.R.Register.view c.number_of.new.self in
    let v2 = g.R.Register.view c.entry.new.self in
    read_so v0 v2 (read_more _ v0 v1 v2 (read_one _ v0 v1 c.in_ok-number.ensures.read) c.in_ok-found.ensures.read) _

pub returns-clause-read : goal.returns-clause-read
returns-clause-read g c =
    let v0 = g.R.Register.view c.args.register.now in
    let v1 = g.R.Register.view c.number_of.new.self in
    let v2 = g.R.Register.view c.entry.new.self in
    read_so v0 v2 (read_more _ v0 v1 v2 (read_one _ v0 v1 c.in_ok-number.ensures.read) c.in_ok-found.ensures.read) _

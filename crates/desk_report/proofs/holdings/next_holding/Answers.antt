-- The holding, and then how its security is counted.
use Rattle.std.proofs.Common.{rules, ◌∙◌}
use Rattle.desk_register.proofs.ViewLemmas.{idle_goes}
use Rattle.desk_register.proofs.ReadLemmas.{read_more, read_none, read_one}
use Rattle.desk_register.proofs.ReadingLemmas.{gives_up}
use Rattle.desk_report.proofs.NextLemmas.{never_below, never_unknown, no_row, row_is}
use Rattle.desk_report.proofs.StepLemmas.{read_both, read_broke}
use Rattle.desk_report.proofs.holdings.next_holding.Goals as goal

pub returns-in_err-holding-clause-read : goal.returns-in_err-holding-clause-read
returns-in_err-holding-clause-read g c =
    let v0 = g.R.Register.view c.args.register.now in
    read_broke c.in_err-holding.field-0.0 c.from_residual.result v0 v0 (g.R.Register.view c.holding_after.new.self) c.from_residual.ensures.1 (read_none v0) c.in_err-holding.ensures.read

pub returns-in_default-clause-next : goal.returns-in_default-clause-next
returns-in_default-clause-next g c =
    let r = c.in_ok-holding.ensures in
    let v0 = g.R.Register.view c.args.register.now in
    no_row v0 (g.R.Register.view c.holding_after.new.self) c.args.account c.args.last c.in_ok-holding.field-0 r.read (idle_goes v0.stage c.requires.stage) r.value c.in_default.is

pub returns-then-not-is_above-clause-read : goal.returns-then-not-is_above-clause-read
returns-then-not-is_above-clause-read g c =
    let r = c.in_ok-holding.ensures in
    let v0 = g.R.Register.view c.args.register.now in
    let v1 = g.R.Register.view c.holding_after.new.self in
    gives_up v0 v1 (read_one c.in_ok-holding.field-0 v0 v1 r.read) c.requires.stage
    (never_below v0 v1 c.args.account c.args.last c.in_ok-holding.field-0 r.read (idle_goes v0.stage c.requires.stage) r.value c.in-Some.holding c.in-Some.is c.is_above.result c.is_above.ensures (let test = c.if-not-is_above.true in search rules))

pub returns-in_err-kind-clause-read : goal.returns-in_err-kind-clause-read
returns-in_err-kind-clause-read g c =
    let v0 = g.R.Register.view c.args.register.now in
    let v1 = g.R.Register.view c.holding_after.new.self in
    read_broke c.in_err-kind.field-0.0 c.from_residual-in_err-kind.result v0 v1 (g.R.Register.view c.security.new.self) c.from_residual-in_err-kind.ensures.1 (read_one c.in_ok-holding.field-0 v0 v1 c.in_ok-holding.ensures.read)
    c.in_err-kind.ensures.read

pub returns-in_default-2-clause-read : goal.returns-in_default-2-clause-read
returns-in_default-2-clause-read g c =
    let r = c.in_ok-holding.ensures in
    let s = c.in_ok-kind.ensures in
    let v0 = g.R.Register.view c.args.register.now in
    let v1 = g.R.Register.view c.holding_after.new.self in
    let v2 = g.R.Register.view c.security.new.self in
    gives_up v0 v2 (read_more c.in_ok-kind.field-0 v0 v1 v2 (read_one c.in_ok-holding.field-0 v0 v1 r.read) s.read) c.requires.stage
    (never_unknown v0 v1 c.args.account c.args.last c.in_ok-holding.field-0 r.read (idle_goes v0.stage c.requires.stage) r.value c.in-Some.holding c.in-Some.is v2 c.in_ok-kind.field-0 s.read s.value
    (idle_goes v1.stage (r.read.ok.stage ∙ c.requires.stage)) c.requires.registered c.in_default-2.is)

pub returns-clause-next : goal.returns-clause-next
returns-clause-next g c =
    let r = c.in_ok-holding.ensures in
    let s = c.in_ok-kind.ensures in
    let v0 = g.R.Register.view c.args.register.now in
    let v1 = g.R.Register.view c.holding_after.new.self in
    row_is v0 v1 c.args.account c.args.last c.in_ok-holding.field-0 r.read (idle_goes v0.stage c.requires.stage) r.value c.in-Some.holding c.in-Some.is (g.R.Register.view c.security.new.self) c.in_ok-kind.field-0 s.read s.value
    (idle_goes v1.stage (r.read.ok.stage ∙ c.requires.stage)) c.in-Some-2.kind c.in-Some-2.is

pub returns-clause-read : goal.returns-clause-read
returns-clause-read g c =
    read_both c.in_ok-holding.field-0 c.in_ok-kind.field-0 _ (g.R.Register.view c.args.register.now) (g.R.Register.view c.holding_after.new.self) (g.R.Register.view c.security.new.self) c.in_ok-holding.ensures.read
    c.in_ok-kind.ensures.read

-- Row by row, until nothing is held above the last one.
use Rattle.std.proofs.Common.{◌≤◌, Err, ap, ◌∙◌, arith}
use Rattle.desk_register.proofs.ViewLemmas.{idle_goes}
use Rattle.desk_register.proofs.ReadLemmas.{read_more, read_one}
use Rattle.desk_register.proofs.ReadingLemmas.{gives_up}
use Rattle.desk_holdings.proofs.WalkingLemmas.{none_taken, took_by_fault, took_by_sink, walking_begins, walking_breaks, walking_ends, walking_goes_on, walking_hands_over, walking_is_over}
use Rattle.desk_holdings.proofs.walk.holdings_rows.Goals as goal

pub returns-in_err-count-clause-took : goal.returns-in_err-count-clause-took
returns-in_err-count-clause-took g c =
    let later = c.in_err-count.ensures.read.later in
    let v0 = g.R.Register.view c.args.register.now in
    let v = g.R.Register.view c.count.new.self in
    took_by_fault g.S.RowSink.took c.args.account v0 v c.args.sink.now c.args.sink.now c.in_err-count.field-0.0 c.from_residual.result c.from_residual.ensures.1
    (none_taken g.S.RowSink.took c.args.account v0 v c.args.sink.now (λ honest. c.requires.registered (later.honest honest)))

pub holdings-init : goal.holdings-init
holdings-init g c =
    let r = c.in_ok-count.ensures in
    let v0 = g.R.Register.view c.args.register.now in
    let v = g.R.Register.view c.count.new.self in
    walking_begins g.S.RowSink.took c.args.account v0 v c.in_ok-count.count c.args.sink.now (read_one c.in_ok-count.count v0 v r.read) (λ honest sure. r.value honest sure (idle_goes _ c.requires.stage))

pub returns-in_err-row-clause-took : goal.returns-in_err-row-clause-took
returns-in_err-row-clause-took g c =
    let v0 = g.R.Register.view c.args.register.now in
    let v = g.R.Register.view c.holdings.register in
    let v1 = g.R.Register.view c.next_row.new.register in
    took_by_fault g.S.RowSink.took c.args.account v0 v1 c.args.sink.now c.holdings.sink c.in_err-row.field-0.0 c.from_residual-in_err-row.result c.from_residual-in_err-row.ensures.1
    (walking_breaks g.S.RowSink.took c.args.account v0 v c.in_ok-count.count c.holdings.last c.holdings._told c.args.sink.now c.holdings.sink c.holdings.invariant v1 c.in_err-row.ensures.read.later c.requires.registered)

pub returns-in_default-clause-took : goal.returns-in_default-clause-took
returns-in_default-clause-took g c =
    let r = c.in_ok-row.ensures in
    walking_ends g.S.RowSink.took c.args.account (g.R.Register.view c.args.register.now) (g.R.Register.view c.holdings.register) c.in_ok-count.count c.holdings.last c.holdings._told c.args.sink.now c.holdings.sink c.holdings.invariant
    (g.R.Register.view c.next_row.new.register) r.read.later (rw c.in_default.is at r.next)

pub returns-in_err-take-clause-took : goal.returns-in_err-take-clause-took
returns-in_err-take-clause-took g c =
    let v0 = g.R.Register.view c.args.register.now in
    let v = g.R.Register.view c.holdings.register in
    let v1 = g.R.Register.view c.next_row.new.register in
    let r = c.in_ok-row.ensures in
    took_by_sink g.S.RowSink.took c.args.account v0 v1 c.args.sink.now c.take.new.self c.in_err-take.field-0.0 c.from_residual-in_err-take.result c.from_residual-in_err-take.ensures.1 c.holdings.sink
    (walking_hands_over g.S.RowSink.took c.args.account v0 v c.in_ok-count.count c.holdings.last c.holdings._told c.args.sink.now c.holdings.sink c.holdings.invariant v1 c.in-Some.row
    (rw c.in-Some.is at r.read) (rw c.in-Some.is at r.next) c.requires.registered)
    (λ is. c.in_err-take.ensures.memory (ap Err is))

pub holdings-preserved : goal.holdings-preserved
holdings-preserved g c =
    let r = c.in_ok-row.ensures in
    walking_goes_on g.S.RowSink.took c.args.account (g.R.Register.view c.args.register.now) (g.R.Register.view c.holdings.register) c.in_ok-count.count c.holdings.last c.holdings._told c.args.sink.now c.holdings.sink c.holdings.invariant
    (g.R.Register.view c.next_row.new.register) c.in-Some.row c.take.new.self (rw c.in-Some.is at r.read) (rw c.in-Some.is at r.next) c.in_ok-take.ensures.took

pub returns-in_err-holding_after-clause-took : goal.returns-in_err-holding_after-clause-took
returns-in_err-holding_after-clause-took g c =
    let v0 = g.R.Register.view c.args.register.now in
    let v = g.R.Register.view c.holdings.register in
    let v1 = g.R.Register.view c.holding_after.new.self in
    took_by_fault g.S.RowSink.took c.args.account v0 v1 c.args.sink.now c.holdings.sink c.in_err-holding_after.field-0.0 c.from_residual-in_err-holding_after.result c.from_residual-in_err-holding_after.ensures.1
    (walking_breaks g.S.RowSink.took c.args.account v0 v c.in_ok-count.count c.holdings.last c.holdings._told c.args.sink.now c.holdings.sink c.holdings.invariant v1 c.in_err-holding_after.ensures.read.later c.requires.registered)

pub returns-in-None-clause-took : goal.returns-in-None-clause-took
returns-in-None-clause-took g c =
    let r = c.in_ok-holding_after.ensures in
    let i = c.holdings.invariant in
    walking_ends g.S.RowSink.took c.args.account (g.R.Register.view c.args.register.now) (g.R.Register.view c.holdings.register) c.in_ok-count.count c.holdings.last c.holdings._told c.args.sink.now c.holdings.sink i
    (g.R.Register.view c.holding_after.new.self) r.read.later (λ honest sure. (rw c.in-None.is at r.value) honest sure (idle_goes _ (i.read.ok.stage ∙ c.requires.stage)))

pub returns-in-Some-2-clause-took : goal.returns-in-Some-2-clause-took
returns-in-Some-2-clause-took g c =
    walking_breaks g.S.RowSink.took c.args.account (g.R.Register.view c.args.register.now) (g.R.Register.view c.holdings.register) c.in_ok-count.count c.holdings.last c.holdings._told c.args.sink.now c.holdings.sink c.holdings.invariant
    (g.R.Register.view c.holding_after.new.self) c.in_ok-holding_after.ensures.read.later c.requires.registered

pub returns-in-Some-2-clause-read : goal.returns-in-Some-2-clause-read
returns-in-Some-2-clause-read g c =
    let r = c.in_ok-holding_after.ensures in
    let i = c.holdings.invariant in
    let v0 = g.R.Register.view c.args.register.now in
    let v = g.R.Register.view c.holdings.register in
    let w = g.R.Register.view c.holding_after.new.self in
    let all : c.in_ok-count.count ≤ c.holdings._told = omega arith in
    gives_up v0 w (read_more c.in_ok-holding_after.field-0 v0 v w i.read r.read) c.requires.stage
    (walking_is_over g.S.RowSink.took c.args.account v0 v c.in_ok-count.count c.holdings.last c.holdings._told c.args.sink.now c.holdings.sink i
    w c.in-Some-2.field-0 all r.read.later c.requires.registered (λ honest sure. (rw c.in-Some-2.is at r.value) honest sure (idle_goes _ (i.read.ok.stage ∙ c.requires.stage))))

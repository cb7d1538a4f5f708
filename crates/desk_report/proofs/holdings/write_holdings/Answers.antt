-- Row by row, until nothing is held above the last one.
use Rattle.std.proofs.Common.{◌≡◌, ◌≤◌, false, is_some, refl, ◌∙◌, arith}
use Rattle.desk_register.proofs.ViewLemmas.{idle_goes}
use Rattle.desk_register.proofs.ReadLemmas.{kept_so, read_more, read_none, read_one}
use Rattle.desk_register.proofs.ReadingLemmas.{gives_up, read_on, read_so}
use Rattle.desk_holdings.specs.Holdings.{HoldsRegistered}
use Rattle.desk_holdings.proofs.WalkingLemmas.{none_taken, walking_begins, walking_breaks, walking_ends, walking_goes_on, walking_hands_over, walking_is_over}
use Rattle.desk_report.specs.declared.format.Format.TheVariants.{Json}
use Rattle.desk_report.proofs.EndLemmas.{row_broke}
use Rattle.desk_report.proofs.HoldingLemmas.{TakesRow, Told, first_written, holdings_broke, holdings_failed, holdings_written, row_broke_off}
use Rattle.desk_report.proofs.StepLemmas.{register_broke}
use Rattle.desk_report.proofs.holdings.write_holdings.Goals as goal

pub returns-in_err-count-clause-written : goal.returns-in_err-count-clause-written
returns-in_err-count-clause-written g c = λ json honest sure held are.
    let v0 = g.R.Register.view c.args.register.now in
    let v = g.R.Register.view c.count.new.self in
    let later = c.in_err-count.ensures.read.later in
    let start : Told = record { later = c.args.is_later; some = false; held = g.W.Write.contents c.args.writer.now } in
    holdings_failed c.args.owner c.args.account held c.args.is_later start.held c.in_err-count.field-0.0 c.from_residual.result start.held c.from_residual.ensures.1
    (first_written c.args.owner c.args.account (c.args.format ≡ Json) v0 v start start json honest sure held are
    (none_taken (TakesRow c.args.owner c.args.account (c.args.format ≡ Json)) c.args.account v0 v start (λ really known. c.requires.registered (later.honest really) known)))

pub returns-in_err-count-clause-read : goal.returns-in_err-count-clause-read
returns-in_err-count-clause-read g c =
    let v0 = g.R.Register.view c.args.register.now in
    register_broke c.in_err-count.field-0.0 c.from_residual.result v0 v0 (g.R.Register.view c.count.new.self) c.from_residual.ensures.1 (read_none v0) c.in_err-count.ensures.read

pub holdings-init : goal.holdings-init
holdings-init g c =
    let r = c.in_ok-count.ensures in
    let v0 = g.R.Register.view c.args.register.now in
    let v = g.R.Register.view c.count.new.self in
    walking_begins (TakesRow c.args.owner c.args.account (c.args.format ≡ Json)) c.args.account v0 v c.in_ok-count.count
    (record { later = c.args.is_later; some = false; held = g.W.Write.contents c.args.writer.now })
    (read_one c.in_ok-count.count v0 v r.read) (λ honest sure. r.value honest sure (idle_goes _ c.requires.stage))

pub next_holding-requires-clause-registered : goal.next_holding-requires-clause-registered
next_holding-requires-clause-registered g c = λ honest sure.
    let read = c.holdings.invariant.read in
    let sure0 = read.later.sure honest sure in
    kept_so (g.R.Register.view c.args.register.now) (g.R.Register.view c.holdings.register) read (λ content. HoldsRegistered content c.args.account) honest sure0 (c.requires.registered (read.later.honest honest) sure0)

pub returns-in_err-held-clause-read : goal.returns-in_err-held-clause-read
returns-in_err-held-clause-read g c =
    register_broke c.in_err-held.field-0.0 c.from_residual-in_err-held.result (g.R.Register.view c.args.register.now) (g.R.Register.view c.holdings.register) (g.R.Register.view c.next_holding.new.register)
    c.from_residual-in_err-held.ensures.1 c.holdings.invariant.read c.in_err-held.ensures.read

pub returns-in_err-held-clause-written : goal.returns-in_err-held-clause-written
returns-in_err-held-clause-written g c = λ json honest sure held are.
    let v0 = g.R.Register.view c.args.register.now in
    let v = g.R.Register.view c.holdings.register in
    let v1 = g.R.Register.view c.next_holding.new.register in
    let start : Told = record { later = c.args.is_later; some = false; held = g.W.Write.contents c.args.writer.now } in
    let here : Told = record { later = c.holdings.comes_later; some = is_some c.holdings.last; held = g.W.Write.contents c.holdings.writer } in
    holdings_failed c.args.owner c.args.account held c.args.is_later start.held c.in_err-held.field-0.0 c.from_residual-in_err-held.result here.held c.from_residual-in_err-held.ensures.1
    (first_written c.args.owner c.args.account (c.args.format ≡ Json) v0 v1 start here json honest sure held are
    (walking_breaks (TakesRow c.args.owner c.args.account (c.args.format ≡ Json)) c.args.account v0 v c.in_ok-count.count c.holdings.last c.holdings._told start here c.holdings.invariant v1 c.in_err-held.ensures.read.later
    c.requires.registered))

pub returns-in_default-clause-read : goal.returns-in_default-clause-read
returns-in_default-clause-read g c =
    let v0 = g.R.Register.view c.args.register.now in
    let v1 = g.R.Register.view c.next_holding.new.register in
    read_so v0 v1 (read_on v0 (g.R.Register.view c.holdings.register) c.holdings.invariant.read c.in_ok-held.field-0 v1 c.in_ok-held.ensures.read) tt

pub returns-in_default-clause-written : goal.returns-in_default-clause-written
returns-in_default-clause-written g c = λ json honest sure held are.
    let v0 = g.R.Register.view c.args.register.now in
    let v = g.R.Register.view c.holdings.register in
    let v1 = g.R.Register.view c.next_holding.new.register in
    let r = c.in_ok-held.ensures in
    let start : Told = record { later = c.args.is_later; some = false; held = g.W.Write.contents c.args.writer.now } in
    let here : Told = record { later = c.holdings.comes_later; some = is_some c.holdings.last; held = g.W.Write.contents c.holdings.writer } in
    rw c.is_some.ensures
    (holdings_written c.args.owner c.args.account (c.args.format ≡ Json) v0 v1 start here json honest sure held are refl
    (walking_ends (TakesRow c.args.owner c.args.account (c.args.format ≡ Json)) c.args.account v0 v c.in_ok-count.count c.holdings.last c.holdings._told start here c.holdings.invariant v1 r.read.later (rw c.in_default.is at r.next)))

pub returns-in_err-write_account_row-clause-written : goal.returns-in_err-write_account_row-clause-written
returns-in_err-write_account_row-clause-written g c = λ json honest sure held are.
    let v0 = g.R.Register.view c.args.register.now in
    let v = g.R.Register.view c.holdings.register in
    let v1 = g.R.Register.view c.next_holding.new.register in
    let r = c.in_ok-held.ensures in
    let fault = c.in_err-write_account_row.field-0.0 in
    let now = g.W.Write.contents c.write_account_row.new.writer in
    let start : Told = record { later = c.args.is_later; some = false; held = g.W.Write.contents c.args.writer.now } in
    let here : Told = record { later = c.holdings.comes_later; some = is_some c.holdings.last; held = g.W.Write.contents c.holdings.writer } in
    let took = walking_hands_over (TakesRow c.args.owner c.args.account (c.args.format ≡ Json)) c.args.account v0 v c.in_ok-count.count c.holdings.last c.holdings._told start here c.holdings.invariant v1 c.in-Some.held
    (rw c.in-Some.is at r.read) (rw c.in-Some.is at r.next) c.requires.registered in
    holdings_broke c.args.owner c.args.account held c.args.is_later start.held fault c.from_residual-in_err-write_account_row.result now c.from_residual-in_err-write_account_row.ensures.1
    (row_broke_off c.args.owner c.args.account (c.args.format ≡ Json) v0 v1 start here json honest sure held are took fault now (c.in_err-write_account_row.ensures.written json))

pub returns-in_err-write_account_row-clause-read : goal.returns-in_err-write_account_row-clause-read
returns-in_err-write_account_row-clause-read g c =
    let v0 = g.R.Register.view c.args.register.now in
    let v = g.R.Register.view c.holdings.register in
    let v1 = g.R.Register.view c.next_holding.new.register in
    row_broke (Unit {0}) c.in_err-write_account_row.field-0.0 c.from_residual-in_err-write_account_row.result v0 v1 c.from_residual-in_err-write_account_row.ensures.1 c.in_err-write_account_row.ensures.register
    (read_on v0 v c.holdings.invariant.read c.in_ok-held.field-0 v1 c.in_ok-held.ensures.read)

pub holdings-preserved : goal.holdings-preserved
holdings-preserved g c =
    let v0 = g.R.Register.view c.args.register.now in
    let v = g.R.Register.view c.holdings.register in
    let v1 = g.R.Register.view c.next_holding.new.register in
    let r = c.in_ok-held.ensures in
    let start : Told = record { later = c.args.is_later; some = false; held = g.W.Write.contents c.args.writer.now } in
    let here : Told = record { later = c.holdings.comes_later; some = is_some c.holdings.last; held = g.W.Write.contents c.holdings.writer } in
    walking_goes_on (TakesRow c.args.owner c.args.account (c.args.format ≡ Json)) c.args.account v0 v c.in_ok-count.count c.holdings.last c.holdings._told start here c.holdings.invariant v1 c.in-Some.held
    _ (rw c.in-Some.is at r.read) (rw c.in-Some.is at r.next) (record { later = refl; some = refl; written = c.in_ok-write_account_row.ensures.written })

pub returns-in_err-holding_after-clause-read : goal.returns-in_err-holding_after-clause-read
returns-in_err-holding_after-clause-read g c =
    register_broke c.in_err-holding_after.field-0.0 c.from_residual-in_err-holding_after.result (g.R.Register.view c.args.register.now) (g.R.Register.view c.holdings.register) (g.R.Register.view c.holding_after.new.self)
    c.from_residual-in_err-holding_after.ensures.1 c.holdings.invariant.read c.in_err-holding_after.ensures.read

pub returns-in_err-holding_after-clause-written : goal.returns-in_err-holding_after-clause-written
returns-in_err-holding_after-clause-written g c = λ json honest sure held are.
    let v0 = g.R.Register.view c.args.register.now in
    let v = g.R.Register.view c.holdings.register in
    let v1 = g.R.Register.view c.holding_after.new.self in
    let start : Told = record { later = c.args.is_later; some = false; held = g.W.Write.contents c.args.writer.now } in
    let here : Told = record { later = c.holdings.comes_later; some = is_some c.holdings.last; held = g.W.Write.contents c.holdings.writer } in
    holdings_failed c.args.owner c.args.account held c.args.is_later start.held c.in_err-holding_after.field-0.0 c.from_residual-in_err-holding_after.result here.held c.from_residual-in_err-holding_after.ensures.1
    (first_written c.args.owner c.args.account (c.args.format ≡ Json) v0 v1 start here json honest sure held are
    (walking_breaks (TakesRow c.args.owner c.args.account (c.args.format ≡ Json)) c.args.account v0 v c.in_ok-count.count c.holdings.last c.holdings._told start here c.holdings.invariant v1
    c.in_err-holding_after.ensures.read.later c.requires.registered))

pub returns-in-None-clause-read : goal.returns-in-None-clause-read
returns-in-None-clause-read g c =
    let v0 = g.R.Register.view c.args.register.now in
    let v1 = g.R.Register.view c.holding_after.new.self in
    read_so v0 v1 (read_on v0 (g.R.Register.view c.holdings.register) c.holdings.invariant.read c.in_ok-holding_after.field-0 v1 c.in_ok-holding_after.ensures.read) tt

pub returns-in-None-clause-written : goal.returns-in-None-clause-written
returns-in-None-clause-written g c = λ json honest sure held are.
    let v0 = g.R.Register.view c.args.register.now in
    let v = g.R.Register.view c.holdings.register in
    let v1 = g.R.Register.view c.holding_after.new.self in
    let r = c.in_ok-holding_after.ensures in
    let i = c.holdings.invariant in
    let start : Told = record { later = c.args.is_later; some = false; held = g.W.Write.contents c.args.writer.now } in
    let here : Told = record { later = c.holdings.comes_later; some = is_some c.holdings.last; held = g.W.Write.contents c.holdings.writer } in
    rw c.is_some-in-None.ensures
    (holdings_written c.args.owner c.args.account (c.args.format ≡ Json) v0 v1 start here json honest sure held are refl
    (walking_ends (TakesRow c.args.owner c.args.account (c.args.format ≡ Json)) c.args.account v0 v c.in_ok-count.count c.holdings.last c.holdings._told start here i v1 r.read.later
    (λ really known. (rw c.in-None.is at r.value) really known (idle_goes _ (i.read.ok.stage ∙ c.requires.stage)))))

pub returns-in-Some-2-clause-written : goal.returns-in-Some-2-clause-written
returns-in-Some-2-clause-written g c = λ json honest sure held are.
    let v0 = g.R.Register.view c.args.register.now in
    let v = g.R.Register.view c.holdings.register in
    let v1 = g.R.Register.view c.holding_after.new.self in
    let start : Told = record { later = c.args.is_later; some = false; held = g.W.Write.contents c.args.writer.now } in
    let here : Told = record { later = c.holdings.comes_later; some = is_some c.holdings.last; held = g.W.Write.contents c.holdings.writer } in
    record {
      text = first_written c.args.owner c.args.account (c.args.format ≡ Json) v0 v1 start here json honest sure held are
          (walking_breaks (TakesRow c.args.owner c.args.account (c.args.format ≡ Json)) c.args.account v0 v c.in_ok-count.count c.holdings.last c.holdings._told start here c.holdings.invariant v1
          c.in_ok-holding_after.ensures.read.later c.requires.registered);
      some = tt;
    }

pub returns-in-Some-2-clause-read : goal.returns-in-Some-2-clause-read
returns-in-Some-2-clause-read g c =
    let r = c.in_ok-holding_after.ensures in
    let i = c.holdings.invariant in
    let v0 = g.R.Register.view c.args.register.now in
    let v = g.R.Register.view c.holdings.register in
    let v1 = g.R.Register.view c.holding_after.new.self in
    let all : c.in_ok-count.count ≤ c.holdings._told = omega arith in
    let start : Told = record { later = c.args.is_later; some = false; held = g.W.Write.contents c.args.writer.now } in
    let here : Told = record { later = c.holdings.comes_later; some = is_some c.holdings.last; held = g.W.Write.contents c.holdings.writer } in
    gives_up v0 v1 (read_more c.in_ok-holding_after.field-0 v0 v v1 i.read r.read) c.requires.stage
    (walking_is_over (TakesRow c.args.owner c.args.account (c.args.format ≡ Json)) c.args.account v0 v c.in_ok-count.count c.holdings.last c.holdings._told start here i v1 c.in-Some-2.field-0 all r.read.later c.requires.registered
    (λ honest sure. (rw c.in-Some-2.is at r.value) honest sure (idle_goes _ (i.read.ok.stage ∙ c.requires.stage))))

-- Security by security, until there is none above the last one.
use Rattle.std.proofs.Common.{◌≤◌, ◌∙◌, arith}
use Rattle.desk_register.proofs.ViewLemmas.{idle_goes}
use Rattle.desk_register.proofs.ReadLemmas.{read_more, read_one}
use Rattle.desk_register.proofs.ReadingLemmas.{broke_off, read_so}
use Rattle.desk_book.proofs.SummingLemmas.{listing_begins, listing_breaks, listing_ends_all, listing_ends_none, listing_fails, listing_goes_on, nothing_listed, register_failed}
use Rattle.desk_book.proofs.ReadEnds.{fault_after}
use Rattle.desk_book.proofs.TellingLemmas.{walk_broke}
use Rattle.desk_book.proofs.answers.summing.write_securities.Goals as goal

pub returns-in_err-count-clause-written : goal.returns-in_err-count-clause-written
returns-in_err-count-clause-written g c = λ books honest sure keeps.
    register_failed _ c.in_err-count.field-0.0 c.from_residual.result (g.W.Write.contents c.args.writer.now) (g.W.Write.contents c.args.writer.now) c.from_residual.ensures.1
    (nothing_listed (g.R.Register.view c.args.register.now) books (g.W.Write.contents c.args.writer.now) keeps)

pub securities-init : goal.securities-init
securities-init g c =
    let r = c.in_ok-count.ensures in
    let v0 = g.R.Register.view c.args.register.now in
    let v = g.R.Register.view c.count.new.self in
    listing_begins v0 v c.in_ok-count.count (g.W.Write.contents c.args.writer.now) (read_one c.in_ok-count.count v0 v r.read) (λ honest sure. r.value honest sure (idle_goes _ c.requires.stage))

pub returns-in_err-isin-clause-written : goal.returns-in_err-isin-clause-written
returns-in_err-isin-clause-written g c = λ books honest sure keeps.
    let before = g.W.Write.contents c.args.writer.now in
    let now = g.W.Write.contents c.securities.writer in
    register_failed _ c.in_err-isin.field-0.0 c.from_residual-in_err-isin.result before now c.from_residual-in_err-isin.ensures.1
    (listing_fails (g.R.Register.view c.args.register.now) (g.R.Register.view c.securities.register) c.in_ok-count.count c.securities.last c.securities._told before now c.securities.invariant
    (g.R.Register.view c.security_after.new.self) books c.in_err-isin.ensures.read.later honest sure keeps)

pub returns-in_default-clause-written : goal.returns-in_default-clause-written
returns-in_default-clause-written g c = λ books honest sure keeps.
    let r = c.in_ok-isin.ensures in
    listing_ends_none (g.R.Register.view c.args.register.now) (g.R.Register.view c.securities.register) c.in_ok-count.count c.securities.last c.securities._told (g.W.Write.contents c.args.writer.now)
    (g.W.Write.contents c.securities.writer) c.securities.invariant (g.R.Register.view c.security_after.new.self) r.read.later
    (λ really known. (rw c.in_default.is at r.value) really known (idle_goes _ (c.securities.invariant.read.ok.stage ∙ c.requires.stage))) honest sure

pub returns-in_err-write_security-clause-written : goal.returns-in_err-write_security-clause-written
returns-in_err-write_security-clause-written g c = λ books honest sure keeps.
    let r = c.in_ok-isin.ensures in
    let w = c.in_err-write_security.ensures in
    listing_breaks (g.R.Register.view c.args.register.now) (g.R.Register.view c.securities.register) c.in_ok-count.count c.securities.last c.securities._told (g.W.Write.contents c.args.writer.now)
    (g.W.Write.contents c.securities.writer) c.securities.invariant (g.R.Register.view c.security_after.new.self) (g.R.Register.view c.write_security.new.register) c.in-Some.isin (rw c.in-Some.is at r.read)
    (λ really known. (rw c.in-Some.is at r.value) really known (idle_goes _ (c.securities.invariant.read.ok.stage ∙ c.requires.stage))) c.is_some.result (g.W.Write.contents c.write_security.new.writer) c.in_err-write_security.field-0.0
    c.from_residual-in_err-write_security.result books c.from_residual-in_err-write_security.ensures.1 w.read.later w.written honest sure keeps

pub returns-in_err-write_security-clause-read : goal.returns-in_err-write_security-clause-read
returns-in_err-write_security-clause-read g c =
    let v0 = g.R.Register.view c.args.register.now in
    let v = g.R.Register.view c.securities.register in
    let v1 = g.R.Register.view c.security_after.new.self in
    let v2 = g.R.Register.view c.write_security.new.register in
    walk_broke c.in_err-write_security.field-0.0 c.from_residual-in_err-write_security.result v0 v1 v2 c.from_residual-in_err-write_security.ensures.1
    (read_more c.in_ok-isin.field-0 v0 v v1 c.securities.invariant.read c.in_ok-isin.ensures.read) c.in_err-write_security.ensures.read

pub securities-preserved : goal.securities-preserved
securities-preserved g c =
    let r = c.in_ok-isin.ensures in
    let w = c.in_ok-write_security.ensures in
    listing_goes_on (g.R.Register.view c.args.register.now) (g.R.Register.view c.securities.register) c.in_ok-count.count c.securities.last c.securities._told (g.W.Write.contents c.args.writer.now)
    (g.W.Write.contents c.securities.writer) c.securities.invariant (g.R.Register.view c.security_after.new.self) (g.R.Register.view c.write_security.new.register) c.in-Some.isin (rw c.in-Some.is at r.read)
    (λ really known. (rw c.in-Some.is at r.value) really known (idle_goes _ (c.securities.invariant.read.ok.stage ∙ c.requires.stage))) (g.W.Write.contents c.write_security.new.writer) w.read (rw c.is_some.ensures at w.written)

pub returns-clause-written : goal.returns-clause-written
returns-clause-written g c = λ books honest sure keeps.
    let all : c.in_ok-count.count ≤ c.securities._told = omega arith in
    listing_ends_all (g.R.Register.view c.args.register.now) (g.R.Register.view c.securities.register) c.in_ok-count.count c.securities.last c.securities._told (g.W.Write.contents c.args.writer.now)
    (g.W.Write.contents c.securities.writer) c.securities.invariant all honest sure

pub returns-in_err-count-clause-read : goal.returns-in_err-count-clause-read
returns-in_err-count-clause-read g c =
    let v0 = g.R.Register.view c.args.register.now in
    let v1 = g.R.Register.view c.count.new.self in
    fault_after _ c.in_err-count.field-0.0 c.from_residual.result v0 v1 c.from_residual.ensures.1 c.in_err-count.ensures.read

pub returns-in_err-isin-clause-read : goal.returns-in_err-isin-clause-read
returns-in_err-isin-clause-read g c =
    let v0 = g.R.Register.view c.args.register.now in
    let v1 = g.R.Register.view c.securities.register in
    let v2 = g.R.Register.view c.security_after.new.self in
    let broke = broke_off v0 v1 c.securities.invariant.read {Y = Unit {0}} c.in_err-isin.field-0.0 v2 c.in_err-isin.ensures.read in
    fault_after (Unit {0}) c.in_err-isin.field-0.0 c.from_residual-in_err-isin.result v0 v2 c.from_residual-in_err-isin.ensures.1 broke

pub returns-in_default-clause-read : goal.returns-in_default-clause-read
returns-in_default-clause-read g c =
    let v0 = g.R.Register.view c.args.register.now in
    let v1 = g.R.Register.view c.securities.register in
    let v2 = g.R.Register.view c.security_after.new.self in
    read_so v0 v2 (read_more _ v0 v1 v2 c.securities.invariant.read c.in_ok-isin.ensures.read) tt

pub returns-clause-read : goal.returns-clause-read
returns-clause-read g c =
    let v0 = g.R.Register.view c.args.register.now in
    let v1 = g.R.Register.view c.securities.register in
    read_so v0 v1 c.securities.invariant.read tt

-- Pair by pair, until there is none past the last one.
use Rattle.std.proofs.Common.{◌≤◌, ◌∙◌, arith, refl}
use Rattle.desk_register.proofs.ViewLemmas.{idle_goes}
use Rattle.desk_register.proofs.ReadLemmas.{read_more, read_none, read_one}
use Rattle.desk_register.proofs.ReadingLemmas.{gives_up, read_on, read_so}
use Rattle.desk_book.proofs.SummingLemmas.{register_failed}
use Rattle.desk_book.proofs.TellingLemmas.{walk_broke}
use Rattle.desk_report.proofs.StepLemmas.{register_broke}
use Rattle.desk_report.proofs.PendingWalkLemmas.{is_known, listing_begins, listing_breaks, listing_ends, listing_fails, listing_goes_on, listing_is_over, nothing_listed, still_dated, tells_pairs}
use Rattle.desk_report.proofs.pending.walk.write_pending.Goals as goal

pub returns-in_err-count-clause-written : goal.returns-in_err-count-clause-written
returns-in_err-count-clause-written g c = λ json honest sure.
    let v0 = g.R.Register.view c.args.register.now in
    let before = g.W.Write.contents c.args.writer.now in
    register_failed _ c.in_err-count.field-0.0 c.from_residual.result before before c.from_residual.ensures.1
    (nothing_listed v0.content before (tells_pairs v0 c.requires.ready (c.in_err-count.ensures.read.later.honest honest)))

pub returns-in_err-count-clause-read : goal.returns-in_err-count-clause-read
returns-in_err-count-clause-read g c =
    let v0 = g.R.Register.view c.args.register.now in
    register_broke c.in_err-count.field-0.0 c.from_residual.result v0 v0 (g.R.Register.view c.count.new.self) c.from_residual.ensures.1 (read_none v0) c.in_err-count.ensures.read

pub pairs-init : goal.pairs-init
pairs-init g c =
    let r = c.in_ok-count.ensures in
    let v0 = g.R.Register.view c.args.register.now in
    let v = g.R.Register.view c.count.new.self in
    let idle = c.requires.ready.stage refl in
    listing_begins v0 v c.args.format c.in_ok-count.count (g.W.Write.contents c.args.writer.now) (read_one c.in_ok-count.count v0 v r.read) (λ honest sure. r.value honest sure (idle_goes _ idle))

pub next_pair-requires-clause-stage : goal.next_pair-requires-clause-stage
next_pair-requires-clause-stage g c = c.pairs.invariant.read.ok.stage ∙ c.requires.ready.stage refl

pub next_pair-requires-clause-dated : goal.next_pair-requires-clause-dated
next_pair-requires-clause-dated g c =
    let v0 = g.R.Register.view c.args.register.now in
    still_dated v0 (g.R.Register.view c.pairs.register) c.args.format c.in_ok-count.count c.pairs.last c.pairs._told (g.W.Write.contents c.args.writer.now) (g.W.Write.contents c.pairs.writer) c.pairs.invariant (tells_pairs v0 c.requires.ready)

pub returns-in_err-place-clause-written : goal.returns-in_err-place-clause-written
returns-in_err-place-clause-written g c = λ json honest sure.
    let v0 = g.R.Register.view c.args.register.now in
    let before = g.W.Write.contents c.args.writer.now in
    let now = g.W.Write.contents c.pairs.writer in
    register_failed _ c.in_err-place.field-0.0 c.from_residual-in_err-place.result before now c.from_residual-in_err-place.ensures.1
    (listing_fails v0 (g.R.Register.view c.pairs.register) c.args.format c.in_ok-count.count c.pairs.last c.pairs._told before now c.pairs.invariant
    (g.R.Register.view c.next_pair.new.register) c.in_err-place.ensures.read.later (tells_pairs v0 c.requires.ready) json honest sure)

pub returns-in_err-place-clause-read : goal.returns-in_err-place-clause-read
returns-in_err-place-clause-read g c =
    register_broke c.in_err-place.field-0.0 c.from_residual-in_err-place.result (g.R.Register.view c.args.register.now) (g.R.Register.view c.pairs.register) (g.R.Register.view c.next_pair.new.register)
    c.from_residual-in_err-place.ensures.1 c.pairs.invariant.read c.in_err-place.ensures.read

pub returns-in_default-clause-written : goal.returns-in_default-clause-written
returns-in_default-clause-written g c =
    let r = c.in_ok-place.ensures in
    listing_ends (g.R.Register.view c.args.register.now) (g.R.Register.view c.pairs.register) c.args.format c.in_ok-count.count c.pairs.last c.pairs._told (g.W.Write.contents c.args.writer.now) (g.W.Write.contents c.pairs.writer)
    c.pairs.invariant (g.R.Register.view c.next_pair.new.register) r.read.later (rw c.in_default.is at r.next)

pub returns-in_default-clause-read : goal.returns-in_default-clause-read
returns-in_default-clause-read g c =
    let v0 = g.R.Register.view c.args.register.now in
    let v1 = g.R.Register.view c.next_pair.new.register in
    read_so v0 v1 (read_on v0 (g.R.Register.view c.pairs.register) c.pairs.invariant.read c.in_ok-place.field-0 v1 c.in_ok-place.ensures.read) tt

pub write_pair-requires-clause-stage : goal.write_pair-requires-clause-stage
write_pair-requires-clause-stage g c = c.in_ok-place.ensures.read.ok.stage ∙ c.pairs.invariant.read.ok.stage ∙ c.requires.ready.stage refl

pub write_pair-requires-clause-known : goal.write_pair-requires-clause-known
write_pair-requires-clause-known g c =
    let r = c.in_ok-place.ensures in
    let v0 = g.R.Register.view c.args.register.now in
    is_known v0 (g.R.Register.view c.pairs.register) c.args.format c.in_ok-count.count c.pairs.last c.pairs._told (g.W.Write.contents c.args.writer.now) (g.W.Write.contents c.pairs.writer) c.pairs.invariant
    (g.R.Register.view c.next_pair.new.register) c.in-Some.place (rw c.in-Some.is at r.read) (rw c.in-Some.is at r.next) (tells_pairs v0 c.requires.ready)

pub returns-in_err-write_pair-clause-written : goal.returns-in_err-write_pair-clause-written
returns-in_err-write_pair-clause-written g c =
    let r = c.in_ok-place.ensures in
    let w = c.in_err-write_pair.ensures in
    let v0 = g.R.Register.view c.args.register.now in
    listing_breaks v0 (g.R.Register.view c.pairs.register) c.args.format c.in_ok-count.count c.pairs.last c.pairs._told (g.W.Write.contents c.args.writer.now) (g.W.Write.contents c.pairs.writer) c.pairs.invariant
    (g.R.Register.view c.next_pair.new.register) c.in-Some.place (rw c.in-Some.is at r.read) (rw c.in-Some.is at r.next) (g.R.Register.view c.write_pair.new.register) (g.W.Write.contents c.write_pair.new.writer)
    c.in_err-write_pair.field-0.0 c.from_residual-in_err-write_pair.result c.is_some.result c.from_residual-in_err-write_pair.ensures.1 (tells_pairs v0 c.requires.ready) w.read.later w.written

pub returns-in_err-write_pair-clause-read : goal.returns-in_err-write_pair-clause-read
returns-in_err-write_pair-clause-read g c =
    let v0 = g.R.Register.view c.args.register.now in
    let v = g.R.Register.view c.pairs.register in
    let v1 = g.R.Register.view c.next_pair.new.register in
    let v2 = g.R.Register.view c.write_pair.new.register in
    walk_broke c.in_err-write_pair.field-0.0 c.from_residual-in_err-write_pair.result v0 v1 v2 c.from_residual-in_err-write_pair.ensures.1
    (read_more c.in_ok-place.field-0 v0 v v1 c.pairs.invariant.read c.in_ok-place.ensures.read) c.in_err-write_pair.ensures.read

pub pairs-preserved : goal.pairs-preserved
pairs-preserved g c =
    let r = c.in_ok-place.ensures in
    let w = c.in_ok-write_pair.ensures in
    listing_goes_on (g.R.Register.view c.args.register.now) (g.R.Register.view c.pairs.register) c.args.format c.in_ok-count.count c.pairs.last c.pairs._told (g.W.Write.contents c.args.writer.now)
    (g.W.Write.contents c.pairs.writer) c.pairs.invariant (g.R.Register.view c.next_pair.new.register) c.in-Some.place (rw c.in-Some.is at r.read) (rw c.in-Some.is at r.next)
    (g.R.Register.view c.write_pair.new.register) (g.W.Write.contents c.write_pair.new.writer) w.read (rw c.is_some.ensures at w.written)

pub next_pair-requires-2-clause-stage : goal.next_pair-requires-2-clause-stage
next_pair-requires-2-clause-stage g c = c.pairs.invariant.read.ok.stage ∙ c.requires.ready.stage refl

pub next_pair-requires-2-clause-dated : goal.next_pair-requires-2-clause-dated
next_pair-requires-2-clause-dated g c =
    let v0 = g.R.Register.view c.args.register.now in
    still_dated v0 (g.R.Register.view c.pairs.register) c.args.format c.in_ok-count.count c.pairs.last c.pairs._told (g.W.Write.contents c.args.writer.now) (g.W.Write.contents c.pairs.writer) c.pairs.invariant (tells_pairs v0 c.requires.ready)

pub returns-in_err-next_pair-clause-written : goal.returns-in_err-next_pair-clause-written
returns-in_err-next_pair-clause-written g c = λ json honest sure.
    let v0 = g.R.Register.view c.args.register.now in
    let before = g.W.Write.contents c.args.writer.now in
    let now = g.W.Write.contents c.pairs.writer in
    register_failed _ c.in_err-next_pair.field-0.0 c.from_residual-in_err-next_pair.result before now c.from_residual-in_err-next_pair.ensures.1
    (listing_fails v0 (g.R.Register.view c.pairs.register) c.args.format c.in_ok-count.count c.pairs.last c.pairs._told before now c.pairs.invariant
    (g.R.Register.view c.next_pair-2.new.register) c.in_err-next_pair.ensures.read.later (tells_pairs v0 c.requires.ready) json honest sure)

pub returns-in_err-next_pair-clause-read : goal.returns-in_err-next_pair-clause-read
returns-in_err-next_pair-clause-read g c =
    register_broke c.in_err-next_pair.field-0.0 c.from_residual-in_err-next_pair.result (g.R.Register.view c.args.register.now) (g.R.Register.view c.pairs.register) (g.R.Register.view c.next_pair-2.new.register)
    c.from_residual-in_err-next_pair.ensures.1 c.pairs.invariant.read c.in_err-next_pair.ensures.read

pub returns-in-None-clause-written : goal.returns-in-None-clause-written
returns-in-None-clause-written g c =
    let r = c.in_ok-next_pair.ensures in
    listing_ends (g.R.Register.view c.args.register.now) (g.R.Register.view c.pairs.register) c.args.format c.in_ok-count.count c.pairs.last c.pairs._told (g.W.Write.contents c.args.writer.now) (g.W.Write.contents c.pairs.writer)
    c.pairs.invariant (g.R.Register.view c.next_pair-2.new.register) r.read.later (rw c.in-None.is at r.next)

pub returns-in-None-clause-read : goal.returns-in-None-clause-read
returns-in-None-clause-read g c =
    let v0 = g.R.Register.view c.args.register.now in
    let v1 = g.R.Register.view c.next_pair-2.new.register in
    read_so v0 v1 (read_on v0 (g.R.Register.view c.pairs.register) c.pairs.invariant.read c.in_ok-next_pair.field-0 v1 c.in_ok-next_pair.ensures.read) tt

pub returns-in-Some-2-clause-written : goal.returns-in-Some-2-clause-written
returns-in-Some-2-clause-written g c =
    let v0 = g.R.Register.view c.args.register.now in
    listing_fails v0 (g.R.Register.view c.pairs.register) c.args.format c.in_ok-count.count c.pairs.last c.pairs._told (g.W.Write.contents c.args.writer.now) (g.W.Write.contents c.pairs.writer) c.pairs.invariant
    (g.R.Register.view c.next_pair-2.new.register) c.in_ok-next_pair.ensures.read.later (tells_pairs v0 c.requires.ready)

pub returns-in-Some-2-clause-read : goal.returns-in-Some-2-clause-read
returns-in-Some-2-clause-read g c =
    let r = c.in_ok-next_pair.ensures in
    let i = c.pairs.invariant in
    let v0 = g.R.Register.view c.args.register.now in
    let v = g.R.Register.view c.pairs.register in
    let w = g.R.Register.view c.next_pair-2.new.register in
    let all : c.in_ok-count.count ≤ c.pairs._told = omega arith in
    gives_up v0 w (read_more c.in_ok-next_pair.field-0 v0 v w i.read r.read) (c.requires.ready.stage refl)
    (listing_is_over v0 v c.args.format c.in_ok-count.count c.pairs.last c.pairs._told (g.W.Write.contents c.args.writer.now) (g.W.Write.contents c.pairs.writer) i w c.in-Some-2.field-0
    (rw c.in-Some-2.is at r.read) (rw c.in-Some-2.is at r.next) all)

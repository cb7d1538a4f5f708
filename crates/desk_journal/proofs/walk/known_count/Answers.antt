use Rattle.std.proofs.Common.{◌≡◌, ◌≢◌, refl, sym, ◌∙◌, arith}
use Rattle.std.proofs.lemmas.Bool.{ltb-true}
use Rattle.desk_register.specs.declared.register.Stage.TheVariants.{Failed, Idle}
use Rattle.desk_register.proofs.ReadLemmas.{read_one}
use Rattle.desk_register.proofs.ReadingLemmas.{gives_up}
use Rattle.desk_journal.proofs.KnownLemmas.{within_room}
use Rattle.desk_journal.proofs.walk.known_count.Goals as goal

pub returns-then-are_too_many-clause-read : goal.returns-then-are_too_many-clause-read
returns-then-are_too_many-clause-read g c =
    let v0 = g.R.Register.view c.args.register.now in
    let v1 = g.R.Register.view c.count.new.self in
    let r = c.in_ok-count.ensures in
    let idle = c.requires.ready.stage refl in
    let begun : v0.stage ≢ Failed = λ failed. (let clash : Idle ≡ Failed = sym idle ∙ failed in cc) in
    gives_up v0 v1 (read_one c.in_ok-count.count v0 v1 r.read) idle (λ honest sure.
    let within = within_room v0 c.requires.ready (r.read.later.honest honest) in
    let entries = r.value honest sure begun in
    let room = r.read.later.room in
    let limit = c.limit.ensures.limit in
    let more = ltb-true c.limit.result c.in_ok-count.count (sym c.are_too_many.ensures ∙ c.if-are_too_many.true) in
    absurd (omega (arith, within, entries, room, limit, more)))

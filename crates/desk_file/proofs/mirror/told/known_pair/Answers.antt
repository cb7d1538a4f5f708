use Rattle.std.proofs.Common.{◌≡◌, ◌≢◌, ◌∙◌, ap, sym}
use Rattle.desk_register.specs.View.{IsRead, Stays}
use Rattle.desk_register.specs.declared.register.Stage.TheVariants.{Failed}
use Rattle.desk_register.proofs.ReadLemmas.{read_more}
use Rattle.desk_file.proofs.BothLemmas.{has_read}
use Rattle.desk_file.proofs.ToldLemmas.{ok_fact, ok_value, read_pair}
use Rattle.desk_file.proofs.mirror.told.known_pair.Goals as goal

pub returns-clause-known : goal.returns-clause-known
returns-clause-known g c = λ honest sure goes.
    let law = g.met.R.MemoryRegister.has_no_device in
    let m0 = g.R.Register.view c.args.register.now in
    let m1 = g.R.Register.view c.standing.new.self in
    let m2 = g.R.Register.view c.instruction.new.register in
    let read : IsRead c.standing.result m0 m1 = c.standing.ensures.read in
    let is_ok = c.unwrap.ensures in
    let stands = ok_value c.standing.result c.unwrap.result (λ s. s ≡ m0.content.standing c.args.number) is_ok (c.standing.ensures.value (law c.standing.new.self).honest sure goes) in
    let same = ok_fact c.standing.result c.unwrap.result (m1.content ≡ m0.content) is_ok (read.same (law c.standing.new.self).honest sure) in
    let stays = ok_fact c.standing.result c.unwrap.result (Stays m0 m1) is_ok read.ok in
    let goes1 : m1.stage ≢ Failed = λ e. goes (sym stays.stage ∙ e) in
    let goes2 : m2.stage ≢ Failed = λ e. goes1 (sym c.in_ok-earlier.ensures.read.ok.stage ∙ e) in
    let honest2 = (law c.instruction.new.register).honest in
    read_pair m0.content m1.content m2.content c.args.number c.in_ok-mate.mate c.in_ok-earlier.earlier c.in_ok-later.later (ap (λ s. s.mate) (sym stands) ∙ c.in_ok-mate.was) same
    (c.in_ok-earlier.ensures.value honest2 (law c.standing.new.self).sure goes1) (c.in_ok-earlier.ensures.read.same honest2 (law c.standing.new.self).sure)
    (c.in_ok-later.ensures.value honest (law c.instruction.new.register).sure goes2)

pub returns-in_err-mate-clause-read : goal.returns-in_err-mate-clause-read
returns-in_err-mate-clause-read g c = has_read c.standing.result c.unwrap.result _ _ c.unwrap.ensures c.standing.ensures.read

pub returns-in_err-earlier-clause-read : goal.returns-in_err-earlier-clause-read
returns-in_err-earlier-clause-read g c =
    let m0 = g.R.Register.view c.args.register.now in
    let m1 = g.R.Register.view c.standing.new.self in
    let m2 = g.R.Register.view c.instruction.new.register in
    read_more tt m0 m1 m2 (has_read c.standing.result c.unwrap.result m0 m1 c.unwrap.ensures c.standing.ensures.read) c.instruction.ensures.read

pub returns-in_err-later-clause-read : goal.returns-in_err-later-clause-read
returns-in_err-later-clause-read g c =
    let m0 = g.R.Register.view c.args.register.now in
    let m1 = g.R.Register.view c.standing.new.self in
    let m2 = g.R.Register.view c.instruction.new.register in
    let m3 = g.R.Register.view c.instruction-2.new.register in
    read_more tt m0 m2 m3 (read_more tt m0 m1 m2 (has_read c.standing.result c.unwrap.result m0 m1 c.unwrap.ensures c.standing.ensures.read) c.instruction.ensures.read) c.instruction-2.ensures.read

pub returns-clause-read : goal.returns-clause-read
returns-clause-read g c =
    let m0 = g.R.Register.view c.args.register.now in
    let m1 = g.R.Register.view c.standing.new.self in
    let m2 = g.R.Register.view c.instruction.new.register in
    let m3 = g.R.Register.view c.instruction-2.new.register in
    read_more tt m0 m2 m3 (read_more tt m0 m1 m2 (has_read c.standing.result c.unwrap.result m0 m1 c.unwrap.ensures c.standing.ensures.read) c.instruction.ensures.read) c.instruction-2.ensures.read

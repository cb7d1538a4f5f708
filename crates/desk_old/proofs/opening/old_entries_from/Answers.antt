use Rattle.std.proofs.Common.{◌∙◌, arith, subst, sym}
use Rattle.sqlite.specs.Effect.{Database}
use Rattle.sqlite.specs.Held.{state}
use Rattle.sqlite.specs.State.{HasCleanDisk}
use Rattle.desk_old.specs.Old.{HoldsOld}
use Rattle.desk_old.proofs.opening.old_entries_from.Goals as goal

pub returns-in-Err-read_old-clause-refused : goal.returns-in-Err-read_old-clause-refused
returns-in-Err-read_old-clause-refused g c = λ clean is old.
    let s1 = state g.S.Store c.in-Ok.conn in
    let s2 = state g.S.Store c.read_old.new.conn in
    let clean2 : HasCleanDisk s2 = c.give_up-in-Err-read_old.ensures.clean clean in
    let clean1 : HasCleanDisk s1 = omega (arith, clean2, c.in-Err-read_old.ensures.spares.later.clean) in
    c.in-Err-read_old.ensures.refused clean2 is old.0
    (subst (λ (d : Database). HoldsOld d old.0) (sym ((c.in-Ok.ensures.open clean1).opens.clean ∙ c.in-Ok.ensures.same clean1)) old.1)

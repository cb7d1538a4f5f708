use Rattle.std.proofs.Common.{◌∙◌, ap, arith, subst, sym}
use Rattle.sqlite.specs.Effect.{Database}
use Rattle.sqlite.specs.Held.{state}
use Rattle.sqlite.specs.State.{HasCleanDisk}
use Rattle.memory_register.specs.ListsView.{view_of_lists}
use Rattle.desk_file.specs.Desks.{IsDesks}
use Rattle.desk_file.specs.Opened.{Finds}
use Rattle.desk_file.specs.OtherVersion.{SaysOther}
use Rattle.desk_file.proofs.opening.adopt.Goals as goal

pub take_over-requires-clause-unlimited : goal.take_over-requires-clause-unlimited
take_over-requires-clause-unlimited g c = c.in-Ok.ensures.fresh.unlimited

pub returns-in-Ok-take_over-clause-which : goal.returns-in-Ok-take_over-clause-which
returns-in-Ok-take_over-clause-which g c = λ clean.
    let s1 = state g.S.Store c.in-Ok.conn in
    let clean1 : HasCleanDisk s1 = omega (arith, clean, c.in-Ok-take_over.ensures.later.clean) in
    subst (λ (d : Database). Finds d (state g.S.Store c.in-Ok-take_over.both.tables.connection).committed (view_of_lists c.in-Ok-take_over.both.memory).content) (c.in-Ok.ensures.same clean1) (c.in-Ok-take_over.ensures.which clean)

pub returns-in-Err-take_over-clause-back : goal.returns-in-Err-take_over-clause-back
returns-in-Err-take_over-clause-back g c = λ clean now.
    let s0 = state g.S.Store c.args.conn in
    let s1 = state g.S.Store c.in-Ok.conn in
    let s2 = state g.S.Store c.in-Err-take_over.conn in
    let clean2 : HasCleanDisk s2 = c.give_up.ensures.clean clean in
    let clean1 : HasCleanDisk s1 = omega (arith, clean2, c.in-Err-take_over.ensures.handed.clean) in
    let back = c.give_up.ensures.back clean now in
    let same = ap (λ (d : Database). d.trees) (c.in-Err-take_over.ensures.kept clean2 (c.give_up.ensures.opened clean now) ∙ c.in-Ok.ensures.same clean1) in
    record { trees = back.trees ∙ same; committed = back.committed ∙ same }

pub returns-in-Err-take_over-clause-refused : goal.returns-in-Err-take_over-clause-refused
returns-in-Err-take_over-clause-refused g c = λ clean is desks.
    let s1 = state g.S.Store c.in-Ok.conn in
    let clean2 : HasCleanDisk (state g.S.Store c.in-Err-take_over.conn) = c.give_up.ensures.clean clean in
    let clean1 : HasCleanDisk s1 = omega (arith, clean2, c.in-Err-take_over.ensures.handed.clean) in
    c.in-Err-take_over.ensures.refused clean2 is
    (subst (IsDesks c.args.limit) (sym ((c.in-Ok.ensures.open clean1).opens.clean ∙ c.in-Ok.ensures.same clean1)) desks)

pub returns-in-Err-take_over-clause-other : goal.returns-in-Err-take_over-clause-other
returns-in-Err-take_over-clause-other g c = λ clean is.
    let s1 = state g.S.Store c.in-Ok.conn in
    let clean2 : HasCleanDisk (state g.S.Store c.in-Err-take_over.conn) = c.give_up.ensures.clean clean in
    let clean1 : HasCleanDisk s1 = omega (arith, clean2, c.in-Err-take_over.ensures.handed.clean) in
    subst (SaysOther (state g.S.Store)) ((c.in-Ok.ensures.open clean1).opens.clean ∙ c.in-Ok.ensures.same clean1) (c.in-Err-take_over.ensures.other clean2 is)

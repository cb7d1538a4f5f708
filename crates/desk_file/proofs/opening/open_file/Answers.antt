use Rattle.std.proofs.Common.{◌≡◌, ◌∙◌, inl, ap, arith, subst, sym}
use Rattle.sqlite.specs.Effect.{Database}
use Rattle.sqlite.specs.Files.{file_state, AreFoundIn}
use Rattle.sqlite.specs.State.{HasCleanDisk}
use Rattle.sqlite_store.specs.FileStore.{faults, view}
use Rattle.sqlite_trees.proofs.Doubt.{no_doubt}
use Rattle.sqlite_trees.specs.View.{IsClean}
use Rattle.sqlite_wal.specs.Files.{image_at}
use Rattle.desk_file.specs.Faults.{IsRefusal}
use Rattle.desk_file.specs.OtherVersion.{SaysOther}
use Rattle.desk_file.proofs.LeftLemmas.{opened_desks, some_faults, unopened_blamed, unopened_left, unopened_refused}
use Rattle.desk_file.proofs.opening.open_file.Goals as goal

pub take_over-requires-clause-open : goal.take_over-requires-clause-open
take_over-requires-clause-open g c = λ clean. record { opens = (c.in-Ok.ensures.opened clean).0; order = c.in-Ok.ensures.order clean }

pub take_over-requires-clause-unlimited : goal.take_over-requires-clause-unlimited
take_over-requires-clause-unlimited g c = c.in-Ok.ensures.fresh.unlimited

pub returns-in-Ok-take_over-clause-which : goal.returns-in-Ok-take_over-clause-which
returns-in-Ok-take_over-clause-which g c = λ clean.
    let s1 = file_state c.in-Ok.conn in
    let clean1 : HasCleanDisk s1 = omega (arith, clean, c.in-Ok-take_over.ensures.later.clean) in
    let found = c.in-Ok.ensures.found clean1 in
    let opened = c.in-Ok.ensures.opened clean1 in
    record { old = s1.committed; is = (opened.1 opened.0.is_open).1; reads = found.reads; only = found.holds; finds = c.in-Ok-take_over.ensures.which clean }

pub returns-in-Err-clause-back : goal.returns-in-Err-clause-back
returns-in-Err-clause-back g c = unopened_left _ (image_at g.S.Start) c.in-Err.error c.in-Err.left c.in-Err.ensures.cause

pub returns-in-Err-clause-refused : goal.returns-in-Err-clause-refused
returns-in-Err-clause-refused g c = λ is.
    unopened_refused _ (image_at g.S.Start) c.in-Err.error c.args.limit c.in-Err.left c.is_caught.result c.in-Err.ensures.unopened c.is_caught.ensures.none c.is_caught.ensures.some c.in-Err.ensures.cause
    (subst IsRefusal c.fault_of_files-fault.ensures.value is)

pub returns-in-Err-clause-blame : goal.returns-in-Err-clause-blame
returns-in-Err-clause-blame g c = λ storage.
    unopened_blamed _ (image_at g.S.Start) c.in-Err.error c.in-Err.left c.is_caught.result c.is_caught.ensures.some c.in-Err.ensures.cause (sym c.fault_of_files-fault.ensures.value ∙ storage)

pub returns-in-Err-take_over-clause-back : goal.returns-in-Err-take_over-clause-back
returns-in-Err-take_over-clause-back g c = λ clean now found recovered.
    let s1 = file_state c.in-Ok.conn in
    let s2 = file_state c.in-Err-take_over.conn in
    let whole : IsClean (view c.give_up.result) = no_doubt _ clean in
    let clean2 : HasCleanDisk s2 = c.give_up.ensures.clean whole in
    let clean1 : HasCleanDisk s1 = omega (arith, clean2, c.in-Err-take_over.ensures.handed.clean) in
    let it = c.in-Ok.ensures.found clean1 in
    let same : found ≡ s1.committed.trees = c.give_up.ensures.left whole now found recovered
    ∙ ap (λ (d : Database). d.trees) (c.in-Err-take_over.ensures.kept clean2 (c.give_up.ensures.opened whole now)) in
    (subst (AreFoundIn (image_at g.S.Start)) (sym same) it.reads, λ db held. same ∙ it.holds db held)

pub returns-in-Err-take_over-clause-refused : goal.returns-in-Err-take_over-clause-refused
returns-in-Err-take_over-clause-refused g c = λ is clean desks.
    let s1 = file_state c.in-Ok.conn in
    let s2 = file_state c.in-Err-take_over.conn in
    let clean2 : HasCleanDisk s2 = c.give_up.ensures.clean (no_doubt _ clean) in
    let clean1 : HasCleanDisk s1 = omega (arith, clean2, c.in-Err-take_over.ensures.handed.clean) in
    let opened = c.in-Ok.ensures.opened clean1 in
    c.in-Err-take_over.ensures.refused clean2 is (opened_desks (image_at g.S.Start) c.args.limit s1 opened.0 opened.1 (c.in-Ok.ensures.found clean1) desks)

pub returns-in-Err-take_over-clause-blame : goal.returns-in-Err-take_over-clause-blame
returns-in-Err-take_over-clause-blame g c = λ storage clean.
    let s1 = file_state c.in-Ok.conn in
    let s2 = file_state c.in-Err-take_over.conn in
    let clean2 : HasCleanDisk s2 = c.give_up.ensures.clean (no_doubt _ clean) in
    inl (some_faults s1.faults s2.faults (faults c.give_up.result) (c.in-Err-take_over.ensures.blame clean2 storage) c.in-Err-take_over.ensures.handed.faults c.give_up.ensures.counts)

pub returns-in-Err-take_over-clause-other : goal.returns-in-Err-take_over-clause-other
returns-in-Err-take_over-clause-other g c = λ is clean.
    let s1 = file_state c.in-Ok.conn in
    let s2 = file_state c.in-Err-take_over.conn in
    let clean2 : HasCleanDisk s2 = c.give_up.ensures.clean (no_doubt _ clean) in
    let clean1 : HasCleanDisk s1 = omega (arith, clean2, c.in-Err-take_over.ensures.handed.clean) in
    let opened = c.in-Ok.ensures.opened clean1 in
    let found = c.in-Ok.ensures.found clean1 in
    record {
      db = s1.committed;
      is = (opened.1 opened.0.is_open).1;
      reads = found.reads;
      only = found.holds;
      says = subst (SaysOther _) opened.0.clean (c.in-Err-take_over.ensures.other clean2 is);
    }

use Rattle.std.proofs.Common.{◌≡◌, ◌∙◌, ◌⊎◌, Err, inl, ap, arith, subst, sym}
use Rattle.sqlite.specs.Effect.{Database}
use Rattle.sqlite.specs.Files.{file_state, AreFoundIn}
use Rattle.sqlite.specs.State.{HasCleanDisk}
use Rattle.sqlite_store.specs.FileStore.{faults, view}
use Rattle.sqlite_trees.proofs.Doubt.{no_doubt}
use Rattle.sqlite_trees.specs.View.{IsClean}
use Rattle.sqlite_wal.specs.Files.{image_at}
use Rattle.desk_file.specs.Faults.{IsRefusal}
use Rattle.desk_file.proofs.LeftLemmas.{opened_same, some_faults, unopened_blamed, unopened_left, unopened_refused_of}
use Rattle.desk_old.specs.Old.{HoldsEntries, HoldsOld, IsOldIn, SaysNeither}
use Rattle.desk_old.proofs.opening.old_entries.Goals as goal

pub returns-in-Err-clause-back : goal.returns-in-Err-clause-back
returns-in-Err-clause-back g c = unopened_left _ (image_at g.S.Start) c.in-Err.error c.in-Err.left c.in-Err.ensures.cause

pub returns-in-Err-clause-refused : goal.returns-in-Err-clause-refused
returns-in-Err-clause-refused g c = λ is.
    unopened_refused_of _ (image_at g.S.Start) c.in-Err.error (IsOldIn (image_at g.S.Start)) (λ old. inl (old.0.trees, old.2)) c.in-Err.left c.is_caught.result c.in-Err.ensures.unopened c.is_caught.ensures.none c.is_caught.ensures.some c.in-Err.ensures.cause
    (subst IsRefusal c.fault_of_files-fault.ensures.value is)

pub returns-in-Err-clause-blame : goal.returns-in-Err-clause-blame
returns-in-Err-clause-blame g c = λ storage.
    unopened_blamed _ (image_at g.S.Start) c.in-Err.error c.in-Err.left c.is_caught.result c.is_caught.ensures.some c.in-Err.ensures.cause (sym c.fault_of_files-fault.ensures.value ∙ storage)

pub read_old-requires-clause-open : goal.read_old-requires-clause-open
read_old-requires-clause-open g c = λ clean. record { opens = (c.in-Ok.ensures.opened clean).0; order = c.in-Ok.ensures.order clean }

pub returns-in-Ok-read_old-clause-which : goal.returns-in-Ok-read_old-clause-which
returns-in-Ok-read_old-clause-which g c = λ clean.
    let s1 = file_state c.in-Ok.conn in
    let s2 = file_state c.read_old.new.conn in
    let clean2 : HasCleanDisk s2 = c.give_up.ensures.clean (no_doubt _ clean) in
    let clean1 : HasCleanDisk s1 = omega (arith, clean2, c.in-Ok-read_old.ensures.spares.later.clean) in
    let found = c.in-Ok.ensures.found clean1 in
    let opened = c.in-Ok.ensures.opened clean1 in
    record {
      db = s1.committed;
      is = (opened.1 opened.0.is_open).1;
      reads = found.reads;
      only = found.holds;
      holds = subst (λ (d : Database). HoldsEntries d c.in-Ok-read_old.entries.items) opened.0.clean (c.in-Ok-read_old.ensures.which clean2);
    }

pub returns-in-Ok-read_old-clause-kept : goal.returns-in-Ok-read_old-clause-kept
returns-in-Ok-read_old-clause-kept g c = λ clean now found recovered.
    let s1 = file_state c.in-Ok.conn in
    let s2 = file_state c.read_old.new.conn in
    let whole : IsClean (view c.give_up.result) = no_doubt _ clean in
    let clean2 : HasCleanDisk s2 = c.give_up.ensures.clean whole in
    let clean1 : HasCleanDisk s1 = omega (arith, clean2, c.in-Ok-read_old.ensures.spares.later.clean) in
    let it = c.in-Ok.ensures.found clean1 in
    let same : found ≡ s1.committed.trees = c.give_up.ensures.left whole now found recovered
    ∙ ap (λ (d : Database). d.trees) (c.in-Ok-read_old.ensures.spares.kept clean2 (c.give_up.ensures.opened whole now)) in
    (subst (AreFoundIn (image_at g.S.Start)) (sym same) it.reads, λ db held. same ∙ it.holds db held)

pub returns-in-Err-read_old-clause-back : goal.returns-in-Err-read_old-clause-back
returns-in-Err-read_old-clause-back g c = λ clean now found recovered.
    let s1 = file_state c.in-Ok.conn in
    let s2 = file_state c.read_old.new.conn in
    let whole : IsClean (view c.give_up-in-Err-read_old.result) = no_doubt _ clean in
    let clean2 : HasCleanDisk s2 = c.give_up-in-Err-read_old.ensures.clean whole in
    let clean1 : HasCleanDisk s1 = omega (arith, clean2, c.in-Err-read_old.ensures.spares.later.clean) in
    let it = c.in-Ok.ensures.found clean1 in
    let same : found ≡ s1.committed.trees = c.give_up-in-Err-read_old.ensures.left whole now found recovered
    ∙ ap (λ (d : Database). d.trees) (c.in-Err-read_old.ensures.spares.kept clean2 (c.give_up-in-Err-read_old.ensures.opened whole now)) in
    (subst (AreFoundIn (image_at g.S.Start)) (sym same) it.reads, λ db held. same ∙ it.holds db held)

pub returns-in-Err-read_old-clause-refused : goal.returns-in-Err-read_old-clause-refused
returns-in-Err-read_old-clause-refused g c = λ is clean old.
    let s1 = file_state c.in-Ok.conn in
    let clean2 : HasCleanDisk (file_state c.read_old.new.conn) = c.give_up-in-Err-read_old.ensures.clean (no_doubt _ clean) in
    let clean1 : HasCleanDisk s1 = omega (arith, clean2, c.in-Err-read_old.ensures.spares.later.clean) in
    let opened = c.in-Ok.ensures.opened clean1 in
    let same = opened_same (image_at g.S.Start) s1 opened.0 opened.1 (c.in-Ok.ensures.found clean1) old.0 old.1 old.2 in
    c.in-Err-read_old.ensures.refused clean2 is old.3.0 (subst (λ (d : Database). HoldsOld d old.3.0) (sym same) old.3.1)

pub returns-in-Err-read_old-clause-blame : goal.returns-in-Err-read_old-clause-blame
returns-in-Err-read_old-clause-blame g c = λ storage clean.
    let s1 = file_state c.in-Ok.conn in
    let s2 = file_state c.read_old.new.conn in
    let clean2 : HasCleanDisk s2 = c.give_up-in-Err-read_old.ensures.clean (no_doubt _ clean) in
    inl (some_faults s1.faults s2.faults (faults c.give_up-in-Err-read_old.result) (c.in-Err-read_old.ensures.blame clean2 storage) c.in-Err-read_old.ensures.spares.later.faults c.give_up-in-Err-read_old.ensures.counts)

pub returns-in-Err-read_old-clause-other : goal.returns-in-Err-read_old-clause-other
returns-in-Err-read_old-clause-other g c = λ is clean.
    let s1 = file_state c.in-Ok.conn in
    let clean2 : HasCleanDisk (file_state c.read_old.new.conn) = c.give_up-in-Err-read_old.ensures.clean (no_doubt _ clean) in
    let clean1 : HasCleanDisk s1 = omega (arith, clean2, c.in-Err-read_old.ensures.spares.later.clean) in
    let opened = c.in-Ok.ensures.opened clean1 in
    let found = c.in-Ok.ensures.found clean1 in
    record {
      db = s1.committed;
      is = (opened.1 opened.0.is_open).1;
      reads = found.reads;
      only = found.holds;
      says = subst (SaysNeither _) opened.0.clean (c.in-Err-read_old.ensures.other clean2 (ap Err is));
    }

-- Files that could not be opened, and what was left of those whose database is refused.
use Rattle.std.proofs.Common.{◌≡◌, ◌↔◌, ◌⊎◌, inl, inr, ◌∙◌, refl, sym, ap, eq-eqb, subst, arith, ℕ, ◌+◌, ◌-◌, ◌^◌, ◌<◌, ◌≤◌, ◌==◌, min, Bool, true, false, List, [], length, Option, None, Some, IfSome, IsSomeAnd, IsTrue, if◌then◌else◌}
use Rattle.std.proofs.lemmas.Bool.{both_ways, cases_eq, cases_lt}
use Rattle.sqlite.specs.Effect.{Database, IsDatabase}
use Rattle.sqlite.specs.Files.{faults_left, file_state, image_of, tally_left, AreFoundIn, FailsToOpenFiles, HoldsDatabase, IsCleanLeft, IsFullLeft, IsNothing}
use Rattle.sqlite.specs.Opening.{FailsAs}
use Rattle.sqlite.specs.State.{State, store_error, IsLive, Opens}
use Rattle.sqlite.specs.Start.{FindsIn}
use Rattle.sqlite.proofs.ListingLemmas.{empty_is_sound}
use Rattle.sqlite_catalog.proofs.ReadLemmas.{lists_once}
use Rattle.sqlite.specs.declared.error.Error.{Error}
use Rattle.sqlite.specs.declared.error.Error.TheVariants.{SqliteFailure}
use Rattle.sqlite.specs.declared.error.ErrorCode.TheVariants.{CannotOpen, DatabaseBusy, DatabaseCorrupt, DiskFull, NotADatabase, OutOfMemory}
use Rattle.sqlite.specs.declared.file.Leftover.{Leftover}
use Rattle.sqlite.specs.declared.file.Leftover.TheVariants as left
use Rattle.sqlite_disk.specs.Disk.{MoreFaults}
use Rattle.sqlite_disk.specs.declared.Disk as disk
use Rattle.sqlite_disk.specs.declared.tally.Tally.{Tally}
use Rattle.sqlite_store.specs.Report.{named}
use Rattle.sqlite_trees.specs.Objects.{catalog_tree}
use Rattle.sqlite_trees.specs.Tree.{Trees}
use Rattle.sqlite_trees.specs.declared.error.StoreError.{StoreError}
use Rattle.sqlite_trees.specs.declared.error.StoreError.TheVariants as stored
use Rattle.sqlite_wal.specs.Reads.{tally_of_files}
use Rattle.sqlite_wal.specs.Recovery.{Image}
use Rattle.sql_tables.specs.Schema.{no_schema}
use Rattle.desk_file.specs.Desks.{IsDesks, IsDesksIn}
use Rattle.desk_file.specs.Faults.{files_fault_for, IsRefusal}
use Rattle.desk_file.specs.Left.{HasFailed, IsUnopened, LeavesIn}
use Rattle.desk_file.proofs.ReopenLemmas.{same_database}
use Rattle.desk_file.specs.declared.fault.OpenFault.TheVariants.{Storage}

-- ---- the fault that an error of opening comes to

named_by : (same more : Bool) → (if same then (if more then stored.Io else stored.Full) else stored.Corrupt) ≡ stored.Corrupt → same ≡ false
named_by true true is = absurd (let x = is in cc)
named_by true false is = absurd (let x = is in cc)
named_by false more is = refl

-- a failure of the store is damage only where a read failed its test
named_caught : (old new : Tally) → old.caught ≡ 0 → named old new ≡ stored.Corrupt → 0 < new.caught
named_caught old new none is =
    let other = named_by (new.caught == old.caught) (new.refused == old.refused) is in
    elim (cases_eq new.caught old.caught) [ inl same ↦ absurd (both_ways _ other (eq-eqb new.caught old.caught same)) | inr apart ↦ omega (arith, none, apart) ]

-- of the failures of a store damage alone refuses
failure_refuses : (kind : StoreError) (caught : Bool) → IsRefusal (files_fault_for caught (store_error kind)) → (kind ≡ stored.Corrupt) × (caught ≡ false)
failure_refuses stored.OutOfMemory true is = absurd is
failure_refuses stored.OutOfMemory false is = absurd is
failure_refuses stored.Io true is = absurd is
failure_refuses stored.Io false is = absurd is
failure_refuses stored.Corrupt true is = absurd is
failure_refuses stored.Corrupt false is = (refl, refl)
failure_refuses stored.Full true is = absurd is
failure_refuses stored.Full false is = absurd is
failure_refuses stored.Broken true is = absurd is
failure_refuses stored.Broken false is = absurd is
failure_refuses stored.Unstorable true is = absurd is
failure_refuses stored.Unstorable false is = absurd is

module _ (old new : Tally) (none : old.caught ≡ 0) (a b : ℕ) (Limit Wanted : Type 0) (caught : Bool) (is_caught : IsTrue caught ↔ (0 < new.caught)) where
  refused_for : (e : Error) → FailsAs (named old new) a b Limit Wanted e → IsRefusal (files_fault_for caught e) → ¬ Wanted
  refused_for e (inl memory) refusal = absurd (no_memory caught (subst (λ x. IsRefusal (files_fault_for caught x)) memory refusal))
    where
      no_memory : (caught : Bool) → IsRefusal (files_fault_for caught (SqliteFailure OutOfMemory)) → ⊥
      no_memory true is = is
      no_memory false is = is
  refused_for e (inr (inl refused)) refusal = refused.1
  refused_for e (inr (inr (inl fault))) refusal =
      let it = failure_refuses (named old new) caught (subst (λ x. IsRefusal (files_fault_for caught x)) fault.0 refusal) in
      absurd (both_ways _ it.1 (is_caught.1 (named_caught old new none it.0)))
  refused_for e (inr (inr (inr full))) refusal = absurd (no_room caught (subst (λ x. IsRefusal (files_fault_for caught x)) full.0 refusal))
    where
      no_room : (caught : Bool) → IsRefusal (files_fault_for caught (SqliteFailure DiskFull)) → ⊥
      no_room true is = is
      no_room false is = is

  blamed_for : (e : Error) → FailsAs (named old new) a b Limit Wanted e → files_fault_for caught e ≡ Storage → (0 < b) ⊎ ((0 < new.caught) ⊎ Limit)
  blamed_for e (inl memory) storage = absurd (no_memory caught (ap (files_fault_for caught) (sym memory) ∙ storage))
    where
      no_memory : (caught : Bool) → files_fault_for caught (SqliteFailure OutOfMemory) ≡ Storage → ⊥
      no_memory true is = let x = is in cc
      no_memory false is = let x = is in cc
  blamed_for e (inr (inl (inl foreign, never))) storage = absurd (no_database caught (ap (files_fault_for caught) (sym foreign) ∙ storage))
    where
      no_database : (caught : Bool) → files_fault_for caught (SqliteFailure NotADatabase) ≡ Storage → ⊥
      no_database true is = let x = is in cc
      no_database false is = let x = is in cc
  blamed_for e (inr (inl (inr damaged, never))) storage = inr (inl (is_caught.0 (met caught (ap (files_fault_for caught) (sym damaged) ∙ storage))))
    where
      met : (caught : Bool) → files_fault_for caught (SqliteFailure DatabaseCorrupt) ≡ Storage → IsTrue caught
      met true is = refl
      met false is = absurd (let x = is in cc)
  blamed_for e (inr (inr (inl fault))) storage = inl (omega (arith, fault.1))
  blamed_for e (inr (inr (inr full))) storage = inr (inr full.1)

-- ---- files that could not be opened

-- where it could not be seen what was left of them, they are not refused
unseen_refuses : (e : Error) → (e ≡ SqliteFailure CannotOpen) ⊎ ((e ≡ SqliteFailure OutOfMemory) ⊎ (e ≡ SqliteFailure DatabaseBusy)) → IsRefusal (files_fault_for false e) → ⊥
unseen_refuses e (inl is) refusal = subst (λ x. IsRefusal (files_fault_for false x)) is refusal
unseen_refuses e (inr (inl is)) refusal = subst (λ x. IsRefusal (files_fault_for false x)) is refusal
unseen_refuses e (inr (inr is)) refusal = subst (λ x. IsRefusal (files_fault_for false x)) is refusal

wanted_in : (image : Image) (limit : ℕ) → IsDesksIn limit image → ((db : Trees) × HoldsDatabase image db) ⊎ IsNothing image
wanted_in image limit (inl empty) = inr (inl (inl (ap length empty)))
wanted_in image limit (inr held) = inl (held.0.trees, held.2)

module _ {D : Type 0} (g : disk.Ghosts D) (image : Image) (error : Error) where
  -- what is refused holds nothing that would make it one with a database, or none
  pub unopened_refused_of : (Wanted : Type 0) → (Wanted → ((db : Trees) × HoldsDatabase image db) ⊎ IsNothing image) → (left : Option (Leftover D g)) (caught : Bool)
      → (left ≡ None → (error ≡ SqliteFailure CannotOpen) ⊎ ((error ≡ SqliteFailure OutOfMemory) ⊎ (error ≡ SqliteFailure DatabaseBusy)))
      → (left ≡ None → caught ≡ false) → IfSome left (λ rest. IsTrue caught ↔ (0 < (tally_left rest).caught)) → IfSome left (IsUnopened image error)
      → IsRefusal (files_fault_for caught error) → IsSomeAnd left (λ rest. IsCleanLeft rest → ¬ Wanted)
  unopened_refused_of Wanted held None caught unseen uncaught counted it refusal = absurd (unseen_refuses error (unseen refl) (subst (λ b. IsRefusal (files_fault_for b error)) (uncaught refl) refusal))
  unopened_refused_of Wanted held (Some rest) caught unseen uncaught counted it refusal = λ clean wanted.
      refused_for (tally_of_files g (it.files.log, it.files.db)) (tally_left rest) it.opened.uncaught _ _ _ _ caught counted error (it.ends clean).0 refusal
      (subst (λ i. ((db : Trees) × HoldsDatabase i db) ⊎ IsNothing i) (sym it.opened.holds) (held wanted))

  pub unopened_refused : (limit : ℕ) (left : Option (Leftover D g)) (caught : Bool) → (left ≡ None → (error ≡ SqliteFailure CannotOpen) ⊎ ((error ≡ SqliteFailure OutOfMemory) ⊎ (error ≡ SqliteFailure DatabaseBusy)))
      → (left ≡ None → caught ≡ false) → IfSome left (λ rest. IsTrue caught ↔ (0 < (tally_left rest).caught)) → IfSome left (IsUnopened image error)
      → IsRefusal (files_fault_for caught error) → IsSomeAnd left (λ rest. IsCleanLeft rest → ¬ IsDesksIn limit image)
  unopened_refused limit = unopened_refused_of (IsDesksIn limit image) (wanted_in image limit)

  pub unopened_blamed : (left : Option (Leftover D g)) (caught : Bool) → IfSome left (λ rest. IsTrue caught ↔ (0 < (tally_left rest).caught)) → IfSome left (IsUnopened image error)
      → files_fault_for caught error ≡ Storage → IfSome left (λ rest. IsCleanLeft rest → HasFailed rest)
  unopened_blamed None caught counted it storage = tt
  unopened_blamed (Some rest) caught counted it storage = λ clean.
      blamed_for (tally_of_files g (it.files.log, it.files.db)) (tally_left rest) it.opened.uncaught _ _ _ _ caught counted error (it.ends clean).0 storage

  -- what was not opened is left as the library leaves it
  left_of : (rest : Leftover D g) → IsUnopened image error rest → IsCleanLeft rest → LeavesIn image rest
  left_of (left.Files now) it clean = (it.files, it.opened, (it.ends clean).1)
  left_of (left.Unopened now) it clean = (it.files, it.opened, (it.ends clean).1)
  left_of (left.Store now) it clean = λ is_open found recovered.
      subst (λ i. AreFoundIn i found × ((db : Trees) → HoldsDatabase i db → found ≡ db)) it.opened.holds ((it.ends clean).1 found recovered)

  pub unopened_left : (left : Option (Leftover D g)) → IfSome left (IsUnopened image error) → IfSome left (λ rest. IsCleanLeft rest → LeavesIn image rest)
  unopened_left None it = tt
  unopened_left (Some rest) it = left_of rest it

-- ---- files that were opened, whose database is refused then

-- what is shown is the database that they hold
pub opened_same : (image : Image) (s : State) → Opens s → IsLive s → FindsIn image s → (db : Database) → IsDatabase db → HoldsDatabase image db.trees → s.now ≡ db
opened_same image s opens live found db is held = opens.clean ∙ same_database s.committed db (live opens.is_open).1 is (found.holds db.trees held)

pub opened_desks : (image : Image) (limit : ℕ) (s : State) → Opens s → IsLive s → FindsIn image s → IsDesksIn limit image → IsDesks limit s.now
opened_desks image limit s opens live found (inl empty) = inl (ap (λ (d : Database). d.schema) opens.clean ∙ bare)
  where
    bare : s.committed.schema ≡ no_schema
    bare = elim found.reads [
      | inl held ↦ absurd (omega (arith, held.3.found.present, ap length empty))
      | inr nothing ↦ lists_once (s.committed.trees catalog_tree) s.committed.schema no_schema (live opens.is_open).1.lists (empty_is_sound s.committed.trees nothing.1.1).lists
    ]
opened_desks image limit s opens live found (inr held) = subst (IsDesks limit) (sym (opened_same image s opens live found held.0 held.1 held.2)) held.3

pub some_faults : (before after last : ℕ) → (before + 1 < 2 ^ 64 → before < after) → before ≤ after → after ≤ last → 0 < last
some_faults before after last more first second = elim (cases_lt (before + 1) (2 ^ 64)) [ inl few ↦ omega (arith, more few, second) | inr many ↦ omega (arith, many, first, second) ]

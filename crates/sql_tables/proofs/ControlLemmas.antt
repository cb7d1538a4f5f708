-- What the texts do that begin and end a transaction.
use Rattle.std.proofs.Common.{◌≡◌, inl, inr, ℕ, ◌+◌, List, [], ◌∷◌, ◌++◌, length, map, codes, take, slice_index_or, slice_get, not, true, false, Some, Ok, Err, Result, Vec, OnOk, IfErr, IsTrue, None, pos, negsuc, refl, subst, sym, ap, ◌∙◌, arith}
use Rattle.sqlite.specs.declared.error.Error.{Error}
use Rattle.std.proofs.lemmas.Bool.{both_ways}
use Rattle.std.specs.declared.alloc.Global.{Global}
use Rattle.sqlite_trees.specs.Sound.{same_name}
use Rattle.sqlite.specs.Order.{Row}
use Rattle.sqlite.specs.Term.{lit}
use Rattle.sqlite.specs.Query.{Query, end}
use Rattle.sqlite.specs.declared.types.Value.TheVariants.{Int}
use Rattle.sqlite.specs.Effect.{Database}
use Rattle.sqlite.specs.Command.TheVariants.{Select, Begin, Commit, Rollback, Savepoint as Savepoint', Release, RollbackTo}
use Rattle.sqlite.specs.Listing.{understood}
use Rattle.sqlite.specs.State.{State, Savepoint, Executes, FailsToQuery, IsMisplaced, IsNewestNamed, IsUnnamed, names_in, begins_at, ReleasesAt, GoesBackTo}
use Rattle.sqlite_tied.specs.Compute.{everything}
use Rattle.sqlite.proofs.Callers.{command_of, runs_as}
use Rattle.sql_tables.specs.Schema.{desk_schema}
use Rattle.sql_tables.specs.Ends.{ForCause, IsUndone}
use Rattle.sql_tables.proofs.BlameLemmas.{IsWhole, control_caused, query_caused}
use Rattle.sql_tables.specs.Statements.{IsQuery}
use Rattle.sql_tables.specs.Control.{begin_text, commit_text, roll_back_text, probe_text, save_text, release_text, go_back_text, mark_at, Begins, Commits, Saves, Releases, GoesBack}
use Rattle.sql_tables.proofs.EndLemmas.{undone_from}

begin_is : command_of (understood desk_schema begin_text) ≡ Begin
unfolding understood everything
begin_is = refl

begin_whole : IsWhole begin_text 0
unfolding understood everything
begin_whole = record { plain = (refl, refl); whole = refl; width_is = refl }

commit_is : command_of (understood desk_schema commit_text) ≡ Commit
unfolding understood everything
commit_is = refl

commit_whole : IsWhole commit_text 0
unfolding understood everything
commit_whole = record { plain = (refl, refl); whole = refl; width_is = refl }

roll_back_is : command_of (understood desk_schema roll_back_text) ≡ Rollback
unfolding understood everything
roll_back_is = refl

roll_back_whole : IsWhole roll_back_text 0
unfolding understood everything
roll_back_whole = record { plain = (refl, refl); whole = refl; width_is = refl }

abbrev shows_one : Query
shows_one = record {
  from = end;
  filter = [];
  group = None;
  project = lit (Int (pos 1)) ∷ [];
  distinct = false;
  collations = [];
  order = [];
  limit = lit (Int (negsuc 0));
  offset = lit (Int (pos 0));
}

probe_is : command_of (understood desk_schema probe_text) ≡ Select (record { lets = []; body = shows_one }) (codes "1" ∷ [])
unfolding understood everything
probe_is = refl

probe_whole : IsWhole probe_text 0
unfolding understood everything
probe_whole = record { plain = (refl, refl); whole = refl; width_is = refl }

pub probes : IsQuery probe_text
unfolding understood everything
probes = record { selects = refl; plain = (refl, refl); unlisted = refl }

save_is : command_of (understood desk_schema save_text) ≡ Savepoint' (codes "pair")
unfolding understood everything
save_is = refl

save_whole : IsWhole save_text 0
unfolding understood everything
save_whole = record { plain = (refl, refl); whole = refl; width_is = refl }

release_is : command_of (understood desk_schema release_text) ≡ Release (codes "pair")
unfolding understood everything
release_is = refl

release_whole : IsWhole release_text 0
unfolding understood everything
release_whole = record { plain = (refl, refl); whole = refl; width_is = refl }

go_back_is : command_of (understood desk_schema go_back_text) ≡ RollbackTo (codes "pair")
unfolding understood everything
go_back_is = refl

go_back_whole : IsWhole go_back_text 0
unfolding understood everything
go_back_whole = record { plain = (refl, refl); whole = refl; width_is = refl }

-- the one savepoint is the newest of its name
at_zero : (s : State) (db : Database) (name : List ℕ) (at : ℕ) → s.marks ≡ mark_at db ∷ [] → IsNewestNamed (names_in s) name at → at ≡ 0
at_zero s db name at one newest = let few : length (names_in s) ≡ 1 = ap (λ (marks : List Savepoint). length (map (λ (p : Savepoint). p.name) marks)) one in omega (arith, newest.within)

dropped : (old new : State) (db : Database) → old.marks ≡ mark_at db ∷ [] → (at : ℕ) → IsNewestNamed (names_in old) (codes "pair") at → ReleasesAt old new at → Releases old new
dropped old new db one at newest (inl commits) =
    let zero_at = at_zero old db (codes "pair") at one newest in
    let never : begins_at old at ≡ false = ap (begins_at old) zero_at ∙ ap (λ (marks : List Savepoint). slice_index_or (map (λ (p : Savepoint). p.begins) marks) 0 false) one in
    absurd (both_ways _ never commits.0)
dropped old new db one at newest (inr drops) =
    let zero_at = at_zero old db (codes "pair") at one newest in
    record {
      is_open = drops.1.0.is_open;
      now = drops.1.0.now_is;
      committed = drops.1.0.committed_is;
      mode = drops.1.0.mode;
      marks = drops.1.2 ∙ ap (λ n. take n old.marks) zero_at;
    }

went_to : (old new : State) (db : Database) → old.marks ≡ mark_at db ∷ [] → (at : ℕ) → IsNewestNamed (names_in old) (codes "pair") at → GoesBackTo old new at → GoesBack old new db
went_to old new db one at newest back =
    let zero_at = at_zero old db (codes "pair") at one newest in
    let found : Some (mark_at db) ≡ Some back.0 = sym (ap (λ n. slice_get old.marks n) zero_at ∙ ap (λ (marks : List Savepoint). slice_get marks 0) one) ∙ back.1 in
    let same : mark_at db ≡ back.0 = cc in
    let its : back.0.db ≡ db = sym (ap (λ (p : Savepoint). p.db) same) in
    record {
      is_open = back.2.is_open;
      now = back.2.now_is ∙ its;
      committed = back.2.committed_is;
      mode = back.2.mode;
      marks = back.4 ∙ ap (λ n. take (n + 1) old.marks) zero_at ∙ ap (λ (marks : List Savepoint). take 1 marks) one;
    }

same_release : (a b : List ℕ) → Release a ≡ Release b → a ≡ b
same_release a b e = cc

same_back : (a b : List ℕ) → RollbackTo a ≡ RollbackTo b → a ≡ b
same_back a b e = cc

module _ (old new : State) (has : old.now.schema ≡ desk_schema) where
  pub begun : (r : Result ℕ Error) → Executes begin_text [] old new r → OnOk r (Begins old new)
  begun (Ok count) h =
      let r = runs_as begin_text [] old new desk_schema has Begin begin_is begin_whole.plain count h in
      record { is_open = r.1.is_open; now = r.1.now_is; committed = r.1.committed_is; mode = r.1.mode; marks = r.4 }
  begun (Err e) h = tt

  pub committed : (r : Result ℕ Error) → Executes commit_text [] old new r → OnOk r (Commits old new)
  committed (Ok count) h =
      let r = runs_as commit_text [] old new desk_schema has Commit commit_is commit_whole.plain count h in
      record { is_open = r.1.is_open; now = r.1.now_is; committed = r.1.committed_is; mode = r.1.mode; marks = r.4 }
  committed (Err e) h = tt

  pub rolled_back : (r : Result ℕ Error) → Executes roll_back_text [] old new r → OnOk r (IsUndone old new)
  rolled_back (Ok count) h = undone_from old new (runs_as roll_back_text [] old new desk_schema has Rollback roll_back_is roll_back_whole.plain count h).1
  rolled_back (Err e) h = tt

  pub saved : old.in_transaction ≡ true → old.marks ≡ [] → (r : Result ℕ Error) → Executes save_text [] old new r → OnOk r (Saves old new)
  saved inside none (Ok count) h =
      let r = runs_as save_text [] old new desk_schema has (Savepoint' (codes "pair")) save_is save_whole.plain count h in
      record {
        is_open = r.0.0.is_open;
        now = r.0.0.now_is;
        committed = r.0.0.committed_is;
        mode = r.0.0.mode;
        marks = r.0.2 ∙ ap (λ (marks : List Savepoint). marks ++ record { name = codes "pair"; begins = not old.in_transaction; db = old.now } ∷ []) none
            ∙ ap (λ b. record { name = codes "pair"; begins = not b; db = old.now } ∷ []) inside;
      }
  saved inside none (Err e) h = tt

  pub released : (db : Database) → old.marks ≡ mark_at db ∷ [] → (r : Result ℕ Error) → Executes release_text [] old new r → OnOk r (Releases old new)
  released db one (Ok count) h =
      let r = runs_as release_text [] old new desk_schema has (Release (codes "pair")) release_is release_whole.plain count h in
      dropped old new db one r.0 r.1 r.2
  released db one (Err e) h = tt

  pub gone_back : (db : Database) → old.marks ≡ mark_at db ∷ [] → (r : Result ℕ Error) → Executes go_back_text [] old new r → OnOk r (GoesBack old new db)
  gone_back db one (Ok count) h =
      let r = runs_as go_back_text [] old new desk_schema has (RollbackTo (codes "pair")) go_back_is go_back_whole.plain count h in
      went_to old new db one r.0 r.1 r.2
  gone_back db one (Err e) h = tt

  -- ---- why each fails

  module _ (open' : IsTrue old.is_open) where
    begin_placed : old.in_transaction ≡ false → (e : Error) → ¬ IsMisplaced old Begin e
    begin_placed outside e (inl (error, inl within)) = both_ways _ outside within.1
    begin_placed outside e (inl (error, inr (inl commits, out))) = absurd (let x = commits in cc)
    begin_placed outside e (inl (error, inr (inr rolls, out))) = absurd (let x = rolls in cc)
    begin_placed outside e (inr (error, name, inl releases, unnamed)) = absurd (let x = releases in cc)
    begin_placed outside e (inr (error, name, inr back, unnamed)) = absurd (let x = back in cc)

    pub begin_caused : old.in_transaction ≡ false → (r : Result ℕ Error) → Executes begin_text [] old new r → IfErr r (ForCause old new)
    begin_caused outside r h = control_caused old new has open' begin_text [] begin_whole Begin refl (λ none. none) begin_is (begin_placed outside) r h

    commit_placed : IsTrue old.in_transaction → (e : Error) → ¬ IsMisplaced old Commit e
    commit_placed inside e (inl (error, inl begins)) = absurd (let x = begins.0 in cc)
    commit_placed inside e (inl (error, inr (which, out))) = both_ways _ out inside
    commit_placed inside e (inr (error, name, inl releases, unnamed)) = absurd (let x = releases in cc)
    commit_placed inside e (inr (error, name, inr back, unnamed)) = absurd (let x = back in cc)

    pub commit_caused : IsTrue old.in_transaction → (r : Result ℕ Error) → Executes commit_text [] old new r → IfErr r (ForCause old new)
    commit_caused inside r h = control_caused old new has open' commit_text [] commit_whole Commit refl (λ none. none) commit_is (commit_placed inside) r h

    roll_back_placed : IsTrue old.in_transaction → (e : Error) → ¬ IsMisplaced old Rollback e
    roll_back_placed inside e (inl (error, inl begins)) = absurd (let x = begins.0 in cc)
    roll_back_placed inside e (inl (error, inr (which, out))) = both_ways _ out inside
    roll_back_placed inside e (inr (error, name, inl releases, unnamed)) = absurd (let x = releases in cc)
    roll_back_placed inside e (inr (error, name, inr back, unnamed)) = absurd (let x = back in cc)

    pub roll_back_caused : IsTrue old.in_transaction → (r : Result ℕ Error) → Executes roll_back_text [] old new r → IfErr r (ForCause old new)
    roll_back_caused inside r h = control_caused old new has open' roll_back_text [] roll_back_whole Rollback refl (λ none. none) roll_back_is (roll_back_placed inside) r h

    save_placed : (e : Error) → ¬ IsMisplaced old (Savepoint' (codes "pair")) e
    save_placed e (inl (error, inl begins)) = absurd (let x = begins.0 in cc)
    save_placed e (inl (error, inr (inl commits, out))) = absurd (let x = commits in cc)
    save_placed e (inl (error, inr (inr rolls, out))) = absurd (let x = rolls in cc)
    save_placed e (inr (error, name, inl releases, unnamed)) = absurd (let x = releases in cc)
    save_placed e (inr (error, name, inr back, unnamed)) = absurd (let x = back in cc)

    pub save_caused : (r : Result ℕ Error) → Executes save_text [] old new r → IfErr r (ForCause old new)
    save_caused r h = control_caused old new has open' save_text [] save_whole (Savepoint' (codes "pair")) refl (λ none. none) save_is save_placed r h

    module _ (db : Database) (one : old.marks ≡ mark_at db ∷ []) where
      named : ¬ IsUnnamed (names_in old) (codes "pair")
      unfolding same_name
      named unnamed =
          let first : IsUnnamed (codes "pair" ∷ []) (codes "pair") = subst (λ (marks : List Savepoint). IsUnnamed (map (λ (p : Savepoint). p.name) marks) (codes "pair")) one unnamed in
          let apart : same_name (codes "pair") (codes "pair") ≡ false = first 0 (omega arith) in
          cc

      release_placed : (e : Error) → ¬ IsMisplaced old (Release (codes "pair")) e
      release_placed e (inl (error, inl begins)) = absurd (let x = begins.0 in cc)
      release_placed e (inl (error, inr (inl commits, out))) = absurd (let x = commits in cc)
      release_placed e (inl (error, inr (inr rolls, out))) = absurd (let x = rolls in cc)
      release_placed e (inr (error, name, inl releases, unnamed)) = named (subst (IsUnnamed (names_in old)) (sym (same_release _ _ releases)) unnamed)
      release_placed e (inr (error, name, inr back, unnamed)) = absurd (let x = back in cc)

      pub release_caused : (r : Result ℕ Error) → Executes release_text [] old new r → IfErr r (ForCause old new)
      release_caused r h = control_caused old new has open' release_text [] release_whole (Release (codes "pair")) refl (λ none. none) release_is release_placed r h

      go_back_placed : (e : Error) → ¬ IsMisplaced old (RollbackTo (codes "pair")) e
      go_back_placed e (inl (error, inl begins)) = absurd (let x = begins.0 in cc)
      go_back_placed e (inl (error, inr (inl commits, out))) = absurd (let x = commits in cc)
      go_back_placed e (inl (error, inr (inr rolls, out))) = absurd (let x = rolls in cc)
      go_back_placed e (inr (error, name, inl releases, unnamed)) = absurd (let x = releases in cc)
      go_back_placed e (inr (error, name, inr back, unnamed)) = named (subst (IsUnnamed (names_in old)) (sym (same_back _ _ back)) unnamed)

      pub go_back_caused : (r : Result ℕ Error) → Executes go_back_text [] old new r → IfErr r (ForCause old new)
      go_back_caused r h = control_caused old new has open' go_back_text [] go_back_whole (RollbackTo (codes "pair")) refl (λ none. none) go_back_is go_back_placed r h

    pub probe_caused : (r : Result (Vec Row Global) Error) → IfErr r (FailsToQuery probe_text [] old new) → IfErr r (ForCause old new)
    probe_caused r h = query_caused old new has open' probe_text [] probe_whole _ _ probe_is probes.unlisted refl refl refl r h

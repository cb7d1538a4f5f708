-- Why a statement on the standings fails.
use Rattle.std.proofs.Common.{◌≡◌, ◌≢◌, inl, inr, ℕ, ◌==◌, ◌≤◌, ℤ, pos, List, [], ◌∷◌, length, true, false, cond, not, ◌&&◌, Ok, Err, Result, IfErr, IsOk, IsTrue, Vec, refl, sym, ap, subst, ◌∙◌}
use Rattle.std.specs.List.{AllByRecursion, list_any}
use Rattle.std.specs.Ordering.{is_eq}
use Rattle.std.specs.declared.alloc.Global.{Global}
use Rattle.std.proofs.lemmas.Bool.{cases_Bool}
use Rattle.sqlite.specs.Order.{Row, value_cmp}
use Rattle.sqlite.specs.declared.types.Value.TheVariants.{Int}
use Rattle.sqlite.specs.declared.error.Error.{Error}
use Rattle.sqlite.specs.Command.TheVariants.{Update}
use Rattle.sqlite.specs.Edit.{edit_of, without_all}
use Rattle.sqlite.specs.Effect.{IsDatabase}
use Rattle.sqlite.specs.Listing.{understood}
use Rattle.sqlite.specs.Rowids.TheVariants.{Given}
use Rattle.sqlite_rules.specs.Calls.{ids_of}
use Rattle.sqlite.specs.State.{State, Executes, FailsToQuery}
use Rattle.sqlite.specs.Term.{Term}
use Rattle.sqlite.specs.Tree.{Trees, put_row, rowid}
use Rattle.sqlite.proofs.Callers.{command_of}
use Rattle.sqlite_schema.specs.Rules.{Keeps}
use Rattle.sqlite_schema.specs.declared.schema.Constraint.TheVariants.{Unique}
use Rattle.sqlite_typing.specs.Types.{accepts_program}
use Rattle.desk_rules.specs.declared.history.standing.State.TheVariants.{NoInstruction}
use Rattle.desk_rules.specs.declared.history.standing.Standing.{Standing}
use Rattle.sql_tables.specs.Schema.{desk_schema, state_table}
use Rattle.sql_tables.specs.Ends.{ForCause}
use Rattle.sql_tables.specs.Queries.{plain}
use Rattle.sql_tables.proofs.BlameLemmas.{IsAllowed, IsWhole, insert_caused, query_caused, update_caused}
use Rattle.sql_tables.proofs.UniqueLemmas.{unique_state}
use Rattle.sql_tables.proofs.ValueLemmas.{number_same}
use Rattle.sql_rows.specs.Standings.{columns_of, standing_among, standing_in, standing_row, standing_written, state_written, written_in, AreReadable, AreStandings, IsStandingRow, Written}
use Rattle.sql_rows.proofs.StandingMeanings.{by_number, read_text, reads, read_is, read_whole, read_typed, add_text, add_terms, add_is, add_whole, stand_text, stand_is, stand_whole, stand_typed, state_text, state_is, state_whole, state_typed, ask_text, ask_is, ask_whole, ask_typed, next_text, finds_next, next_is, next_whole, next_typed}
use Rattle.sql_rows.proofs.CauseLemmas.{left_free, none_allowed, unique_before}
use Rattle.sql_rows.proofs.StandingLemmas.{cast_standing, finds, fresh_news, fresh_written, is_at, own_number, own_rowid, said_at, Changes, Finds}
use Rattle.sql_rows.proofs.StandingCalls.{asks_so, moves_so, stands_so}

-- a number that stands nowhere is no row's
free_number : (n : ℕ) (rows : List Row) → AllByRecursion IsStandingRow rows → (standing_among rows n).state ≡ NoInstruction → list_any (λ r. is_eq (value_cmp (rowid r) (Int (pos n)))) rows ≡ false
free_number n [] formed none = refl
free_number n (r ∷ rs) formed none =
    let it = formed.0 in
    let said = standing_written (written_in r) in
    elim (cases_Bool (is_at n r)) [
      | inl here ↦ absurd (it.instruction (ap (λ (s : Standing). s.state) (sym (said_at r it)) ∙ sym (ap (λ b. (cond b said (standing_among rs n)).state) here) ∙ none))
      | inr apart ↦ (let other : is_eq (value_cmp (rowid r) (Int (pos n))) ≡ false = ap (λ v. is_eq (value_cmp v (Int (pos n)))) (own_rowid r it) ∙ number_same it.number n ∙ ap (λ k. k == n) (sym (own_number r it)) ∙ apart in
          rw (other, free_number n rs formed.1 (sym (ap (λ b. (cond b said (standing_among rs n)).state) apart) ∙ none)) refl)
    ]

-- one row is put in, at a number that is free
one_allowed : (db : Trees) → Keeps Unique desk_schema db → (gone : List ℤ) (news : List Row) (n : ℕ) (w : Written) → news ≡ standing_row n w ∷ [] → list_any (λ r. is_eq (value_cmp (rowid r) (Int (pos n)))) (without_all (db 8) gone) ≡ false
    → IsAllowed db (record { table = state_table; gone = gone; news = news })
one_allowed db kept gone news n w is free = subst (λ news. IsAllowed db (record { table = state_table; gone = gone; news = news })) (sym is) (record {
  rowids = refl;
  typed = refl;
  present = refl;
  checked = refl;
  fresh = ap (λ b. not b && true) free;
  unique = unique_state db (put_row (standing_row n w) (without_all (db 8) gone)) kept;
})

-- what the query shows is read without an error
pub reads_shown : {E : Type 0} (rows : List Row) (r : Result Standing E) → (rows ≡ [] → IsOk r) → ((w : Written) → rows ≡ columns_of w ∷ [] → state_written w.state w.reason ≢ NoInstruction → w.asked ≤ 1 → IsOk r) → AreReadable rows → IsOk r
reads_shown rows r none one (inl empty) = none empty
reads_shown rows r none one (inr (w, is, instruction, request)) = one w is instruction request

-- ---- each statement

module _ (old new : State) (has : old.now.schema ≡ desk_schema) (open' : IsTrue old.is_open) where
  pub look_caused : (n : ℕ) (r : Result (Vec Row Global) Error) → IfErr r (FailsToQuery read_text (Int (pos n) ∷ []) old new) → IfErr r (ForCause old new)
  look_caused n r h = query_caused old new has open' read_text (Int (pos n) ∷ []) read_whole _ _ read_is reads.unlisted (read_typed n) refl refl r h

  pub next_caused : (after : ℕ) (r : Result (Vec Row Global) Error) → IfErr r (FailsToQuery next_text (Int (pos after) ∷ []) old new) → IfErr r (ForCause old new)
  next_caused after r h = query_caused old new has open' next_text (Int (pos after) ∷ []) next_whole _ _ next_is finds_next.unlisted (next_typed after) refl refl r h

  module _ (obeyed : IsDatabase old.now) (were : AreStandings old.now) (n : ℕ) where
    abbrev db : Trees
    db = old.now.trees

    kept : Keeps Unique desk_schema db
    kept = unique_before old.now obeyed has

    pub add_caused : (standing_in old.now n).state ≡ NoInstruction → (r : Result ℕ Error) → Executes add_text (Int (pos n) ∷ []) old new r → IfErr r (ForCause old new)
    add_caused none (Ok count) h = tt
    add_caused none (Err e) h = λ unlimited.
        insert_caused old new has open' unlimited add_text (Int (pos n) ∷ []) add_whole 4 state_table refl refl add_terms 6 refl add_is refl
        (λ rows is. one_allowed db kept [] _ n fresh_written (fresh_news db n rows is) (free_number n (db 8) were.formed none)) e h

    -- an UPDATE of the row that was found
    change_caused : (text : List ℕ) (shown : List Term) (more : Row) (change : Written → Written) → IsWhole text (length (Int (pos n) ∷ more)) → command_of (understood desk_schema text) ≡ Update 4 (record { lets = []; body = plain 8 (by_number ∷ []) shown })
        → accepts_program desk_schema [] (plain 8 (by_number ∷ []) shown) (Int (pos n) ∷ more) ≡ true → Changes shown (Int (pos n) ∷ more) change → (r : Result ℕ Error) → Executes text (Int (pos n) ∷ more) old new r → IfErr r (ForCause old new)
    change_caused text shown more change whole' is typed changes (Ok count) h = tt
    change_caused text shown more change whole' is typed changes (Err e) h = λ unlimited.
        update_caused old new has open' unlimited text (Int (pos n) ∷ more) whole' 4 state_table refl refl (plain 8 (by_number ∷ []) shown) is typed refl refl
        (λ found answer. allowed found (finds old.now shown n more change were changes found answer)) e h
      where
        allowed : (found : List Row) → Finds (db 8) n change found → IsAllowed db (edit_of db state_table (ids_of found) Given 1 found)
        allowed found (inl none) = subst (λ rows. IsAllowed db (edit_of db state_table (ids_of rows) Given 1 rows)) (sym none.0) (none_allowed db state_table [] (unique_state db (db 8) kept))
        allowed found (inr (r, it, same, said, one)) = subst (λ rows. IsAllowed db (edit_of db state_table (ids_of rows) Given 1 rows)) (sym one)
            (one_allowed db kept (pos n ∷ []) _ n (change it.written) (ap (λ x. x ∷ []) (cast_standing n (change it.written))) (left_free (pos n) (db 8)))

    pub stand_caused : (code reason : ℕ) → state_written code reason ≢ NoInstruction → (mate : ℕ) (r : Result ℕ Error) → Executes stand_text (Int (pos n) ∷ Int (pos mate) ∷ Int (pos code) ∷ Int (pos reason) ∷ []) old new r → IfErr r (ForCause old new)
    stand_caused code reason instruction mate r h =
        change_caused stand_text _ (Int (pos mate) ∷ Int (pos code) ∷ Int (pos reason) ∷ []) _ stand_whole stand_is (stand_typed n mate code reason) (stands_so n code reason instruction mate) r h

    pub move_caused : (code reason : ℕ) → state_written code reason ≢ NoInstruction → (r : Result ℕ Error) → Executes state_text (Int (pos n) ∷ Int (pos code) ∷ Int (pos reason) ∷ []) old new r → IfErr r (ForCause old new)
    move_caused code reason instruction r h = change_caused state_text _ (Int (pos code) ∷ Int (pos reason) ∷ []) _ state_whole state_is (state_typed n code reason) (moves_so n code reason instruction) r h

    pub ask_caused : (r : Result ℕ Error) → Executes ask_text (Int (pos n) ∷ []) old new r → IfErr r (ForCause old new)
    ask_caused r h = change_caused ask_text _ [] _ ask_whole ask_is (ask_typed n) (asks_so n) r h

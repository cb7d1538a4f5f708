-- The next matched instruction.
use Rattle.std.proofs.Common.{◌≡◌, ◌≢◌, inl, inr, ℕ, ◌<◌, ◌==◌, nat_lt, pos, List, [], ◌∷◌, filter, Bool, false, ◌&&◌, None, Some, refl, sym, ap, subst, ◌∙◌, arith}
use Rattle.std.specs.Ordering.{is_lt, is_gt}
use Rattle.std.proofs.lemmas.Bool.{and_parts, and_from, eqb-true, eq-eqb, ltb-true, ltb-false, lt-ltb, le-ltb}
use Rattle.sqlite.specs.Order.{Row, value_cmp}
use Rattle.sqlite.specs.declared.types.Value.TheVariants.{Null, Int}
use Rattle.sqlite.specs.Term.{col}
use Rattle.sqlite.specs.Ops.{binary, is_true, from_truth}
use Rattle.sqlite.specs.Program.{overlay}
use Rattle.sqlite.specs.Tree.{rowid}
use Rattle.sqlite.specs.Effect.{Database}
use Rattle.sqlite.specs.State.{State, Shown}
use Rattle.sqlite.proofs.Callers.{reads_as}
use Rattle.desk_msg.specs.declared.writing.status.Reason.{Reason}
use Rattle.desk_rules.specs.declared.history.standing.State.{State as Stand}
use Rattle.desk_rules.specs.declared.history.standing.State.TheVariants.{NoInstruction, Unmatched, Matched, Cancelled, Settled}
use Rattle.desk_rules.specs.declared.history.standing.Standing.{Standing}
use Rattle.sql_tables.specs.Schema.{desk_schema}
use Rattle.sql_tables.specs.Queries.{passes_all, rising, Among, IsFirst}
use Rattle.sql_tables.proofs.QueryLemmas.{among_filter, at_among, filter_among, first_row, none_among, same_found}
use Rattle.sql_tables.proofs.ValueLemmas.{three_ways, number_less, number_equal, number_greater, number_below, equal_test, truth_of, and_true}
use Rattle.sql_rows.specs.Standings.{number_of_row, state_code, state_written, written_in, AreStandings, IsMatchedAbove, IsNextShown, IsStandingRow}
use Rattle.sql_rows.proofs.StandingMeanings.{finds_next, next_is, next_tests, next_text}
use Rattle.sql_rows.proofs.StandingLemmas.{codes_back, own_number, own_rowid, row_of, row_says}

-- ---- which rows pass

-- a row of a matched instruction, with a greater number
abbrev is_next : ℕ → Row → Bool
is_next after row = ((written_in row).state == 2) && nat_lt after (number_of_row row)

number_above : (m n : ℕ) → is_gt (value_cmp (Int (pos m)) (Int (pos n))) ≡ nat_lt n m
number_above m n = elim (three_ways m n) [
  | inl low ↦ ap is_gt (number_less m n low) ∙ sym (le-ltb n m (omega (arith, low)))
  | inr (inl same) ↦ subst (λ k. is_gt (value_cmp (Int (pos m)) (Int (pos k))) ≡ nat_lt k m) same (ap is_gt (number_equal m) ∙ sym (le-ltb m m (omega arith)))
  | inr (inr high) ↦ ap is_gt (number_greater m n high) ∙ sym (lt-ltb n m high)
]

greater_test : (m n : ℕ) → is_true (from_truth (Some (is_gt (value_cmp (Int (pos m)) (Int (pos n)))))) ≡ nat_lt n m
greater_test m n = truth_of (is_gt (value_cmp (Int (pos m)) (Int (pos n)))) ∙ number_above m n

next_test : (after : ℕ) (row : Row) → IsStandingRow row → passes_all next_tests (Int (pos after) ∷ []) row ≡ is_next after row
unfolding binary
next_test after row it =
    subst (λ r. passes_all next_tests (Int (pos after) ∷ []) r ≡ is_next after r) (sym it.is)
    (rw (equal_test it.written.state 2, greater_test it.number after) (ap (λ b. (it.written.state == 2) && b) (and_true (nat_lt after it.number))))

-- ---- whose rows they are

matched_by : (s : Stand) → state_code s ≡ 2 → (reason : Reason) × (s ≡ Matched reason)
matched_by NoInstruction h = absurd (omega (arith, h))
matched_by Unmatched h = absurd (omega (arith, h))
matched_by (Matched reason) h = (reason, refl)
matched_by Cancelled h = absurd (omega (arith, h))
matched_by Settled h = absurd (omega (arith, h))

some_state : (s : Stand) (reason : Reason) → s ≡ Matched reason → s ≢ NoInstruction
some_state s reason is none = absurd (let e : Matched reason ≡ NoInstruction = sym is ∙ none in cc)

module _ (db : Database) (were : AreStandings db) (after : ℕ) where
  abbrev held : List Row
  held = db.trees 8

  abbrev mine : List Row
  mine = filter (is_next after) held

  code_of : (r : Row) (it : IsStandingRow r) → state_code (state_written it.written.state it.written.reason) ≡ (written_in r).state
  code_of r it = (codes_back it.written.state it.written.reason it.instruction).0 ∙ ap (λ (row : Row). (written_in row).state) (sym it.is)

  -- a row that passes is that of a matched instruction above
  matched_in : (r : Row) → Among mine r → (it : IsStandingRow r) × IsMatchedAbove db after it.number
  matched_in r here =
      let at = among_filter (is_next after) held r here in
      let it = at_among IsStandingRow held were.formed r at.0 in
      let tests = and_parts ((written_in r).state == 2) (nat_lt after (number_of_row r)) at.1 in
      let so = matched_by (state_written it.written.state it.written.reason) (code_of r it ∙ eqb-true (written_in r).state 2 tests.0) in (
        it,
        record {
          reason = so.0;
          matched = ap (λ (s : Standing). s.state) (row_says held were.rising were.formed r at.0 it) ∙ so.1;
          above = subst (λ k. after < k) (own_number r it) (ltb-true after (number_of_row r) tests.1);
        },
      )

  -- such an instruction has a row that passes
  matched_row : (n : ℕ) → IsMatchedAbove db after n → (r : Row) × Among mine r × (rowid r ≡ Int (pos n))
  matched_row n at =
      let found = row_of n held were.rising were.formed (some_state _ at.reason at.matched) in
      let r = found.0 in
      let it = found.1 in
      let state : state_written it.written.state it.written.reason ≡ Matched at.reason = sym (ap (λ (s : Standing). s.state) found.4) ∙ at.matched in
      let code : (written_in r).state ≡ 2 = sym (code_of r it) ∙ ap state_code state in
      let own : number_of_row r ≡ n = own_number r it ∙ found.3 in
      let passes = and_from ((written_in r).state == 2) (nat_lt after (number_of_row r)) (eq-eqb (written_in r).state 2 code) (lt-ltb after (number_of_row r) (subst (λ k. after < k) (sym own) at.above)) in
      (r, filter_among (is_next after) held r found.2 passes, own_rowid r it ∙ ap (λ k. Int (pos k)) found.3)

-- ---- the query

pub shows_next : (old new : State) (after : ℕ) (rows : List Row) → old.now.schema ≡ desk_schema → AreStandings old.now → Shown next_text (Int (pos after) ∷ []) old new rows → IsNextShown old.now after rows
shows_next old new after rows has were h =
    let params : Row = Int (pos after) ∷ [] in
    let held = old.now.trees 8 in
    let shown = col 1 0 ∷ [] in
    let answers = reads_as next_text params old new desk_schema has _ next_is finds_next.plain finds_next.unlisted rows h in
    let first : IsFirst (filter (is_next after) held) params shown (col 1 0) rising rows =
    subst (λ mine. IsFirst mine params shown (col 1 0) rising rows) (same_found IsStandingRow (passes_all next_tests params) (is_next after) held (next_test after) were.formed)
    (first_row 8 next_tests shown (col 1 0) rising (overlay old.now.trees []) params rows (answers.answer Null)) in
    elim first [
      | inl none ↦ record {
        found = None;
        shown = none.0;
        next = λ n at. (let r = matched_row old.now were after n at in none_among (filter (is_next after) held) r.0 none.1 r.1);
        small = tt;
      }
      | inr one ↦ (let is = matched_in old.now were after one.0 one.1 in
          let n = is.0.number in
          record {
            found = Some n;
            shown = one.2 ∙ ap (λ (r : Row). (rowid r ∷ []) ∷ []) is.0.is;
            next = (
              is.1,
              λ m at. (let r = matched_row old.now were after m at in
                  let least : nat_lt m n ≡ false = sym (number_below m n) ∙ ap (λ v. is_lt (value_cmp v (Int (pos n)))) (sym r.2) ∙ ap (λ v. is_lt (value_cmp (rowid r.0) v)) (sym (own_rowid one.0 is.0)) ∙ one.3 r.0 r.1 in
                  ltb-false m n least),
            );
            small = is.0.small;
          })
    ]

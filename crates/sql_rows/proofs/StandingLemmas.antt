-- What the statements do to the standings, and what the query shows of them.
use Rattle.std.proofs.Common.{◌≡◌, ◌≢◌, ◌⊎◌, inl, inr, ℕ, ◌<◌, ◌≤◌, ◌^◌, ◌==◌, pos, List, [], ◌∷◌, length, map, filter, Bool, true, false, cond, not, ◌&&◌, Ok, Some, unwrap_or, refl, sym, ap, subst, ◌∙◌, arith}
use Rattle.std.specs.List.{AllByRecursion, find}
use Rattle.std.specs.List.Sorted.{IsPermutation}
use Rattle.std.specs.Ordering.{is_eq, match_ordering}
use Rattle.std.specs.declared.cmp.Ordering.{Ordering}
use Rattle.std.specs.declared.cmp.Ordering.TheVariants.{Less, Equal}
use Rattle.std.proofs.lemmas.Bool.{cases_Bool, and_parts, both_ways, eqb-true, ne_eqb, eq-eqb}
use Rattle.std.proofs.lemmas.List.{nil_from_length}
use Rattle.std.proofs.lemmas.List.Sorted.{length_permutation}
use Rattle.sqlite.specs.Order.{Row, value_cmp}
use Rattle.sqlite.specs.declared.types.Value.TheVariants.{Null, Int}
use Rattle.sqlite.specs.Term.{Term, eval_all}
use Rattle.sqlite.specs.Ops.{binary}
use Rattle.sqlite.specs.Cast.{cast_row}
use Rattle.sqlite.specs.Edit.{edit_of, edited, put_all}
use Rattle.sqlite.specs.Rowids.TheVariants.{Chosen, Given}
use Rattle.sqlite_rules.specs.Calls.{ids_of}
use Rattle.sqlite.specs.Program.{overlay}
use Rattle.sqlite.specs.Query.{IsAnswer}
use Rattle.sqlite.specs.Tree.{Trees, IsTable, rowid, put_row, without_rowid, has_rowid}
use Rattle.sqlite_trees.proofs.TreeLemmas.{IsTable-put_row, all-put_row}
use Rattle.sqlite_trees.proofs.ListLemmas.{all-filter, ascending-filter}
use Rattle.sqlite.specs.Command.TheVariants.{Update}
use Rattle.sqlite.specs.Effect.{Database, value_rows}
use Rattle.sqlite.specs.Rows.{stamped}
use Rattle.sqlite.specs.Listing.{understood}
use Rattle.sqlite.specs.State.{State, Executes, Shown}
use Rattle.sqlite.proofs.Callers.{IsPlain, command_of, reads_as, one_permutation}
use Rattle.desk_rules.specs.declared.history.standing.State.{State as Stand}
use Rattle.desk_rules.specs.declared.history.standing.State.TheVariants.{NoInstruction}
use Rattle.desk_rules.specs.declared.history.standing.Standing.{Standing}
use Rattle.desk_rules.specs.Standing.{no_standing}
use Rattle.desk_register.specs.Changes.{standing_at}
use Rattle.sql_tables.specs.Schema.{desk_schema, state_table}
use Rattle.sql_rows.specs.Standings.{columns_of, fresh_standing, number_of_row, reason_code, standing_among, standing_in, standing_row, standing_written, state_code, state_written, states, written_in, AreReadable, AreStandings, IsStandingRow, IsStandingShown, StandingsChanged, Written}
use Rattle.sql_rows.proofs.StandingMeanings.{by_number, read_text, reads, read_is, read_shown, add_text, adds, add_is, add_terms}
use Rattle.sql_tables.specs.Queries.{plain, passes_all, Among}
use Rattle.sql_tables.proofs.QueryLemmas.{among_filter, filter_among, none_among, only_one, plain_rows, same_found}
use Rattle.sql_tables.proofs.EditLemmas.{updates, inserts, spares, IsEdited}
use Rattle.sql_tables.proofs.ValueLemmas.{three_ways, number_less, number_equal, number_greater, number_same, equal_test, and_true, cast_int, cast_null}

-- ---- a state and its codes

abbrev is_written : ℕ → ℕ → Stand → Bool
is_written code reason s = (state_code s == code) && (reason_code s == reason)

codes_found : (code reason : ℕ) (all : List Stand) → unwrap_or (find (is_written code reason) all) NoInstruction ≢ NoInstruction
    → (state_code (unwrap_or (find (is_written code reason) all) NoInstruction) ≡ code) × (reason_code (unwrap_or (find (is_written code reason) all) NoInstruction) ≡ reason)
codes_found code reason [] some = absurd (some refl)
codes_found code reason (s ∷ all) some =
    let read = λ (b : Bool). unwrap_or (cond b (Some s) (find (is_written code reason) all)) NoInstruction in
    elim (cases_Bool (is_written code reason s)) [
      | inl here ↦ (let parts = and_parts (state_code s == code) (reason_code s == reason) here in
          (ap (λ b. state_code (read b)) here ∙ eqb-true (state_code s) code parts.0, ap (λ b. reason_code (read b)) here ∙ eqb-true (reason_code s) reason parts.1))
      | inr apart ↦ subst (λ x. (state_code x ≡ code) × (reason_code x ≡ reason)) (sym (ap read apart)) (codes_found code reason all (λ none. some (ap read apart ∙ none)))
    ]

-- the codes of an instruction's state are those that it was read by
pub codes_back : (code reason : ℕ) → state_written code reason ≢ NoInstruction → (state_code (state_written code reason) ≡ code) × (reason_code (state_written code reason) ≡ reason)
codes_back code reason some = codes_found code reason states some

-- ---- one row

pub own_number : (r : Row) (it : IsStandingRow r) → number_of_row r ≡ it.number
own_number r it = ap number_of_row it.is

pub own_rowid : (r : Row) (it : IsStandingRow r) → rowid r ≡ Int (pos it.number)
own_rowid r it = ap rowid it.is

pub said_at : (r : Row) (it : IsStandingRow r) → standing_written (written_in r) ≡ standing_written it.written
said_at r it = ap (λ x. standing_written (written_in x)) it.is

-- ---- the rows of a number

abbrev pub is_at : ℕ → Row → Bool
is_at n row = number_of_row row == n

found_none : (n : ℕ) (rows : List Row) → filter (is_at n) rows ≡ [] → standing_among rows n ≡ no_standing
found_none n [] h = refl
found_none n (r ∷ rs) h = elim (cases_Bool (is_at n r)) [
  | inl here ↦ absurd (let e : r ∷ filter (is_at n) rs ≡ [] = sym (ap (λ b. cond b (r ∷ filter (is_at n) rs) (filter (is_at n) rs)) here) ∙ h in cc)
  | inr apart ↦ ap (λ b. cond b (standing_written (written_in r)) (standing_among rs n)) apart
      ∙ found_none n rs (sym (ap (λ b. cond b (r ∷ filter (is_at n) rs) (filter (is_at n) rs)) apart) ∙ h)
]

found_one : (n : ℕ) (rows : List Row) (x : Row) (more : List Row) → AllByRecursion IsStandingRow rows → filter (is_at n) rows ≡ x ∷ more
    → (it : IsStandingRow x) × (it.number ≡ n) × (standing_among rows n ≡ standing_written it.written)
found_one n [] x more formed h = absurd (cc)
found_one n (r ∷ rs) x more formed h = elim (cases_Bool (is_at n r)) [
  | inl here ↦ (let e : r ∷ filter (is_at n) rs ≡ x ∷ more = sym (ap (λ b. cond b (r ∷ filter (is_at n) rs) (filter (is_at n) rs)) here) ∙ h in
      let same : r ≡ x = cc in
      let it = subst IsStandingRow same formed.0 in (
        it,
        sym (own_number x it) ∙ ap number_of_row (sym same) ∙ eqb-true (number_of_row r) n here,
        ap (λ b. cond b (standing_written (written_in r)) (standing_among rs n)) here ∙ ap (λ y. standing_written (written_in y)) same ∙ said_at x it,
      ))
  | inr apart ↦ (let e : filter (is_at n) rs ≡ x ∷ more = sym (ap (λ b. cond b (r ∷ filter (is_at n) rs) (filter (is_at n) rs)) apart) ∙ h in
      let it = found_one n rs x more formed.1 e in
      (it.0, it.1, ap (λ b. cond b (standing_written (written_in r)) (standing_among rs n)) apart ∙ it.2))
]

none_above : (n : ℕ) (rows : List Row) → AllByRecursion IsStandingRow rows → AllByRecursion (λ s. value_cmp (Int (pos n)) (rowid s) ≡ Less) rows → filter (is_at n) rows ≡ []
none_above n [] formed all = refl
none_above n (r ∷ rs) formed all = elim (cases_Bool (is_at n r)) [
  | inl here ↦ absurd (let same : rowid r ≡ Int (pos n) = own_rowid r formed.0 ∙ ap (λ k. Int (pos k)) (sym (own_number r formed.0) ∙ eqb-true (number_of_row r) n here) in
      let e : Less ≡ Equal = sym all.0 ∙ ap (value_cmp (Int (pos n))) same ∙ number_equal n in cc)
  | inr apart ↦ ap (λ b. cond b (r ∷ filter (is_at n) rs) (filter (is_at n) rs)) apart ∙ none_above n rs formed.1 all.1
]

-- no row has the number, or one has
once : (n : ℕ) (rows : List Row) → IsTable rows → AllByRecursion IsStandingRow rows → (filter (is_at n) rows ≡ []) ⊎ ((r : Row) × (filter (is_at n) rows ≡ r ∷ []))
once n [] rising formed = inl refl
once n (r ∷ rs) rising formed = elim (cases_Bool (is_at n r)) [
  | inl here ↦ (let same : rowid r ≡ Int (pos n) = own_rowid r formed.0 ∙ ap (λ k. Int (pos k)) (sym (own_number r formed.0) ∙ eqb-true (number_of_row r) n here) in
      let rest = none_above n rs formed.1 (subst (λ v. AllByRecursion (λ s. value_cmp v (rowid s) ≡ Less) rs) same rising.0) in
      inr (r, ap (λ b. cond b (r ∷ filter (is_at n) rs) (filter (is_at n) rs)) here ∙ ap (λ ys. r ∷ ys) rest))
  | inr apart ↦ (let e : filter (is_at n) (r ∷ rs) ≡ filter (is_at n) rs = ap (λ b. cond b (r ∷ filter (is_at n) rs) (filter (is_at n) rs)) apart in
      elim (once n rs rising.1 formed.1) [ inl none ↦ inl (e ∙ none) | inr one ↦ inr (one.0, e ∙ one.1) ])
]

-- a row says where the instruction of its number stands
pub row_says : (rows : List Row) → IsTable rows → AllByRecursion IsStandingRow rows → (r : Row) → Among rows r → (it : IsStandingRow r) → standing_among rows it.number ≡ standing_written it.written
row_says rows rising formed r there it =
    let n = it.number in
    let found = filter_among (is_at n) rows r there (eq-eqb (number_of_row r) n (own_number r it)) in
    elim (once n rows rising formed) [
      | inl none ↦ absurd (none_among (filter (is_at n) rows) r none found)
      | inr one ↦ (let first = found_one n rows one.0 [] formed one.1 in
          first.2 ∙ sym (said_at one.0 first.0) ∙ ap (λ row. standing_written (written_in row)) (sym (only_one (filter (is_at n) rows) one.0 r one.1 found)) ∙ said_at r it)
    ]

-- a number that stands somewhere has a row
pub row_of : (n : ℕ) (rows : List Row) → IsTable rows → AllByRecursion IsStandingRow rows → (standing_among rows n).state ≢ NoInstruction
    → (r : Row) × (it : IsStandingRow r) × Among rows r × (it.number ≡ n) × (standing_among rows n ≡ standing_written it.written)
row_of n rows rising formed some = elim (once n rows rising formed) [
  | inl none ↦ absurd (some (ap (λ (s : Standing). s.state) (found_none n rows none)))
  | inr one ↦ (let first = found_one n rows one.0 [] formed one.1 in
      let there = among_filter (is_at n) rows one.0 (subst (λ xs. Among xs one.0) (sym one.1) (inl refl)) in
      (one.0, first.0, there.0, first.1, first.2))
]

-- a number with no instruction has no row
pub nowhere : (n : ℕ) (rows : List Row) → AllByRecursion IsStandingRow rows → (standing_among rows n).state ≡ NoInstruction → standing_among rows n ≡ no_standing
nowhere n [] formed none = refl
nowhere n (r ∷ rs) formed none =
    let it = formed.0 in
    let said = standing_written (written_in r) in
    elim (cases_Bool (is_at n r)) [
      | inl here ↦ absurd (it.instruction (ap (λ (s : Standing). s.state) (sym (said_at r it)) ∙ sym (ap (λ b. (cond b said (standing_among rs n)).state) here) ∙ none))
      | inr apart ↦ ap (λ b. cond b said (standing_among rs n)) apart ∙ nowhere n rs formed.1 (sym (ap (λ b. (cond b said (standing_among rs n)).state) apart) ∙ none)
    ]

-- ---- a row is put in, or taken out

flips : (m n : ℕ) → (m == n) ≡ (n == m)
flips m n = elim (cases_Bool (m == n)) [
  | inl same ↦ same ∙ sym (eq-eqb n m (sym (eqb-true m n same)))
  | inr apart ↦ apart ∙ sym (ne_eqb n m (λ e. both_ways _ apart (eq-eqb m n (sym e))))
]

swap : {X : Type 0} (a b : Bool) (x y z : X) → (a ≡ true → b ≡ true → ⊥) → cond a x (cond b y z) ≡ cond b y (cond a x z)
swap true true x y z apart = absurd (apart refl refl)
swap true false x y z apart = refl
swap false b x y z apart = refl

-- the standing of one number, with a row put in
put_one : (n k : ℕ) (w : Written) (rows : List Row) → AllByRecursion IsStandingRow rows
    → standing_among (put_row (standing_row n w) rows) k ≡ cond (k == n) (standing_written w) (standing_among rows k)
put_one n k w [] formed = ap (λ b. cond b (standing_written w) no_standing) (flips n k)
put_one n k w (r ∷ rs) formed =
    let m = formed.0.number in
    let said = standing_written (written_in r) in
    let new = standing_row n w in
    let cmp : value_cmp (rowid r) (Int (pos n)) ≡ value_cmp (Int (pos m)) (Int (pos n)) = ap (λ v. value_cmp v (Int (pos n))) (own_rowid r formed.0) in
    let put = λ (o : Ordering). standing_among (match_ordering o (r ∷ put_row new rs) (new ∷ rs) (new ∷ r ∷ rs)) k in
    elim (three_ways m n) [
      | inl low ↦ ap put (cmp ∙ number_less m n low) ∙ ap (λ x. cond (is_at k r) said x) (put_one n k w rs formed.1)
          ∙ swap (is_at k r) (k == n) said (standing_written w) (standing_among rs k)
          (λ here same. omega (arith, low, own_number r formed.0, eqb-true (number_of_row r) k here, eqb-true k n same))
      | inr (inl same) ↦ ap put (cmp ∙ ap (λ v. value_cmp (Int (pos v)) (Int (pos n))) same ∙ number_equal n) ∙ ap (λ b. cond b (standing_written w) (standing_among rs k)) (flips n k)
          ∙ elim (cases_Bool (k == n)) [
            | inl here ↦ ap (λ b. cond b (standing_written w) (standing_among rs k)) here ∙ sym (ap (λ b. cond b (standing_written w) (standing_among (r ∷ rs) k)) here)
            | inr apart ↦ ap (λ b. cond b (standing_written w) (standing_among rs k)) apart
                ∙ sym (ap (λ b. cond b said (standing_among rs k)) (ne_eqb (number_of_row r) k (λ e. both_ways _ apart (eq-eqb k n (sym e ∙ own_number r formed.0 ∙ same)))))
                ∙ sym (ap (λ b. cond b (standing_written w) (standing_among (r ∷ rs) k)) apart)
          ]
      | inr (inr high) ↦ ap put (cmp ∙ number_greater m n high) ∙ ap (λ b. cond b (standing_written w) (standing_among (r ∷ rs) k)) (flips n k)
    ]

-- the standing of another number, where a row is taken out
without_one : (n k : ℕ) (rows : List Row) → AllByRecursion IsStandingRow rows → (k == n) ≡ false → standing_among (without_rowid (pos n) rows) k ≡ standing_among rows k
without_one n k [] formed apart = refl
without_one n k (r ∷ rs) formed apart =
    let m = formed.0.number in
    let said = standing_written (written_in r) in
    let left = without_rowid (pos n) rs in
    let has : has_rowid (pos n) r ≡ (m == n) = ap (λ v. is_eq (value_cmp v (Int (pos n)))) (own_rowid r formed.0) ∙ number_same m n in
    elim (cases_Bool (m == n)) [
      | inl here ↦ ap (λ b. standing_among (cond (not b) (r ∷ left) left) k) (has ∙ here) ∙ without_one n k rs formed.1 apart
          ∙ sym (ap (λ b. cond b said (standing_among rs k)) (ne_eqb (number_of_row r) k (λ e. both_ways _ apart (eq-eqb k n (sym e ∙ own_number r formed.0 ∙ eqb-true m n here)))))
      | inr other ↦ ap (λ b. standing_among (cond (not b) (r ∷ left) left) k) (has ∙ other) ∙ ap (λ x. cond (is_at k r) said x) (without_one n k rs formed.1 apart)
    ]

pub put_standings : (n : ℕ) (w : Written) (rows : List Row) → AllByRecursion IsStandingRow rows
    → standing_among (put_row (standing_row n w) rows) ≡ standing_at (standing_among rows) n (standing_written w)
put_standings n w rows formed = λ i k. (put_one n k w rows formed) i

pub replaced_standings : (n : ℕ) (w : Written) (rows : List Row) → AllByRecursion IsStandingRow rows
    → standing_among (put_row (standing_row n w) (without_rowid (pos n) rows)) ≡ standing_at (standing_among rows) n (standing_written w)
replaced_standings n w rows formed = λ i k. (at k) i
  where
    left : List Row
    left = without_rowid (pos n) rows

    at : (k : ℕ) → standing_among (put_row (standing_row n w) (without_rowid (pos n) rows)) k ≡ cond (k == n) (standing_written w) (standing_among rows k)
    at k =
        put_one n k w (without_rowid (pos n) rows) (all-filter IsStandingRow (λ r. not (has_rowid (pos n) r)) rows formed)
        ∙ elim (cases_Bool (k == n)) [
          | inl here ↦ ap (λ b. cond b (standing_written w) (standing_among (without_rowid (pos n) rows) k)) here ∙ sym (ap (λ b. cond b (standing_written w) (standing_among rows k)) here)
          | inr apart ↦ ap (λ b. cond b (standing_written w) (standing_among (without_rowid (pos n) rows) k)) apart ∙ without_one n k rows formed apart
              ∙ sym (ap (λ b. cond b (standing_written w) (standing_among rows k)) apart)
        ]

-- ---- the query

-- the row of the number passes
number_test : (n : ℕ) (more row : Row) → IsStandingRow row → passes_all (by_number ∷ []) (Int (pos n) ∷ more) row ≡ is_at n row
unfolding binary
number_test n more row it =
    subst (λ r. passes_all (by_number ∷ []) (Int (pos n) ∷ more) r ≡ is_at n r) (sym it.is) (rw (equal_test it.number n) (and_true (it.number == n)))

abbrev tests_same : (n : ℕ) (more : Row) (rows : List Row) → AllByRecursion IsStandingRow rows → filter (passes_all (by_number ∷ []) (Int (pos n) ∷ more)) rows ≡ filter (is_at n) rows
tests_same n more rows formed = same_found IsStandingRow (passes_all (by_number ∷ []) (Int (pos n) ∷ more)) (is_at n) rows (number_test n more) formed

-- no row is shown, since the number has none, or the columns of its row
shows_row : (old new : State) (n : ℕ) (rows : List Row) → old.now.schema ≡ desk_schema → AreStandings old.now → Shown read_text (Int (pos n) ∷ []) old new rows
    → ((rows ≡ []) × (standing_in old.now n ≡ no_standing)) ⊎ ((r : Row) × (it : IsStandingRow r) × (rows ≡ columns_of it.written ∷ []) × (standing_in old.now n ≡ standing_written it.written))
shows_row old new n rows has were h =
    let params : Row = Int (pos n) ∷ [] in
    let held = old.now.trees 8 in
    let show : Row → Row = λ row. eval_all read_shown (params ∷ row ∷ []) in
    let answers = reads_as read_text params old new desk_schema has _ read_is reads.plain reads.unlisted rows h in
    let same : IsPermutation (map show (filter (is_at n) held)) rows =
    subst (λ xs. IsPermutation (map show xs) rows) (tests_same n [] held were.formed) (plain_rows 8 (by_number ∷ []) read_shown (overlay old.now.trees []) params rows (answers.answer Null)) in
    elim (once n held were.rising were.formed) [
      | inl none ↦ inl (nil_from_length rows (length_permutation [] rows (subst (λ xs. IsPermutation (map show xs) rows) none same)), found_none n held none)
      | inr one ↦ (let it = found_one n held one.0 [] were.formed one.1 in
          inr (
            one.0,
            it.0,
            one_permutation (show one.0) rows (subst (λ xs. IsPermutation (map show xs) rows) one.1 same) ∙ ap (λ (r : Row). show r ∷ []) it.0.is,
            it.2,
          ))
    ]

pub shows_standing : (old new : State) (n : ℕ) (rows : List Row) → old.now.schema ≡ desk_schema → AreStandings old.now → Shown read_text (Int (pos n) ∷ []) old new rows → IsStandingShown rows (standing_in old.now n)
shows_standing old new n rows has were h = elim (shows_row old new n rows has were h) [ inl none ↦ inl none | inr (r, it, is, said) ↦ inr (it.written, is, said) ]

-- and it is read
pub shows_readable : (old new : State) (n : ℕ) (rows : List Row) → old.now.schema ≡ desk_schema → AreStandings old.now → Shown read_text (Int (pos n) ∷ []) old new rows → AreReadable rows
shows_readable old new n rows has were h = elim (shows_row old new n rows has were h) [ inl none ↦ inl none.0 | inr (r, it, is, said) ↦ inr (it.written, is, it.instruction, it.request) ]

-- ---- a row is changed

-- what is written of a row
pub cast_standing : (n : ℕ) (w : Written) → cast_row state_table (standing_row n w) ≡ standing_row n w
cast_standing n w = rw (cast_int (pos n), cast_null, cast_int (pos w.mate), cast_int (pos w.state), cast_int (pos w.reason), cast_int (pos w.asked)) refl

one_edit : (db : Trees) (n : ℕ) (w : Written)
    → edited db (edit_of db state_table (ids_of ((Int (pos n) ∷ standing_row n w) ∷ [])) Given 1 ((Int (pos n) ∷ standing_row n w) ∷ [])) ≡ put_row (standing_row n w) (without_rowid (pos n) (db 8))
one_edit db n w = ap (λ r. put_row r (without_rowid (pos n) (db 8))) (cast_standing n w)

-- An UPDATE of the row of a number changes what is written of it.
pub record Changes (shown : List Term) (params : Row) (change : Written → Written) : Type 0 where
  pub shows : (m : ℕ) (w : Written) → eval_all shown (params ∷ standing_row m w ∷ []) ≡ Int (pos m) ∷ standing_row m (change w)
  pub instruction : (w : Written) → state_written w.state w.reason ≢ NoInstruction → state_written (change w).state (change w).reason ≢ NoInstruction
  pub request : (w : Written) → w.asked ≤ 1 → (change w).asked ≤ 1

-- what is shown of the row once it is changed
abbrev pub changed_row : ℕ → Written → Row
changed_row n w = Int (pos n) ∷ standing_row n w

-- What an UPDATE finds: no row, since the number has none, or that of the number with what is written of it changed.
abbrev pub Finds : List Row → ℕ → (Written → Written) → List Row → Type 0
Finds held n change found =
    ((found ≡ []) × (standing_among held n ≡ no_standing)) ⊎ ((r : Row) × (it : IsStandingRow r) × (it.number ≡ n) × (standing_among held n ≡ standing_written it.written) × (found ≡ changed_row n (change it.written) ∷ []))

pub finds : (db : Database) (shown : List Term) (n : ℕ) (more : Row) (change : Written → Written) → AreStandings db → Changes shown (Int (pos n) ∷ more) change → (found : List Row)
    → IsAnswer (plain 8 (by_number ∷ []) shown) (overlay db.trees []) (Int (pos n) ∷ more) found → Finds (db.trees 8) n change found
finds db shown n more change were changes found answer = elim (once n held were.rising were.formed) [
  | inl none ↦ inl (nil_from_length found (length_permutation [] found (subst (λ xs. IsPermutation (map show xs) found) none found_are)), found_none n held none)
  | inr one ↦ (let it = found_one n held one.0 [] were.formed one.1 in
      let row_is : one.0 ≡ standing_row n it.0.written = it.0.is ∙ ap (λ k. standing_row k it.0.written) it.1 in
      inr (
        one.0,
        it.0,
        it.1,
        it.2,
        one_permutation (show one.0) found (subst (λ xs. IsPermutation (map show xs) found) one.1 found_are) ∙ ap (λ (x : Row). x ∷ []) (ap show row_is ∙ changes.shows n it.0.written),
      ))
]
  where
    params : Row
    params = Int (pos n) ∷ more

    held : List Row
    held = db.trees 8

    show : Row → Row
    show row = eval_all shown (params ∷ row ∷ [])

    found_are : IsPermutation (map show (filter (is_at n) held)) found
    found_are = subst (λ xs. IsPermutation (map show xs) found) (tests_same n more held were.formed) (plain_rows 8 (by_number ∷ []) shown (overlay db.trees []) params found answer)

-- how many rows an UPDATE changes of a number that has one
pub counts_one : (held : List Row) (n : ℕ) (change : Written → Written) (found : List Row) (count : ℕ) → Finds held n change found → count ≡ length found → (standing_among held n).state ≢ NoInstruction → count ≡ 1
counts_one held n change found count (inl none) counted some = absurd (some (ap (λ s. s.state) none.1))
counts_one held n change found count (inr (r, it, same, says, is)) counted some = counted ∙ ap length is

module _ (old new : State) (text : List ℕ) (shown : List Term) (n : ℕ) (more : Row) (change : Written → Written) (count : ℕ)
    (is : command_of (understood desk_schema text) ≡ Update 4 (record { lets = []; body = plain 8 (by_number ∷ []) shown })) (plain' : IsPlain (understood desk_schema text)) (changes : Changes shown (Int (pos n) ∷ more) change)
    (has : old.now.schema ≡ desk_schema) (were : AreStandings old.now) (h : Executes text (Int (pos n) ∷ more) old new (Ok count)) where
  abbrev held : List Row
  held = old.now.trees 8

  made : (rows : List Row) × IsAnswer (plain 8 (by_number ∷ []) shown) (overlay old.now.trees []) (Int (pos n) ∷ more) rows × (count ≡ length rows)
      × IsEdited old.now new.now (edit_of old.now.trees state_table (ids_of rows) Given 1 rows)
  made = updates old new has text (Int (pos n) ∷ more) count 4 state_table refl plain' h (plain 8 (by_number ∷ []) shown) is

  found_so : Finds held n change made.0
  found_so = finds old.now shown n more change were changes made.0 made.1

  -- the row of a number that stands somewhere is changed
  pub counts_standing : (standing_in old.now n).state ≢ NoInstruction → count ≡ 1
  counts_standing some = counts_one held n change made.0 count found_so made.2 some

  pub changes_standing : (f : Standing → Standing) → ((w : Written) → standing_written (change w) ≡ f (standing_written w)) → n < 2 ^ 63 → count ≡ 1 → StandingsChanged old.now new.now (standing_at (standing_in old.now) n (f (standing_in old.now n)))
  changes_standing f reads_so small single = go found_so
    where
      go : Finds held n change made.0 → StandingsChanged old.now new.now (standing_at (standing_in old.now) n (f (standing_in old.now n)))
      go (inl none) = absurd (omega (arith, single, made.2, ap length none.0))
      go (inr (r, it, same, said, found)) =
          let w = change it.written in
          let left = without_rowid (pos n) held in
          let rows_are : new.now.trees 8 ≡ put_row (standing_row n w) left = made.3.rows ∙ ap (λ f. edited old.now.trees (edit_of old.now.trees state_table (ids_of f) Given 1 f)) found ∙ one_edit old.now.trees n w in
          let row : IsStandingRow (standing_row n w) = record { number = n; written = w; is = refl; small = small; instruction = changes.instruction it.written it.instruction; request = changes.request it.written it.request } in
          let says : standing_written w ≡ f (standing_in old.now n) = reads_so it.written ∙ ap f (sym said) in
          record {
            kept = record {
              rising = subst IsTable (sym rows_are) (IsTable-put_row (standing_row n w) left (ascending-filter _ (λ r. not (has_rowid (pos n) r)) held were.rising));
              formed = subst (AllByRecursion IsStandingRow) (sym rows_are) (all-put_row IsStandingRow (standing_row n w) left row (all-filter IsStandingRow (λ r. not (has_rowid (pos n) r)) held were.formed));
            };
            standings_are = ap standing_among rows_are ∙ replaced_standings n w held were.formed ∙ ap (standing_at (standing_among held) n) says;
            others = spares 8 9 old.now new.now (edit_of old.now.trees state_table (ids_of made.0) Given 1 made.0) (omega arith) (omega arith) made.3;
          }

-- ---- a row is put in

abbrev pub fresh_written : Written
fresh_written = record { mate = 0; state = 1; reason = 0; asked = 0 }

-- the row that INSERT makes
pub fresh_news : (db : Trees) (n : ℕ) (given : List Row) → given ≡ value_rows (stamped state_table (Int (pos n) ∷ [])) 6 1 add_terms → (edit_of db state_table [] Chosen 0 given).news ≡ standing_row n fresh_written ∷ []
fresh_news db n given is = ap (λ all. (edit_of db state_table [] Chosen 0 all).news) is ∙ rw (cast_int (pos n), cast_null, cast_int (pos 0), cast_int (pos 1)) refl

pub adds_standing : (old new : State) (n count : ℕ) → n < 2 ^ 63 → old.now.schema ≡ desk_schema → AreStandings old.now → Executes add_text (Int (pos n) ∷ []) old new (Ok count)
    → StandingsChanged old.now new.now (standing_at (standing_in old.now) n fresh_standing)
adds_standing old new n count small has were h =
    let params : Row = Int (pos n) ∷ [] in
    let held = old.now.trees 8 in
    let row = standing_row n fresh_written in
    let made = inserts old new has add_text params count 4 state_table refl adds.plain h add_terms 6 refl add_is in
    let news : (edit_of old.now.trees state_table [] Chosen 0 made.0).news ≡ row ∷ [] = fresh_news old.now.trees n made.0 made.1 in
    let rows_are : new.now.trees 8 ≡ put_row row held = made.2.rows ∙ ap (put_all held) news in
    let formed : IsStandingRow row = record { number = n; written = fresh_written; is = refl; small = small; instruction = λ e. cc; request = omega arith } in
    record {
      kept = record {
        rising = subst IsTable (sym rows_are) (IsTable-put_row row held were.rising);
        formed = subst (AllByRecursion IsStandingRow) (sym rows_are) (all-put_row IsStandingRow row held formed were.formed);
      };
      standings_are = ap standing_among rows_are ∙ put_standings n fresh_written held were.formed;
      others = spares 8 9 old.now new.now (edit_of old.now.trees state_table [] Chosen 0 made.0) (omega arith) (omega arith) made.2;
    }

-- ---- for the stores

-- no row has so great a number
pub none_beyond : (n : ℕ) (rows : List Row) → AllByRecursion IsStandingRow rows → 2 ^ 63 ≤ n → standing_among rows n ≡ no_standing
none_beyond n [] formed far = refl
none_beyond n (r ∷ rs) formed far =
    ap (λ b. cond b (standing_written (written_in r)) (standing_among rs n)) (ne_eqb (number_of_row r) n (λ e. omega (arith, far, formed.0.small, own_number r formed.0, e))) ∙ none_beyond n rs formed.1 far

-- they depend on their tree alone
pub same_standings : (a b : Database) → a.trees 8 ≡ b.trees 8 → AreStandings a → AreStandings b
same_standings a b same were = record { rising = subst IsTable same were.rising; formed = subst (AllByRecursion IsStandingRow) same were.formed }

pub same_standing_in : (a b : Database) → a.trees 8 ≡ b.trees 8 → standing_in a ≡ standing_in b
same_standing_in a b same = ap standing_among same

-- an empty table records none
pub no_standings : (db : Database) → db.trees 8 ≡ [] → AreStandings db × (standing_in db ≡ (λ n. no_standing))
no_standings db empty = (record { rising = subst IsTable (sym empty) tt; formed = subst (AllByRecursion IsStandingRow) (sym empty) tt }, ap standing_among empty)

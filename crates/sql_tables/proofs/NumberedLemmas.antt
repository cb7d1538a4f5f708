-- Rows that are computed, number by number.
use Rattle.std.proofs.Common.{◌≡◌, ◌≢◌, ◌⊎◌, ℕ, zero, suc, ◌+◌, ◌<◌, ◌≤◌, ◌==◌, pos, List, [], ◌∷◌, ◌++◌, length, map, take, get_or, cond, option_map, Option, Some, None, inl, inr, refl, sym, ap, subst, ◌∙◌, arith}
use Rattle.std.specs.List.{AllByRecursion, find}
use Rattle.std.proofs.lemmas.Bool.{cases_lt, eq-eqb, ne_eqb}
use Rattle.std.specs.declared.cmp.Ordering.TheVariants.{Less}
use Rattle.std.proofs.lemmas.List.{map-append, take_more}
use Rattle.sqlite.specs.declared.types.Value.TheVariants.{Int}
use Rattle.sqlite.specs.Order.{Row, value_cmp}
use Rattle.sqlite.specs.Tree.{IsTable, has_rowid, rowid}
use Rattle.sql_tables.proofs.ValueLemmas.{number_less, number_same}
use Rattle.sql_tables.specs.Whole.{shown_by}
use Rattle.sql_tables.specs.Numbered.{and_row, numbered_from, row_with}
use Rattle.sql_tables.proofs.RowLemmas.{shown_whole}

module _ (P : Row → Type 0) where
  -- of a row more, or none
  all_with : (n : ℕ) (w : Option Row) (rows : List Row) → ((values : Row) → w ≡ Some values → P (row_with n values)) → AllByRecursion P rows → AllByRecursion P (and_row n w rows)
  all_with n None rows one rest = rest
  all_with n (Some values) rows one rest = (one values refl, rest)

abbrev Above : ℕ → Row → Type 0
Above n r = value_cmp (Int (pos n)) (rowid r) ≡ Less

rises_with : (n : ℕ) (w : Option Row) (rows : List Row) → AllByRecursion (Above n) rows → IsTable rows → IsTable (and_row n w rows)
rises_with n None rows all up = up
rises_with n (Some values) rows all up = (all, up)

tells : (i m : ℕ) (values : Row) → has_rowid (pos m) (row_with i values) ≡ (i == m)
tells i m values = number_same i m

find_other : (i m : ℕ) (w : Option Row) (rows : List Row) → i ≢ m → find (has_rowid (pos m)) (and_row i w rows) ≡ find (has_rowid (pos m)) rows
find_other i m None rows apart = refl
find_other i m (Some values) rows apart = ap (λ b. cond b (Some (row_with i values)) (find (has_rowid (pos m)) rows)) (tells i m values ∙ ne_eqb i m apart)

find_own : (m : ℕ) (w : Option Row) (rows : List Row) → find (has_rowid (pos m)) rows ≡ None → find (has_rowid (pos m)) (and_row m w rows) ≡ option_map (row_with m) w
find_own m None rows out = out
find_own m (Some values) rows out = ap (λ b. cond b (Some (row_with m values)) (find (has_rowid (pos m)) rows)) (tells m m values ∙ eq-eqb m m refl)

pub and_append : (n : ℕ) (w : Option Row) (xs ys : List Row) → and_row n w (xs ++ ys) ≡ and_row n w xs ++ ys
and_append n None xs ys = refl
and_append n (Some values) xs ys = refl

module _ (wanted : ℕ → Option Row) where
  -- ---- numbers rise

  all_above : (low n k : ℕ) → low ≤ n → AllByRecursion (Above low) (numbered_from wanted n k)
  all_above low n zero le = tt
  all_above low n (suc k) le =
      all_with (Above low) (suc n) (wanted (suc n)) (numbered_from wanted (suc n) k) (λ values is. number_less low (suc n) (omega (arith, le))) (all_above low (suc n) k (omega (arith, le)))

  pub rises : (n k : ℕ) → IsTable (numbered_from wanted n k)
  rises n zero = tt
  rises n (suc k) = rises_with (suc n) (wanted (suc n)) (numbered_from wanted (suc n) k) (all_above (suc n) (suc n) k (omega arith)) (rises (suc n) k)

  -- ---- what holds of each row

  pub each_row : (P : Row → Type 0) (n k : ℕ) → ((m : ℕ) (values : Row) → n < m → m ≤ n + k → wanted m ≡ Some values → P (row_with m values)) → AllByRecursion P (numbered_from wanted n k)
  each_row P n zero each = tt
  each_row P n (suc k) each =
      all_with P (suc n) (wanted (suc n)) (numbered_from wanted (suc n) k) (λ values is. each (suc n) values (omega arith) (omega arith) is)
      (each_row P (suc n) k (λ m values low high is. each m values (omega (arith, low)) (omega (arith, high)) is))

  -- ---- one number more

  pub grows : (n k m : ℕ) → m ≡ suc (n + k) → numbered_from wanted n (suc k) ≡ numbered_from wanted n k ++ and_row m (wanted m) []
  grows n zero m is = (let e : suc n ≡ m = omega (arith, is) in ap (λ i. and_row i (wanted i) []) e)
  grows n (suc k) m is =
      ap (and_row (suc n) (wanted (suc n))) (grows (suc n) k m (omega (arith, is))) ∙ and_append (suc n) (wanted (suc n)) (numbered_from wanted (suc n) k) (and_row m (wanted m) [])

  -- ---- the row of a number

  find_out : (n k m : ℕ) → (m ≤ n) ⊎ (n + k < m) → find (has_rowid (pos m)) (numbered_from wanted n k) ≡ None
  find_out n zero m out = refl
  find_out n (suc k) m (inl low) = find_other (suc n) m (wanted (suc n)) (numbered_from wanted (suc n) k) (λ e. omega (arith, e, low)) ∙ find_out (suc n) k m (inl (omega (arith, low)))
  find_out n (suc k) m (inr high) = find_other (suc n) m (wanted (suc n)) (numbered_from wanted (suc n) k) (λ e. omega (arith, e, high)) ∙ find_out (suc n) k m (inr (omega (arith, high)))

  find_in : (n k m : ℕ) → n < m → m ≤ n + k → find (has_rowid (pos m)) (numbered_from wanted n k) ≡ option_map (row_with m) (wanted m)
  find_in n zero m low high = absurd (omega (arith, low, high))
  find_in n (suc k) m low high = elim (cases_lt (suc n) m) [
    | inl later ↦ find_other (suc n) m (wanted (suc n)) (numbered_from wanted (suc n) k) (λ e. omega (arith, e, later)) ∙ find_in (suc n) k m later (omega (arith, high))
    | inr here ↦ (let is : suc n ≡ m = omega (arith, here, low) in
        subst (λ j. find (has_rowid (pos j)) (numbered_from wanted n (suc k)) ≡ option_map (row_with j) (wanted j)) is
        (find_own (suc n) (wanted (suc n)) (numbered_from wanted (suc n) k) (find_out (suc n) k (suc n) (inl (omega arith)))))
  ]

  -- where nothing is wanted beyond the numbers, each has its row, and no other
  pub find_row : (count : ℕ) → ((m : ℕ) → (m ≡ 0) ⊎ (count < m) → wanted m ≡ None) → (m : ℕ) → find (has_rowid (pos m)) (numbered_from wanted 0 count) ≡ option_map (row_with m) (wanted m)
  find_row count beyond m = elim (cases_lt 0 m) [
    | inl some ↦ elim (cases_lt count m) [
      | inl above ↦ find_out 0 count m (inr (omega (arith, above))) ∙ sym (ap (option_map (row_with m)) (beyond m (inr above)))
      | inr high ↦ find_in 0 count m some (omega (arith, high))
    ]
    | inr none ↦ find_out 0 count m (inl (omega (arith, none))) ∙ sym (ap (option_map (row_with m)) (beyond m (inl (omega (arith, none)))))
  ]

  -- ---- what is shown so far

  module _ (size : ℕ) (rows : List Row) (k at : ℕ) where
    abbrev pub IsShownSoFar : ℕ → ℕ → Type 0
    IsShownSoFar k at = take at rows ≡ map (shown_by size) (numbered_from wanted 0 k)

    pub shown_none : wanted (suc k) ≡ None → IsShownSoFar k at → IsShownSoFar (suc k) at
    shown_none none so = so ∙ sym (ap (map (shown_by size)) (grows 0 k (suc k) (omega arith) ∙ ap (λ w. numbered_from wanted 0 k ++ and_row (suc k) w []) none ∙ append_nil (numbered_from wanted 0 k)))
      where
        append_nil : (xs : List Row) → xs ++ [] ≡ xs
        append_nil [] = refl
        append_nil (x ∷ xs) = ap (λ ys. x ∷ ys) (append_nil xs)

    pub shown_some : (values d : Row) → wanted (suc k) ≡ Some values → length values ≡ size → at < length rows → get_or rows at d ≡ Int (pos (suc k)) ∷ values → IsShownSoFar k at → IsShownSoFar (suc k) (at + 1)
    shown_some values d some whole low is so =
        take_more rows at d low
        ∙ ap (λ xs. xs ++ get_or rows at d ∷ []) so
        ∙ ap (λ r. map (shown_by size) (numbered_from wanted 0 k) ++ r ∷ []) (is ∙ sym (shown_whole (Int (pos (suc k))) values size whole))
        ∙ sym (map-append (shown_by size) (numbered_from wanted 0 k) (row_with (suc k) values ∷ []))
        ∙ ap (λ w. map (shown_by size) (numbered_from wanted 0 k ++ and_row (suc k) w [])) (sym some)
        ∙ sym (ap (map (shown_by size)) (grows 0 k (suc k) (omega arith)))

-- Standing by standing.
use Rattle.std.proofs.Common.{◌≡◌, ◌≢◌, ℕ, zero, suc, ◌+◌, ◌<◌, ◌≤◌, pos, List, ◌∷◌, ◌++◌, length, map, take, get_or, Option, Some, None, inl, inr, refl, sym, ap, subst, ◌∙◌, arith}
use Rattle.std.proofs.lemmas.Bool.{cases_lt}
use Rattle.std.proofs.lemmas.List.{length-append, length-take-le, map-append, take_all}
use Rattle.std.proofs.Math.Seq.{get_or-append_seam}
use Rattle.sqlite.specs.declared.types.Value.TheVariants.{Int}
use Rattle.sqlite.specs.Order.{Row}
use Rattle.desk_rules.specs.declared.history.standing.State.{State}
use Rattle.desk_rules.specs.declared.history.standing.State.TheVariants.{NoInstruction, Unmatched, Matched, Cancelled, Settled}
use Rattle.desk_rules.specs.declared.history.standing.Standing.{Standing}
use Rattle.sql_rows.specs.Standings.{columns_of}
use Rattle.sql_tables.specs.Whole.{shown_by}
use Rattle.sql_tables.specs.Numbered.{and_row, numbered_from, row_with}
use Rattle.sql_tables.proofs.NumberedLemmas.{and_append, shown_none, shown_some}
use Rattle.sql_tables.proofs.RowLemmas.{shown_whole}
use Rattle.sql_rows.specs.StandingsTold.{row_by, wanted, written_of, AreTold, IsTold}

no_row : (state : State) (values : Row) → state ≡ NoInstruction → row_by state values ≡ None
no_row state values is = ap (λ s. row_by s values) is

pub a_row : (state : State) (values : Row) → state ≢ NoInstruction → row_by state values ≡ Some values
a_row NoInstruction values is = absurd (is refl)
a_row Unmatched values is = refl
a_row (Matched reason) values is = refl
a_row Cancelled values is = refl
a_row Settled values is = refl

module _ (standing : ℕ → Standing) (k at : ℕ) (rows : List Row) (told : AreTold standing k (take at rows)) (now : Standing) (is : now ≡ standing (k + 1)) (can : IsTold (k + 1) now) where
  each_more : (i : ℕ) → i < k + 1 → IsTold (i + 1) (standing (i + 1))
  each_more i low = elim (cases_lt i k) [
    | inl below ↦ told.each i below
    | inr high ↦ (let last : k ≡ i = omega (arith, low, high) in subst (λ j. IsTold (j + 1) (standing (j + 1))) last (subst (IsTold (k + 1)) is can))
  ]

  is_next : k + 1 ≡ suc k
  is_next = omega arith

  pub told_none : now.state ≡ NoInstruction → AreTold standing (k + 1) (take at rows)
  told_none none =
      let here : wanted standing (k + 1) ≡ None = no_row (standing (k + 1)).state (columns_of (written_of (standing (k + 1)))) (ap (λ (s : Standing). s.state) (sym is) ∙ none) in
      record { shown = subst (λ n. take at rows ≡ map (shown_by 4) (numbered_from (wanted standing) 0 n)) (sym is_next) (shown_none (wanted standing) 4 rows k at (subst (λ n. wanted standing n ≡ None) is_next here) told.shown); each = each_more }

  pub told_row : (d : Row) → now.state ≢ NoInstruction → at < length rows → get_or rows at d ≡ Int (pos (k + 1)) ∷ columns_of (written_of now) → AreTold standing (k + 1) (take (at + 1) rows)
  told_row d some low row =
      let values = columns_of (written_of (standing (k + 1))) in
      let here : wanted standing (k + 1) ≡ Some values = a_row (standing (k + 1)).state values (λ none. some (ap (λ (s : Standing). s.state) is ∙ none)) in
      let it : get_or rows at d ≡ Int (pos (k + 1)) ∷ values = row ∙ ap (λ s. Int (pos (k + 1)) ∷ columns_of (written_of s)) is in
      let IsSo : ℕ → Type 0 = λ n. take (at + 1) rows ≡ map (shown_by 4) (numbered_from (wanted standing) 0 n) in
      record {
        shown = subst IsSo (sym is_next) (shown_some (wanted standing) 4 rows k at values d (subst (λ n. wanted standing n ≡ Some values) is_next here) refl low (subst (λ n. get_or rows at d ≡ Int (pos n) ∷ values) is_next it) told.shown);
        each = each_more;
      }

pub told_all : (standing : ℕ → Standing) (k n at : ℕ) (rows : List Row) → AreTold standing k (take at rows) → k ≡ n → at ≡ length rows → AreTold standing n rows
told_all standing k n at rows told is whole = subst (λ m. AreTold standing m rows) is (subst (AreTold standing k) (ap (λ m. take m rows) whole ∙ take_all (length rows) rows (omega arith)) told)

-- ---- of rows that tell all, those that come next

room : (k n : ℕ) → k < n → (m : ℕ) × (n ≡ k + suc m)
room k zero low = absurd (omega (arith, low))
room zero (suc n) low = (n, omega arith)
room (suc k) (suc n) low = let it = room k n (omega (arith, low)) in (it.0, omega (arith, it.1))

parted : (w : ℕ → Option Row) (n k m j : ℕ) → n + k ≡ j → numbered_from w n (k + m) ≡ numbered_from w n k ++ numbered_from w j m
parted w n zero m j is = let none : 0 + m ≡ m = omega arith in let e : n ≡ j = omega (arith, is) in ap (numbered_from w n) none ∙ ap (λ i. numbered_from w i m) e
parted w n (suc k) m j is =
    let more : suc k + m ≡ suc (k + m) = omega arith in
    ap (numbered_from w n) more ∙ ap (and_row (suc n) (w (suc n))) (parted w (suc n) k m j (omega (arith, is))) ∙ and_append (suc n) (w (suc n)) (numbered_from w (suc n) k) (numbered_from w j m)

module _ (standing : ℕ → Standing) (count : ℕ) (rows : List Row) (all : AreTold standing count rows) where
  -- behind the rows so far comes that of the next instruction
  pub next_row : (k at : ℕ) → k < count → AreTold standing k (take at rows) → at ≤ length rows → (now : Standing) → now ≡ standing (k + 1) → now.state ≢ NoInstruction
      → (at < length rows) × ((d : Row) → get_or rows at d ≡ Int (pos (k + 1)) ∷ columns_of (written_of now))
  next_row k at low so within now is_now some =
      let w = wanted standing in
      let values = columns_of (written_of (standing (k + 1))) in
      let row : Row = Int (pos (k + 1)) ∷ values in
      let next : k + 1 ≡ suc k = omega arith in
      let here : w (suc k) ≡ Some values = subst (λ n. w n ≡ Some values) next (a_row (standing (k + 1)).state values (λ none. some (ap (λ (s : Standing). s.state) is_now ∙ none))) in
      let m = room k count low in
      let front = map (shown_by 4) (numbered_from w 0 k) in
      let rest = numbered_from w (suc k) m.0 in
      let more = map (shown_by 4) rest in
      let made : numbered_from w 0 count ≡ numbered_from w 0 k ++ row_with (suc k) values ∷ rest =
      ap (numbered_from w 0) m.1 ∙ parted w 0 k (suc m.0) k (omega arith) ∙ ap (λ o. numbered_from w 0 k ++ and_row (suc k) o rest) here in
      let row_is : shown_by 4 (row_with (suc k) values) ≡ row = shown_whole (Int (pos (suc k))) values 4 refl ∙ ap (λ n. Int (pos n) ∷ values) (sym next) in
      let is : rows ≡ front ++ row ∷ more =
      all.shown ∙ ap (map (shown_by 4)) made ∙ map-append (shown_by 4) (numbered_from w 0 k) (row_with (suc k) values ∷ rest) ∙ ap (λ r. front ++ r ∷ more) row_is in
      let size : length front ≡ at = ap length (sym so.shown) ∙ length-take-le at rows within in
      let long : length rows ≡ at + suc (length more) = ap length is ∙ length-append front (row ∷ more) ∙ ap (λ n. n + suc (length more)) size in (
        omega (arith, long),
        λ d. ap (λ xs. get_or xs at d) is ∙ ap (λ n. get_or (front ++ row ∷ more) n d) (sym size) ∙ get_or-append_seam front row more d ∙ ap (λ s. Int (pos (k + 1)) ∷ columns_of (written_of s)) (sym is_now),
      )

  -- no row is left behind those of all numbers
  pub none_left : (at : ℕ) → AreTold standing count (take at rows) → at ≤ length rows → at ≡ length rows
  none_left at so within = sym (length-take-le at rows within) ∙ ap length (so.shown ∙ sym all.shown)

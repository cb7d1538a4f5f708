-- A permutation of the rows of a table of amounts says the same.
use Rattle.std.proofs.Common.{◌≡◌, inl, inr, ℕ, ◌≤◌, Bool, true, false, cond, ◌||◌, List, [], ◌∷◌, filter, sum_by, Some, refl, sym, ap, subst, ◌∙◌, arith}
use Rattle.std.specs.List.{AllByRecursion}
use Rattle.std.specs.List.Sorted.{IsPermutation}
use Rattle.std.specs.Ordering.{is_eq}
use Rattle.std.proofs.lemmas.Bool.{cases_Bool}
use Rattle.std.proofs.lemmas.List.Elements.{recursion_from_All, All-from_recursion}
use Rattle.std.proofs.lemmas.List.Sorted.{All-permutation, IsPermutation-sym, sum_by-IsPermutation}
use Rattle.std.proofs.lemmas.List.Sums.{sum_by-cons}
use Rattle.sqlite.specs.Order.{Row, value_cmp}
use Rattle.sqlite.specs.Tree.{IsAscending, IsTable, rowid}
use Rattle.sql_rows.specs.declared.amounts.key.Ledger.{Ledger}
use Rattle.sql_rows.specs.Keys.{Texts, same_texts}
use Rattle.sql_rows.specs.Amounts.{AreAmountRows, AreApart, IsAmountTable, IsKeyed, IsStored, amount_on, is_at, recorded, texts_in}
use Rattle.sql_tables.specs.Queries.{Among}
use Rattle.sql_tables.proofs.QueryLemmas.{all_among, among_filter, at_among, filter_among, none_among, only_one}
use Rattle.sql_rows.proofs.AmountRowLemmas.{flip_apart, once, recorded_none, recorded_one, same_self}

-- ---- rows are apart exactly where none conflicts with one but itself

-- two rows are not apart
abbrev conflicts : Row → Row → Bool
conflicts r s = same_texts (texts_in r) (texts_in s) || is_eq (value_cmp (rowid r) (rowid s))

no_part : (a b : Bool) → (a || b) ≡ false → (a ≡ false) × (b ≡ false)
no_part false false h = (refl, refl)
no_part false true h = absurd (cc)
no_part true b h = absurd (cc)

apart_of : (r s : Row) → conflicts r s ≡ false → AreApart r s
apart_of r s h = let parts = no_part (same_texts (texts_in r) (texts_in s)) (is_eq (value_cmp (rowid r) (rowid s))) h in record { texts = parts.0; rowids = parts.1 }

no_conflict : (r s : Row) → AreApart r s → conflicts r s ≡ false
no_conflict r s h = ap (λ b. b || is_eq (value_cmp (rowid r) (rowid s))) h.texts ∙ h.rowids

with_itself : (r : Row) → conflicts r r ≡ true
with_itself r = ap (λ b. b || is_eq (value_cmp (rowid r) (rowid r))) (same_self (texts_in r))

abbrev conflict : Row → Row → ℕ
conflict r s = cond (conflicts r s) 1 0

-- how many rows conflict with one
abbrev count : Row → List Row → ℕ
count r rows = sum_by (conflict r) rows

none_of : (r : Row) (rows : List Row) → AllByRecursion (AreApart r) rows → count r rows ≡ 0
none_of r [] all = refl
none_of r (x ∷ xs) all =
    let own : conflict r x ≡ 0 = ap (λ b. cond b 1 0) (no_conflict r x all.0) in
    let more = none_of r xs all.1 in
    let both = sum_by-cons (conflict r) x xs in
    omega (arith, own, more, both)

apart_all : (r : Row) (rows : List Row) → count r rows ≡ 0 → AllByRecursion (AreApart r) rows
apart_all r [] none = tt
apart_all r (x ∷ xs) none = elim (cases_Bool (conflicts r x)) [
  | inl here ↦ (let own : conflict r x ≡ 1 = ap (λ b. cond b 1 0) here in let both = sum_by-cons (conflict r) x xs in absurd (omega (arith, own, both, none)))
  | inr apart ↦ (let both = sum_by-cons (conflict r) x xs in let more : count r xs ≡ 0 = omega (arith, both, none) in (apart_of r x apart, apart_all r xs more))
]

-- no row of a list conflicts with more than one of another
abbrev AreOnce : List Row → List Row → Type 0
AreOnce rows ys = AllByRecursion (λ r. count r rows ≤ 1) ys

lift_once : (x : Row) (xs ys : List Row) → AllByRecursion (AreApart x) ys → AreOnce xs ys → AreOnce (x ∷ xs) ys
lift_once x xs [] apart once' = tt
lift_once x xs (y ∷ ys) apart once' =
    let own : conflict y x ≡ 0 = ap (λ b. cond b 1 0) (no_conflict y x (flip_apart x y apart.0)) in
    let both = sum_by-cons (conflict y) x xs in
    let low = once'.0 in
    (omega (arith, own, both, low), lift_once x xs ys apart.1 once'.1)

lower_once : (x : Row) (xs ys : List Row) → AreOnce (x ∷ xs) ys → AreOnce xs ys
lower_once x xs [] once' = tt
lower_once x xs (y ∷ ys) once' = let both = sum_by-cons (conflict y) x xs in let low = once'.0 in (omega (arith, both, low), lower_once x xs ys once'.1)

once_each : (rows : List Row) → IsAscending AreApart rows → AreOnce rows rows
once_each [] up = tt
once_each (x ∷ xs) up =
    let own : conflict x x ≡ 1 = ap (λ b. cond b 1 0) (with_itself x) in
    let others = none_of x xs up.0 in
    let both = sum_by-cons (conflict x) x xs in
    (omega (arith, own, others, both), lift_once x xs xs up.0 (once_each xs up.1))

apart_each : (rows : List Row) → AreOnce rows rows → IsAscending AreApart rows
apart_each [] once' = tt
apart_each (x ∷ xs) once' =
    let own : conflict x x ≡ 1 = ap (λ b. cond b 1 0) (with_itself x) in
    let both = sum_by-cons (conflict x) x xs in
    let low = once'.0 in
    let none : count x xs ≡ 0 = omega (arith, own, both, low) in
    (apart_all x xs none, apart_each xs (lower_once x xs xs once'.1))

-- ---- a permutation

all_permuted : (P : Row → Type 0) (rows others : List Row) → IsPermutation rows others → AllByRecursion P rows → AllByRecursion P others
all_permuted P rows others same all = recursion_from_All P others (All-permutation P rows others same (All-from_recursion P rows all))

counted_in : (rows others ys : List Row) → IsPermutation rows others → AreOnce rows ys → AreOnce others ys
counted_in rows others [] same once' = tt
counted_in rows others (y ∷ ys) same once' =
    let equal = sum_by-IsPermutation (conflict y) rows others same in
    let low = once'.0 in
    (omega (arith, equal, low), counted_in rows others ys same once'.1)

permuted_apart : (rows others : List Row) → IsPermutation rows others → IsAscending AreApart rows → IsAscending AreApart others
permuted_apart rows others same apart = apart_each others (counted_in rows others others same (all_permuted (λ r. count r rows ≤ 1) rows others same (once_each rows apart)))

-- of rows that are well formed a permutation is, if it is in order
pub permuted_rows : (rows others : List Row) → IsPermutation rows others → AreAmountRows rows → IsTable others → AreAmountRows others
permuted_rows rows others same all order = record { stored = all_permuted IsStored rows others same all.stored; apart = permuted_apart rows others same all.apart; order = order }

-- and each says 0 or is a key's, if it was so
pub permuted_table : (ledger : Ledger) (rows others : List Row) → IsPermutation rows others → IsAmountTable ledger rows → IsTable others → IsAmountTable ledger others
permuted_table ledger rows others same table order = record { are = permuted_rows rows others same table.are order; keyed = all_permuted (IsKeyed ledger) rows others same table.keyed }

found_in : (rows others : List Row) (texts : Texts) (r : Row) → IsPermutation rows others → filter (is_at texts) rows ≡ r ∷ [] → Among (filter (is_at texts) others) r
found_in rows others texts r same one =
    let at = among_filter (is_at texts) rows r (subst (λ xs. Among xs r) (sym one) (inl refl)) in
    let back = all_permuted (Among others) others rows (IsPermutation-sym rows others same) (all_among others) in
    filter_among (is_at texts) others r (at_among (Among others) rows back r at.0) at.1

-- and it records the same
pub permuted_recorded : (rows others : List Row) → IsPermutation rows others → AreAmountRows rows → (texts : Texts) → recorded others texts ≡ recorded rows texts
permuted_recorded rows others same all texts =
    let there = permuted_apart rows others same all.apart in
    elim (once texts rows all.apart) [
      | inl none ↦ elim (once texts others there) [
        | inl neither ↦ recorded_none texts others neither ∙ sym (recorded_none texts rows none)
        | inr one ↦ absurd (none_among (filter (is_at texts) rows) one.0 none (found_in others rows texts one.0 (IsPermutation-sym rows others same) one.1))
      ]
      | inr one ↦ (let found = found_in rows others texts one.0 same one.1 in
          elim (once texts others there) [
            | inl none ↦ absurd (none_among (filter (is_at texts) others) one.0 none found)
            | inr other ↦ recorded_one texts others other.0 [] other.1 ∙ ap (λ r. Some (amount_on r)) (sym (only_one (filter (is_at texts) others) other.0 one.0 other.1 found)) ∙ sym (recorded_one texts rows one.0 [] one.1)
          ])
    ]

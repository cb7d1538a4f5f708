-- When a table that was looked up number by number is the list that was computed.
use Rattle.std.proofs.Common.{◌≡◌, inl, inr, ℕ, zero, suc, ◌+◌, ◌<◌, ◌≤◌, ◌==◌, ℤ, pos, negsuc, List, [], ◌∷◌, length, map, filter, Bool, true, false, Option, Some, None, refl, sym, ap, subst, ◌∙◌, arith}
use Rattle.std.specs.List.{AllByRecursion}
use Rattle.std.specs.List.Sorted.{IsPermutation}
use Rattle.std.specs.Ordering.{is_gt, is_lt}
use Rattle.std.proofs.lemmas.Bool.{both_ways, cases_Bool, cases_lt, eq-eqb, le-ltb}
use Rattle.std.proofs.lemmas.List.{nil_from_length}
use Rattle.std.proofs.lemmas.List.Sorted.{length_permutation, IsPermutation-sym}
use Rattle.sqlite.specs.declared.types.Value.TheVariants.{Int}
use Rattle.sqlite.specs.Ops.{binary}
use Rattle.sqlite.specs.Order.{Row, value_cmp}
use Rattle.sqlite.specs.Table.{Table}
use Rattle.sqlite.specs.Tree.{IsTable}
use Rattle.sqlite.proofs.Callers.{one_permutation}
use Rattle.sqlite_trees.proofs.ListLemmas.{all-filter}
use Rattle.sqlite_value.proofs.OrderLemmas.{value_cmp-Int}
use Rattle.sql_tables.specs.Queries.{Among}
use Rattle.sql_tables.proofs.QueryLemmas.{all_among, among_filter, filter_among, map_nil, none_among, only_one}
use Rattle.sql_tables.proofs.ValueLemmas.{and_true, equal_test, number_below, number_equal, number_greater, number_less, truth_of}
use Rattle.sql_tables.specs.Forms.{HasForm}
use Rattle.sql_tables.specs.ByNumber.{has_number, is_above, is_below, HasEach, HasNoOther, HasOne}
use Rattle.sql_tables.specs.Numbered.{and_row, numbered_from, row_with}
use Rattle.sql_tables.specs.Whole.{shown_by}
use Rattle.sql_tables.proofs.NumberedLemmas.{each_row, rises}
use Rattle.sql_tables.proofs.RowLemmas.{same_rows, shown_once, shown_whole, whole, IsNumbered}

-- ---- which rows pass the tests

module _ (z : ℤ) (values : Row) where
  above_test : (m : ℕ) → is_above m (Int z ∷ values) ≡ is_gt (value_cmp (Int z) (Int (pos m)))
  unfolding binary
  above_test m = rw (truth_of (is_gt (value_cmp (Int z) (Int (pos m))))) (and_true (is_gt (value_cmp (Int z) (Int (pos m)))))

  below_test : (m : ℕ) → is_below m (Int z ∷ values) ≡ is_lt (value_cmp (Int z) (Int (pos m)))
  unfolding binary
  below_test m = rw (truth_of (is_lt (value_cmp (Int z) (Int (pos m))))) (and_true (is_lt (value_cmp (Int z) (Int (pos m)))))

pub number_told : (n m : ℕ) (values : Row) → has_number m (Int (pos n) ∷ values) ≡ (n == m)
unfolding binary
number_told n m values = rw (equal_test n m) (and_true (n == m))

number_test : (m : ℕ) (values : Row) → has_number m (Int (pos m) ∷ values) ≡ true
number_test m values = number_told m m values ∙ eq-eqb m m refl

pub is_not_above : (n count : ℕ) (values : Row) → n ≤ count → is_above count (Int (pos n) ∷ values) ≡ false
is_not_above n count values high = above_test (pos n) values count ∙ elim (cases_lt n count) [
  | inl low ↦ ap is_gt (number_less n count low)
  | inr at ↦ (let same : n ≡ count = omega (arith, high, at) in subst (λ k. is_gt (value_cmp (Int (pos n)) (Int (pos k))) ≡ false) same (ap is_gt (number_equal n)))
]

pub is_not_below : (n : ℕ) (values : Row) → 0 < n → is_below 1 (Int (pos n) ∷ values) ≡ false
is_not_below n values some = below_test (pos n) values 1 ∙ number_below n 1 ∙ le-ltb n 1 (omega (arith, some))

within : (z : ℤ) (count : ℕ) → is_gt (value_cmp (Int z) (Int (pos count))) ≡ false → is_lt (value_cmp (Int z) (Int (pos 1))) ≡ false → (m : ℕ) × (z ≡ pos m) × (0 < m) × (m ≤ count)
within (pos m) count high low = (
  m,
  refl,
  elim (cases_lt 0 m) [ inl some ↦ some | inr none ↦ absurd (both_ways (is_lt (value_cmp (Int (pos m)) (Int (pos 1)))) low (ap is_lt (number_less m 1 (omega (arith, none))))) ],
  elim (cases_lt count m) [ inl above ↦ absurd (both_ways (is_gt (value_cmp (Int (pos m)) (Int (pos count)))) high (ap is_gt (number_greater m count above))) | inr at ↦ at ],
)
within (negsuc k) count high low = absurd (both_ways (is_lt (value_cmp (Int (negsuc k)) (Int (pos 1)))) low (ap is_lt (value_cmp-Int (negsuc k) (pos 1))))

none_pass : (p : Row → Bool) (rows : List Row) (r : Row) → filter p rows ≡ [] → Among rows r → p r ≡ false
none_pass p rows r none at = elim (cases_Bool (p r)) [ inl passes ↦ absurd (none_among (filter p rows) r none (filter_among p rows r at passes)) | inr fails ↦ fails ]

-- ---- the row of a number, where a query shows it

-- a query shows nothing where there is nothing
pub nothing_there : (f : Row → Row) (mine rows : List Row) → IsPermutation (map f mine) rows → rows ≡ [] → mine ≡ []
nothing_there f mine rows same none = map_nil f mine (nil_from_length (map f mine) (sym (length_permutation (map f mine) rows same) ∙ ap length none))

-- and where there is nothing, it shows nothing
pub nothing_shown : (f : Row → Row) (mine rows : List Row) → IsPermutation (map f mine) rows → mine ≡ [] → rows ≡ []
nothing_shown f mine rows same none = nil_from_length rows (length_permutation (map f mine) rows same ∙ ap (λ xs. length (map f xs)) none)

-- the row of a number, where it is there alone, is all that a query shows
pub shows_it : (n : ℕ) (rows shown : List Row) (number : ℕ) (values : Row) → length values ≡ n → IsPermutation (map (shown_by n) (filter (has_number number) rows)) shown → HasOne rows number values
    → shown ≡ (Int (pos number) ∷ values) ∷ []
shows_it n rows shown number values size same one =
    one_permutation (Int (pos number) ∷ values) shown (subst (λ xs. IsPermutation xs shown) (ap (map (shown_by n)) one ∙ ap (λ r. r ∷ []) (shown_whole (Int (pos number)) values n size)) same)

pub is_its_row : (table : Table) (n : ℕ) → IsNumbered table n → (rows shown : List Row) (number : ℕ) (values : Row) → length values ≡ n → AllByRecursion (HasForm table) rows
    → IsPermutation (map (shown_by n) (filter (has_number number) rows)) shown → shown ≡ (Int (pos number) ∷ values) ∷ [] → HasOne rows number values
is_its_row table n numbered rows shown number values size formed same is =
    let mine = filter (has_number number) rows in
    let back = IsPermutation-sym (map (shown_by n) mine) shown same in
    let only : map (shown_by n) mine ≡ (Int (pos number) ∷ values) ∷ [] = one_permutation (Int (pos number) ∷ values) (map (shown_by n) mine) (subst (λ xs. IsPermutation xs (map (shown_by n) mine)) is back) in
    go mine (all-filter (HasForm table) (has_number number) rows formed) only
  where
    go : (mine : List Row) → AllByRecursion (HasForm table) mine → map (shown_by n) mine ≡ (Int (pos number) ∷ values) ∷ [] → mine ≡ row_with number values ∷ []
    go [] forms only = absurd (cc)
    go (r ∷ []) forms only =
        let first : shown_by n r ≡ Int (pos number) ∷ values = cc in
        let other = shown_whole (Int (pos number)) values n size in
        ap (λ x. x ∷ []) (shown_once n r (row_with number values) (whole table n numbered r forms.0) (record { number = Int (pos number); values = values; is = refl; size = size }) (first ∙ sym other))
    go (r ∷ (s ∷ more)) forms only = absurd (cc)

-- ---- the rows that are computed

among_and : (n : ℕ) (w : Option Row) (rows : List Row) (r : Row) → Among rows r → Among (and_row n w rows) r
among_and n None rows r at = at
among_and n (Some values) rows r at = inr at

among_own : (n : ℕ) (w : Option Row) (values : Row) (rows : List Row) → w ≡ Some values → Among (and_row n w rows) (row_with n values)
among_own n w values rows is = subst (λ x. Among (and_row n x rows) (row_with n values)) (sym is) (inl refl)

same_values : (w : Option Row) (values others : Row) → w ≡ Some values → w ≡ Some others → values ≡ others
same_values w values others one two = (let e : Some values ≡ Some others = sym one ∙ two in cc)

module _ (wanted : ℕ → Option Row) where
  -- a row that is wanted is there
  pub among_made : (n k m : ℕ) (values : Row) → n < m → m ≤ n + k → wanted m ≡ Some values → Among (numbered_from wanted n k) (row_with m values)
  among_made n zero m values low high is = absurd (omega (arith, low, high))
  among_made n (suc k) m values low high is = elim (cases_lt (suc n) m) [
    | inl later ↦ among_and (suc n) (wanted (suc n)) (numbered_from wanted (suc n) k) (row_with m values) (among_made (suc n) k m values later (omega (arith, high)) is)
    | inr here ↦ (let same : suc n ≡ m = omega (arith, low, here) in
        subst (λ j. Among (numbered_from wanted n (suc k)) (row_with j values)) same
        (among_own (suc n) (wanted (suc n)) values (numbered_from wanted (suc n) k) (subst (λ j. wanted j ≡ Some values) (sym same) is)))
  ]

  module _ (table : Table) (rows : List Row) (count : ℕ) (told : HasEach wanted rows count) (none : HasNoOther rows count) where
    one_there : (r : Row) → HasForm table r → Among rows r → Among (numbered_from wanted 0 count) r
    one_there r form at =
        let high : is_gt (value_cmp (Int form.number) (Int (pos count))) ≡ false = sym (above_test form.number form.values count) ∙ ap (is_above count) (sym form.is) ∙ none_pass (is_above count) rows r none.above at in
        let low : is_lt (value_cmp (Int form.number) (Int (pos 1))) ≡ false = sym (below_test form.number form.values 1) ∙ ap (is_below 1) (sym form.is) ∙ none_pass (is_below 1) rows r none.below at in
        let m = within form.number count high low in
        let it = told.each m.0 m.2 m.3 in
        let is : r ≡ Int (pos m.0) ∷ form.values = form.is ∙ ap (λ z. Int z ∷ form.values) m.1 in
        let passes : has_number m.0 r ≡ true = ap (has_number m.0) is ∙ number_test m.0 form.values in
        let same : r ≡ row_with m.0 it.0 = only_one (filter (has_number m.0) rows) (row_with m.0 it.0) r it.2 (filter_among (has_number m.0) rows r at passes) in
        subst (Among (numbered_from wanted 0 count)) (sym same) (among_made 0 count m.0 it.0 m.2 (omega (arith, m.3)) it.1)

    all_there : (some : List Row) → AllByRecursion (HasForm table) some → AllByRecursion (Among rows) some → AllByRecursion (Among (numbered_from wanted 0 count)) some
    all_there [] forms at = tt
    all_there (r ∷ rs) forms at = (one_there r forms.0 at.0, all_there rs forms.1 at.1)

    each_there : AllByRecursion (Among rows) (numbered_from wanted 0 count)
    each_there = each_row wanted (Among rows) 0 count (λ m values low high is.
        let it = told.each m low (omega (arith, high)) in
        let same = same_values (wanted m) it.0 values it.1 is in
        (among_filter (has_number m) rows (row_with m values) (subst (λ ys. Among ys (row_with m values)) (sym (it.2 ∙ ap (λ vs. row_with m vs ∷ []) same)) (inl refl))).0)

    pub same_list : IsTable rows → AllByRecursion (HasForm table) rows → rows ≡ numbered_from wanted 0 count
    same_list up forms = same_rows rows (numbered_from wanted 0 count) up (rises wanted 0 count) (all_there rows forms (all_among rows)) each_there

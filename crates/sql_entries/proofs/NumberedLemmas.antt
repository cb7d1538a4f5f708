-- The first and the last of numbered rows that pass a test.
use Rattle.std.proofs.Common.{◌≡◌, inl, inr, ℕ, ◌+◌, ◌<◌, ◌≤◌, pos, List, [], ◌∷◌, map, filter, Bool, true, false, cond, refl, sym, ap, subst, ◌∙◌, arith}
use Rattle.std.specs.List.{AllByRecursion}
use Rattle.std.specs.Ordering.{is_lt}
use Rattle.std.proofs.lemmas.Bool.{cases_Bool, both_ways}
use Rattle.sqlite.specs.Order.{Row}
use Rattle.sqlite.specs.declared.types.Value.{Value}
use Rattle.sqlite.specs.declared.types.Value.TheVariants.{Int}
use Rattle.sqlite.specs.Term.{Term, eval, eval_all}
use Rattle.sqlite.specs.Tree.{IsAscending}
use Rattle.sqlite_value.specs.declared.keys.Key.{Key}
use Rattle.sqlite_value.specs.Keys.{by_key}
use Rattle.sql_tables.specs.Queries.{rising, falling, Among, IsFirst}
use Rattle.sql_tables.proofs.QueryLemmas.{among_map, among_of, at_among}
use Rattle.sql_tables.proofs.ValueLemmas.{number_less}

-- what a row is made of, with its number
abbrev pub Numbered : Type 0 → Type 0
Numbered X = ℕ × X

-- rows whose numbers go on from n
abbrev pub numbered : {X : Type 0} → (ℕ → X → Row) → ℕ → List X → List Row
numbered row n [] = []
numbered row n (x ∷ xs) = row (n + 1) x ∷ numbered row (n + 1) xs

-- those that pass
abbrev pub found : {X : Type 0} → (X → Bool) → ℕ → List X → List (Numbered X)
found passes n [] = []
found passes n (x ∷ xs) = cond (passes x) ((n + 1, x) ∷ found passes (n + 1) xs) (found passes (n + 1) xs)

abbrev pub row_at : {X : Type 0} → (ℕ → X → Row) → Numbered X → Row
row_at row it = row it.0 it.1

abbrev pub show_first : {A : Type 0} → (A → Row) → List A → List Row
show_first shows [] = []
show_first shows (a ∷ more) = shows a ∷ []

abbrev pub show_last : {A : Type 0} → (A → Row) → List A → List Row
show_last shows [] = []
show_last shows (a ∷ []) = shows a ∷ []
show_last shows (a ∷ (b ∷ more)) = show_last shows (b ∷ more)

pub filter_numbered : {X : Type 0} (row : ℕ → X → Row) (test : Row → Bool) (passes : X → Bool) → ((n : ℕ) (x : X) → test (row n x) ≡ passes x) → (n : ℕ) (xs : List X)
    → filter test (numbered row n xs) ≡ map (row_at row) (found passes n xs)
filter_numbered row test passes same n [] = refl
filter_numbered row test passes same n (x ∷ xs) = elim (cases_Bool (passes x)) [
  | inl here ↦ rw (same (n + 1) x, here) (ap (λ rows. row (n + 1) x ∷ rows) (filter_numbered row test passes same (n + 1) xs))
  | inr apart ↦ rw (same (n + 1) x, apart) (filter_numbered row test passes same (n + 1) xs)
]

-- ---- numbers rise

all_above : {X : Type 0} (passes : X → Bool) (low n : ℕ) (xs : List X) → low ≤ n → AllByRecursion (λ (it : Numbered X). low < it.0) (found passes n xs)
all_above passes low n [] le = tt
all_above {X} passes low n (x ∷ xs) le = elim (cases_Bool (passes x)) [
  | inl here ↦ rw here (omega arith, all_above passes low (n + 1) xs (omega arith))
  | inr apart ↦ rw apart (all_above passes low (n + 1) xs (omega arith))
]

pub found_rise : {X : Type 0} (passes : X → Bool) (n : ℕ) (xs : List X) → IsAscending (λ (a b : Numbered X). a.0 < b.0) (found passes n xs)
found_rise passes n [] = tt
found_rise passes n (x ∷ xs) = elim (cases_Bool (passes x)) [
  | inl here ↦ rw here (all_above passes (n + 1) (n + 1) xs (omega arith), found_rise passes (n + 1) xs)
  | inr apart ↦ rw apart (found_rise passes (n + 1) xs)
]

-- one value stands before another in the order of a query
abbrev pub is_before : Key → Value → Value → Bool
is_before key a b = is_lt (by_key key a b)

before_by_number : (m n : ℕ) → m < n → is_before rising (Int (pos m)) (Int (pos n)) ≡ true
before_by_number m n low = ap is_lt (number_less m n low)

-- ---- the first and the last

module _ {X : Type 0} (row : ℕ → X → Row) (params : Row) (shown : List Term) (by : Term) (shows : Numbered X → Row) (of_key : (it : Numbered X) → eval by (params ∷ row_at row it ∷ []) ≡ Int (pos it.0))
    (shows_is : (it : Numbered X) → eval_all shown (params ∷ row_at row it ∷ []) ≡ shows it) (rows : List Row) where
  pub first_shown : (all : List (Numbered X)) → IsAscending (λ (a b : Numbered X). a.0 < b.0) all → IsFirst (map (row_at row) all) params shown by rising rows → rows ≡ show_first shows all
  first_shown [] rise (inl none) = none.0
  first_shown [] rise (inr one) = absurd one.1
  first_shown (a ∷ more) rise (inl none) = absurd (let e = none.1 in cc)
  first_shown (a ∷ more) rise (inr one) = (let it = among_map (row_at row) (a ∷ more) one.0 one.1 in go it.0 it.1 it.2)
    where
      go : (b : Numbered X) → Among (a ∷ more) b → one.0 ≡ row_at row b → rows ≡ shows a ∷ []
      go b (inl here) is = one.2 ∙ ap (λ r. eval_all shown (params ∷ r ∷ []) ∷ []) (is ∙ ap (row_at row) here) ∙ ap (λ r. r ∷ []) (shows_is a)
      go b (inr later) is =
          let low : a.0 < b.0 = at_among (λ (b : Numbered X). a.0 < b.0) more rise.0 b later in
          let not_before = one.3 (row_at row a) (inl refl) in
          let e : is_before rising (Int (pos a.0)) (Int (pos b.0)) ≡ false = ap (λ v. is_before rising v (Int (pos b.0))) (sym (of_key a)) ∙ ap (is_before rising (eval by (params ∷ row_at row a ∷ []))) (sym (of_key b) ∙ ap (λ r. eval by (params ∷ r ∷ [])) (sym is)) ∙ not_before in
          absurd (both_ways _ e (before_by_number a.0 b.0 low))

  pub last_shown : (all : List (Numbered X)) → IsAscending (λ (a b : Numbered X). a.0 < b.0) all → IsFirst (map (row_at row) all) params shown by falling rows → rows ≡ show_last shows all
  last_shown [] rise (inl none) = none.0
  last_shown [] rise (inr one) = absurd one.1
  last_shown (a ∷ more) rise (inl none) = absurd (let e = none.1 in cc)
  last_shown (a ∷ []) rise (inr one) = (let it = among_map (row_at row) (a ∷ []) one.0 one.1 in go it.0 it.1 it.2)
    where
      go : (b : Numbered X) → Among (a ∷ []) b → one.0 ≡ row_at row b → rows ≡ shows a ∷ []
      go b (inl here) is = one.2 ∙ ap (λ r. eval_all shown (params ∷ r ∷ []) ∷ []) (is ∙ ap (row_at row) here) ∙ ap (λ r. r ∷ []) (shows_is a)
      go b (inr later) is = absurd later
  last_shown (a ∷ (b ∷ more)) rise (inr one) = (let it = among_map (row_at row) (a ∷ (b ∷ more)) one.0 one.1 in go (last_shown (b ∷ more) rise.1) it.0 it.1 it.2)
    where
      go : (IsFirst (map (row_at row) (b ∷ more)) params shown by falling rows → rows ≡ show_last shows (b ∷ more)) → (c : Numbered X) → Among (a ∷ (b ∷ more)) c → one.0 ≡ row_at row c
          → rows ≡ show_last shows (b ∷ more)
      go rest c (inr later) is = rest (inr (one.0, subst (Among (map (row_at row) (b ∷ more))) (sym is) (among_of (row_at row) (b ∷ more) c later), one.2, λ s among. one.3 s (inr among)))
      go rest c (inl here) is =
          let not_before = one.3 (row_at row b) (inr (inl refl)) in
          let same : one.0 ≡ row_at row a = is ∙ ap (row_at row) here in
          let e : is_before falling (Int (pos b.0)) (Int (pos a.0)) ≡ false = ap (λ v. is_before falling v (Int (pos a.0))) (sym (of_key b)) ∙ ap (is_before falling (eval by (params ∷ row_at row b ∷ []))) (sym (of_key a) ∙ ap (λ r. eval by (params ∷ r ∷ [])) (sym same)) ∙ not_before in
          absurd (both_ways _ e (before_by_number a.0 b.0 rise.0.0))

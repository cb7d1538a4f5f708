-- What queries of one table show, and what is found among its rows: of any table.
use Rattle.std.proofs.Common.{◌≡◌, inl, inr, ℕ, ◌+◌, ◌<◌, ◌≤◌, List, [], ◌∷◌, length, map, filter, get_or, Bool, true, false, cond, All, refl, sym, ap, subst, ◌∙◌, arith}
use Rattle.std.specs.List.{AllByRecursion, flat_map}
use Rattle.std.specs.List.Sorted.{IsPermutation}
use Rattle.std.specs.Ordering.{is_lt}
use Rattle.std.proofs.lemmas.Bool.{cases_Bool}
use Rattle.std.proofs.lemmas.List.{nil_from_length}
use Rattle.std.proofs.lemmas.List.MinMax.{ranks_by}
use Rattle.std.proofs.lemmas.List.Sorted.{IsPermutation-sym, IsPermutation-map, All-permutation, length_permutation, sorted_far}
use Rattle.std.proofs.lemmas.List.Elements.{recursion_from_All, All-from_recursion}
use Rattle.sqlite.specs.Order.{Row, column}
use Rattle.sqlite_value.specs.declared.keys.Key.{Key}
use Rattle.sqlite_value.specs.Keys.{by_key}
use Rattle.sqlite_value.proofs.KeyLemmas.{by_key_total}
use Rattle.sqlite_value.proofs.OrderLemmas.{then-Equal}
use Rattle.sqlite.specs.Term.{Term, Env, eval_all}
use Rattle.sqlite.specs.Query.{Query, inner, end, matches, IsAnswer, output, page, Output}
use Rattle.sqlite.specs.Tree.{Trees}
use Rattle.sql_tables.specs.Queries.{plain, first_of, passes_all, Among, IsFirst}

-- ---- what is among the elements of a list

all_later : {X : Type 0} (ys : List X) (y : X) (xs : List X) → AllByRecursion (Among ys) xs → AllByRecursion (Among (y ∷ ys)) xs
all_later ys y [] all = tt
all_later ys y (x ∷ xs) all = (inr all.0, all_later ys y xs all.1)

pub all_among : {X : Type 0} (xs : List X) → AllByRecursion (Among xs) xs
all_among [] = tt
all_among (x ∷ xs) = (inl refl, all_later xs x xs (all_among xs))

pub among_map : {X Y : Type 0} (f : X → Y) (xs : List X) (y : Y) → Among (map f xs) y → (x : X) × Among xs x × (y ≡ f x)
among_map f [] y h = absurd h
among_map f (x ∷ xs) y (inl here) = (x, inl refl, here)
among_map f (x ∷ xs) y (inr later) = let it = among_map f xs y later in (it.0, inr it.1, it.2)

pub at_among : {X : Type 0} (P : X → Type 0) (xs : List X) → AllByRecursion P xs → (x : X) → Among xs x → P x
at_among P [] all x h = absurd h
at_among P (y ∷ ys) all x (inl here) = subst P (sym here) all.0
at_among P (y ∷ ys) all x (inr later) = at_among P ys all.1 x later

pub among_of : {X Y : Type 0} (f : X → Y) (xs : List X) (x : X) → Among xs x → Among (map f xs) (f x)
among_of f [] x h = absurd h
among_of f (y ∷ ys) x (inl here) = inl (ap f here)
among_of f (y ∷ ys) x (inr later) = inr (among_of f ys x later)

pub among_filter : {X : Type 0} (p : X → Bool) (xs : List X) (x : X) → Among (filter p xs) x → Among xs x × (p x ≡ true)
among_filter p [] x h = absurd h
among_filter p (y ∷ ys) x h = elim (cases_Bool (p y)) [
  | inl passes ↦ elim (subst (λ zs. Among zs x) (ap (λ b. cond b (y ∷ filter p ys) (filter p ys)) passes) h) [
    | inl here ↦ (inl here, ap p here ∙ passes)
    | inr later ↦ (let it = among_filter p ys x later in (inr it.0, it.1))
  ]
  | inr fails ↦ (let it = among_filter p ys x (subst (λ zs. Among zs x) (ap (λ b. cond b (y ∷ filter p ys) (filter p ys)) fails) h) in (inr it.0, it.1))
]

pub filter_among : {X : Type 0} (p : X → Bool) (xs : List X) (x : X) → Among xs x → p x ≡ true → Among (filter p xs) x
filter_among p [] x h is = absurd h
filter_among p (y ∷ ys) x (inl here) is = subst (λ zs. Among zs x) (sym (ap (λ b. cond b (y ∷ filter p ys) (filter p ys)) (ap p (sym here) ∙ is))) (inl here)
filter_among p (y ∷ ys) x (inr later) is = elim (cases_Bool (p y)) [
  | inl passes ↦ subst (λ zs. Among zs x) (sym (ap (λ b. cond b (y ∷ filter p ys) (filter p ys)) passes)) (inr (filter_among p ys x later is))
  | inr fails ↦ subst (λ zs. Among zs x) (sym (ap (λ b. cond b (y ∷ filter p ys) (filter p ys)) fails)) (filter_among p ys x later is)
]

pub only_one : {X : Type 0} (xs : List X) (r x : X) → xs ≡ r ∷ [] → Among xs x → x ≡ r
only_one xs r x one h = elim (subst (λ ys. Among ys x) one h) [ inl same ↦ same | inr none ↦ absurd none ]

pub none_among : {X : Type 0} (xs : List X) (x : X) → xs ≡ [] → Among xs x → ⊥
none_among xs x none h = subst (λ ys. Among ys x) none h

-- ---- which rows are found

pub map_nil : {X Y : Type 0} (f : X → Y) (xs : List X) → map f xs ≡ [] → xs ≡ []
map_nil f [] h = refl
map_nil f (x ∷ xs) h = absurd (cc)

-- tests that agree on the rows find the same
pub same_found : {X : Type 0} (P : X → Type 0) (p q : X → Bool) (xs : List X) → ((x : X) → P x → p x ≡ q x) → AllByRecursion P xs → filter p xs ≡ filter q xs
same_found P p q [] same all = refl
same_found P p q (x ∷ xs) same all = ap (λ b. cond b (x ∷ filter p xs) (filter p xs)) (same x all.0) ∙ ap (λ ys. cond (q x) (x ∷ ys) ys) (same_found P p q xs same all.1)

pub all_kept : {X : Type 0} (xs : List X) → filter (λ x. true) xs ≡ xs
all_kept [] = refl
all_kept (x ∷ xs) = ap (λ ys. x ∷ ys) (all_kept xs)

-- ---- what a query shows

one_each : {X Y : Type 0} (p : X → Bool) (f : X → Y) (xs : List X) → flat_map (λ x. cond (p x) (f x ∷ []) []) xs ≡ map f (filter p xs)
one_each p f [] = refl
one_each p f (x ∷ xs) = elim (cases_Bool (p x)) [
  | inl here ↦ rw here (ap (λ ys. f x ∷ ys) (one_each p f xs))
  | inr apart ↦ rw apart (one_each p f xs)
]

-- a query with no order shows the rows that pass, in any order
pub plain_rows : (tree : ℕ) (tests shown : List Term) (db : Trees) (params : Row) (rows : List Row) → IsAnswer (plain tree tests shown) db params rows
    → IsPermutation (map (λ row. eval_all shown (params ∷ row ∷ [])) (filter (passes_all tests params) (db tree))) rows
plain_rows tree tests shown db params rows a =
    let q = plain tree tests shown in
    let test = passes_all tests params in
    let env : Row → Env = λ row. params ∷ row ∷ [] in
    let found : matches db tests (inner tree end) (params ∷ []) ≡ map env (filter test (db tree)) = one_each test env (db tree) in
    let kept : a.kept ≡ map (output q) (map env (filter test (db tree))) = a.distinct ∙ ap (map (output q)) (a.grouped ∙ found) in
    let moved = IsPermutation-map (λ (o : Output). o.1) a.kept a.ordered a.same in
    let left : map (λ (o : Output). o.1) a.kept ≡ map (λ row. eval_all shown (params ∷ row ∷ [])) (filter test (db tree)) = ap (map (λ (o : Output). o.1)) kept ∙ three (filter test (db tree)) in
    subst (λ xs. IsPermutation (map (λ row. eval_all shown (params ∷ row ∷ [])) (filter test (db tree))) xs) (sym a.shown) (subst (λ xs. IsPermutation xs (map (λ (o : Output). o.1) a.ordered)) left moved)
  where
    three : (xs : List Row) → map (λ (o : Output). o.1) (map (output (plain tree tests shown)) (map (λ (row : Row). params ∷ row ∷ []) xs)) ≡ map (λ row. eval_all shown (params ∷ row ∷ [])) xs
    three [] = refl
    three (x ∷ xs) = ap (λ ys. eval_all shown (params ∷ x ∷ []) ∷ ys) (three xs)

module _ (tree : ℕ) (tests shown : List Term) (by : Term) (key : Key) (db : Trees) (params : Row) (rows : List Row) where
  abbrev q : Query
  q = first_of tree tests shown by key

  abbrev mine : List Row
  mine = filter (passes_all tests params) (db tree)

  abbrev env : Row → Env
  env row = params ∷ row ∷ []

  abbrev outputs : List Output
  outputs = map (output q) (map env mine)

  abbrev before : Output → Output → Bool
  before x y = is_lt (by_key key (column x.0 0) (column y.0 0))

  first : (ordered : List Output) → IsPermutation outputs ordered → ((k : ℕ) (d : Output) → 0 ≤ k → k + 1 < length ordered → before (get_or ordered (k + 1) d) (get_or ordered k d) ≡ false)
      → rows ≡ page q params (map (λ (o : Output). o.1) ordered) → IsFirst mine params shown by key rows
  first [] same sorted is =
      let none : outputs ≡ [] = nil_from_length outputs (length_permutation [] outputs (IsPermutation-sym outputs [] same)) in
      inl (is, map_nil env mine (map_nil (output q) (map env mine) none))
  first (o ∷ rest) same sorted is =
      let all = recursion_from_All (Among outputs) (o ∷ rest) (All-permutation (Among outputs) outputs (o ∷ rest) same (All-from_recursion (Among outputs) outputs (all_among outputs))) in
      let at = among_map (output q) (map env mine) o all.0 in
      let r = among_map env mine at.0 at.1 in
      let o_is : o ≡ output q (env r.0) = at.2 ∙ ap (output q) r.2 in
      let far : All (λ (x : Output). before x o ≡ false) (o ∷ rest) = λ j d low. sorted_far before (ranks_by (by_key_total key) (λ (x : Output). column x.0 0)) (o ∷ rest) sorted 0 j d (omega arith) low in
      let under = recursion_from_All (λ (x : Output). before x o ≡ false) outputs (All-permutation (λ (x : Output). before x o ≡ false) (o ∷ rest) outputs (IsPermutation-sym outputs (o ∷ rest) same) far) in
      inr (
        r.0,
        r.1,
        is ∙ ap (λ (x : Output). x.1 ∷ []) o_is,
        λ s among. subst (λ (x : Output). before (output q (env s)) x ≡ false) o_is (at_among (λ (x : Output). before x o ≡ false) outputs under (output q (env s)) (among_of (output q) (map env mine) (env s) (among_of env mine s among))),
      )

  -- a query that shows the first
  pub first_row : IsAnswer q db params rows → IsFirst mine params shown by key rows
  first_row a =
      let kept : a.kept ≡ outputs = a.distinct ∙ ap (map (output q)) (a.grouped ∙ one_each (passes_all tests params) env (db tree)) in
      first a.ordered (subst (λ xs. IsPermutation xs a.ordered) kept a.same)
      (λ k d low high. ap is_lt (sym (then-Equal (by_key key (column (get_or a.ordered (k + 1) d).0 0) (column (get_or a.ordered k d).0 0)))) ∙ a.sorted k d low high) a.shown

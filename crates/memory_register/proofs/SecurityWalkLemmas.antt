-- A walk over the registered securities, security by security.
use Rattle.std.proofs.Common.{◌≡◌, ℕ, Bool, true, false, List, [], ◌∷◌, Option, Some, None, refl, ap, sym, ◌∙◌, subst}
use Rattle.std.specs.Prelude.{is_some}
use Rattle.std.specs.List.{list_any, filter, All, AllByRecursion}
use Rattle.std.specs.List.Sorted.{IsStrictlySortedBy}
use Rattle.std.specs.Map.{keys_of}
use Rattle.std.specs.Range.Bound.{IsForward}
use Rattle.std.specs.BTreeMap.{BTreeMap, is_at}
use Rattle.std.specs.BTreeMap.Range.{entries_between, range_contains, IsEntryInRange, IsInRange, IsLeBy, IsLtBy}
use Rattle.std.specs.Cmp.Lexicographic.{nat_list_cmp_total}
use Rattle.std.specs.Ordering.{is_gt, ordering_reverse}
use Rattle.std.specs.declared.cmp.Ordering.{Ordering}
use Rattle.std.specs.declared.cmp.Ordering.TheVariants.{Less, Equal, Greater}
use Rattle.std.specs.declared.ops.Bound.TheVariants.{Unbounded}
use Rattle.std.proofs.lemmas.List.Elements.{All-head, All-tail}
use Rattle.std.proofs.lemmas.List.Kept.{IsStrictlySortedBy-filter}
use Rattle.std.proofs.lemmas.Map.Entries.{lookup-filter-keys}
use Rattle.std.proofs.lemmas.Map.Keys.{sorted_head, sorted_tail}
use Rattle.std.proofs.lemmas.Map.Made.{is_some-lookup}
use Rattle.std.proofs.lemmas.Map.Text.{is_eq-slice_cmp}
use Rattle.desk_register.proofs.CaseLemmas.{by_bool, same_bytes}
use Rattle.memory_register.specs.FirstNumbers.{IsAbove}
use Rattle.memory_register.specs.Keys.{text_cmp}
use Rattle.memory_register.specs.SecurityRows.{IsNextSecurity, IsThereAbove, Walks, start_of}

same_text : (q k : List ℕ) → is_at (text_cmp q) k ≡ true → q ≡ k
same_text q k e = same_bytes q k (sym (is_eq-slice_cmp q k) ∙ e)

is_from : (above : Option (List ℕ)) (q : List ℕ) → IsAbove text_cmp above q → range_contains text_cmp (start_of above) Unbounded q ≡ true
is_from None q is = refl
is_from (Some a) q is = rw is refl

-- a key that is in a map stands among what is above, if it is above
left_of : (m : BTreeMap (List ℕ) ℕ) (above : Option (List ℕ)) (q : List ℕ) → IsThereAbove m above q → list_any (is_at (text_cmp q)) (keys_of (entries_between text_cmp (start_of above) Unbounded m.entries)) ≡ true
left_of m above q is =
    let p = range_contains text_cmp (start_of above) Unbounded in
    let stays : (k : List ℕ) → is_at (text_cmp q) k ≡ true → p k ≡ true = λ k same. subst (λ z. p z ≡ true) (same_text q k same) (is_from above q is.higher) in
    sym (is_some-lookup (is_at (text_cmp q)) (entries_between text_cmp (start_of above) Unbounded m.entries)) ∙ ap is_some (lookup-filter-keys (is_at (text_cmp q)) p true stays m.entries) ∙ is.there

keys_filter : (p : List ℕ → Bool) (es : List (List ℕ × ℕ)) → keys_of (filter (λ e. p e.0) es) ≡ filter p (keys_of es)
keys_filter p [] = refl
keys_filter p (e ∷ es) = by_bool (p e.0) (λ kept. rw kept (ap (λ z. e.0 ∷ z) (keys_filter p es))) (λ lost. rw lost (keys_filter p es))

above_of : (above : Option (List ℕ)) (q : List ℕ) → IsInRange text_cmp (start_of above) Unbounded q → IsAbove text_cmp above q
above_of None q is = tt
above_of (Some a) q is = is.0

each_of : (m : BTreeMap (List ℕ) ℕ) (above : Option (List ℕ)) (es : List (List ℕ × ℕ)) → All (IsEntryInRange text_cmp (start_of above) Unbounded m) es → AllByRecursion (IsThereAbove m above) (keys_of es)
each_of m above [] all = tt
each_of m above (e ∷ es) all =
    let first = All-head (IsEntryInRange text_cmp (start_of above) Unbounded m) e es all in
    (record { higher = above_of above e.0 first.0; there = ap is_some first.1 }, each_of m above es (All-tail (IsEntryInRange text_cmp (start_of above) Unbounded m) e es all))

-- the search goes forward
pub forward : (above : Option (List ℕ)) → IsForward (IsLeBy text_cmp) (IsLtBy text_cmp) (start_of above) Unbounded
forward None = tt
forward (Some a) = tt

-- where it begins
pub walk_begins : (m : BTreeMap (List ℕ) ℕ) (above : Option (List ℕ)) (es : List (List ℕ × ℕ)) → es ≡ entries_between text_cmp (start_of above) Unbounded m.entries → IsStrictlySortedBy text_cmp (keys_of m.entries)
    → All (IsEntryInRange text_cmp (start_of above) Unbounded m) es → Walks m above es
walk_begins m above es is sorted all = record {
  left = λ q there. subst (λ z. list_any (is_at (text_cmp q)) (keys_of z) ≡ true) (sym is) (left_of m above q there);
  sorted = let p = range_contains text_cmp (start_of above) Unbounded in
      subst (λ z. IsStrictlySortedBy text_cmp (keys_of z)) (sym is) (subst (IsStrictlySortedBy text_cmp) (sym (keys_filter p m.entries)) (IsStrictlySortedBy-filter text_cmp p (keys_of m.entries) sorted));
  each = each_of m above es all;
}

-- The order of a text and itself.

not_greater : (o : Ordering) → o ≡ ordering_reverse o → is_gt o ≡ false
not_greater Less e = refl
not_greater Equal e = refl
not_greater Greater e = cc

not_less : (o : Ordering) → o ≡ ordering_reverse o → o ≡ Less → ⊥
not_less Less e is = cc
not_less Equal e is = cc
not_less Greater e is = cc

less_is_not_greater : (o : Ordering) → o ≡ Less → is_gt o ≡ false
less_is_not_greater Less e = refl
less_is_not_greater Equal e = cc
less_is_not_greater Greater e = cc

less_than : (x q : List ℕ) (ts : List (List ℕ)) → AllByRecursion (λ y. text_cmp x y ≡ Less) ts → list_any (is_at (text_cmp q)) ts ≡ true → text_cmp x q ≡ Less
less_than x q [] all there = absurd (cc)
less_than x q (y ∷ ts) all there = by_bool (is_at (text_cmp q) y)
    (λ here. subst (λ z. text_cmp x z ≡ Less) (sym (same_text q y here)) all.0)
    (λ other. less_than x q ts all.1 (rw other at there))

further_above : (above : Option (List ℕ)) (a b : List ℕ) → IsAbove text_cmp above a → text_cmp a b ≡ Less → IsAbove text_cmp above b
further_above None a b one two = tt
further_above (Some x) a b one two = nat_list_cmp_total.trans x a b one two

each_behind : (m : BTreeMap (List ℕ) ℕ) (above : Option (List ℕ)) (x : List ℕ) (ts : List (List ℕ)) → AllByRecursion (λ y. text_cmp x y ≡ Less) ts → AllByRecursion (IsThereAbove m above) ts → AllByRecursion (IsThereAbove m (Some x)) ts
each_behind m above x [] less all = tt
each_behind m above x (y ∷ ts) less all = (record { higher = less.0; there = all.0.there }, each_behind m above x ts less.1 all.1)

-- at the end of a walk there is no more
pub no_next : (m : BTreeMap (List ℕ) ℕ) (above : Option (List ℕ)) (es : List (List ℕ × ℕ)) → es ≡ [] → Walks m above es → IsNextSecurity m above None
no_next m above es is walks q there = let bad = subst (λ z. list_any (is_at (text_cmp q)) (keys_of z) ≡ true) is (walks.left q there) in absurd (cc)

module _ (m : BTreeMap (List ℕ) ℕ) (above : Option (List ℕ)) (isin : List ℕ) (n : ℕ) (es ts : List (List ℕ × ℕ)) (is : es ≡ (isin, n) ∷ ts) (walks : Walks m above es) where
  sorted_here : IsStrictlySortedBy text_cmp (isin ∷ keys_of ts)
  sorted_here = subst (λ z. IsStrictlySortedBy text_cmp (keys_of z)) is walks.sorted

  each_here : AllByRecursion (IsThereAbove m above) (isin ∷ keys_of ts)
  each_here = subst (λ z. AllByRecursion (IsThereAbove m above) (keys_of z)) is walks.each

  first_or_behind : {G : Type 0} (q : List ℕ) → IsThereAbove m above q → (q ≡ isin → G) → (list_any (is_at (text_cmp q)) (keys_of ts) ≡ true → G) → G
  first_or_behind q there first behind =
      let both : list_any (is_at (text_cmp q)) (isin ∷ keys_of ts) ≡ true = subst (λ z. list_any (is_at (text_cmp q)) (keys_of z) ≡ true) is (walks.left q there) in
      by_bool (is_at (text_cmp q) isin) (λ here. first (same_text q isin here)) (λ other. behind (rw other at both))

  -- the first is the next
  pub is_next : IsNextSecurity m above (Some isin)
  is_next = (
    each_here.0,
    λ q there. first_or_behind q there
        (λ same. subst (λ z. is_gt (text_cmp isin z) ≡ false) (sym same) (not_greater (text_cmp isin isin) (nat_list_cmp_total.antisymm isin isin)))
        (λ behind. less_is_not_greater (text_cmp isin q) (less_than isin q (keys_of ts) (sorted_head text_cmp isin (keys_of ts) sorted_here) behind)),
  )

  -- the others stand above it
  pub walks_on : Walks m (Some isin) ts
  walks_on = record {
    left = λ q there. first_or_behind q (record { higher = further_above above isin q each_here.0.higher there.higher; there = there.there })
        (λ same. absurd (not_less (text_cmp isin isin) (nat_list_cmp_total.antisymm isin isin) (subst (λ z. text_cmp isin z ≡ Less) same there.higher)))
        (λ behind. behind);
    sorted = sorted_tail text_cmp isin (keys_of ts) sorted_here;
    each = each_behind m above isin (keys_of ts) (sorted_head text_cmp isin (keys_of ts) sorted_here) each_here.1;
  }

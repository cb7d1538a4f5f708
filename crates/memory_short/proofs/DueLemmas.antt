-- The search for the first due pair by its place.
use Rattle.std.proofs.Common.{◌≡◌, ℕ, ◌<◌, ◌≤◌, Bool, true, false, List, [], ◌∷◌, Option, Some, None, refl, ap, sym, ◌∙◌, subst, arith, ◌⊎◌, inl, inr}
use Rattle.std.proofs.lemmas.Bool.{false_from_ne_true}
use Rattle.std.specs.List.{list_any, filter, AllByRecursion}
use Rattle.std.specs.Ordering.{is_eq, is_gt, nat_cmp, ordering_then}
use Rattle.std.specs.declared.cmp.Ordering.{Ordering}
use Rattle.std.specs.declared.cmp.Ordering.TheVariants.{Less, Equal, Greater}
use Rattle.std.specs.declared.ops.Bound.TheVariants.{Excluded, Unbounded}
use Rattle.std.specs.List.Sorted.{IsStrictlySortedBy}
use Rattle.std.specs.BTreeMap.{is_at}
use Rattle.std.specs.BTreeMap.Range.{range_contains}
use Rattle.std.specs.BTreeSet.{BTreeSet, keys_between}
use Rattle.std.proofs.lemmas.Map.Lookups.{CmpEqualImpliesEq, exact_pairs, exact_unsigned}
use Rattle.std.proofs.lemmas.Map.Keys.{sorted_head, sorted_tail}
use Rattle.desk_rules.specs.declared.history.pair.Place.{Place}
use Rattle.desk_rules.specs.Content.{Content}
use Rattle.desk_rules.specs.Settlement.{is_before, is_past}
use Rattle.desk_rules.proofs.PlaceLemmas.{before_never, before_true}
use Rattle.desk_register.specs.Looked.{IsDue, IsDuePairAfter}
use Rattle.memory_short.specs.DuePlaces.{HasDue, IsDueAt, IsDueOf, IsFirstDueOf, beginning, place_at}
use Rattle.desk_rules.specs.Places.{place_cmp}
use Rattle.desk_register.proofs.CaseLemmas.{by_bool}

-- whether places have this one
abbrev pub has : Place → List Place → Bool
has q places = list_any (is_at (place_cmp q)) places

exact_numbers : CmpEqualImpliesEq (λ (a b : ℕ × ℕ). ordering_then (nat_cmp a.0 b.0) (nat_cmp a.1 b.1))
exact_numbers = exact_pairs nat_cmp nat_cmp exact_unsigned exact_unsigned

exact_place : (q k : Place) → place_cmp q k ≡ Equal → q ≡ k
exact_place q k e = ap (λ (z : ℕ × ℕ). place_at z.0 z.1) (exact_numbers (q.day, q.number) (k.day, k.number) e)

equal_if : (o : Ordering) → is_eq o ≡ true → o ≡ Equal
equal_if Less e = cc
equal_if Equal e = refl
equal_if Greater e = cc

pub same_place : (q k : Place) → is_at (place_cmp q) k ≡ true → q ≡ k
same_place q k e = exact_place q k (equal_if (place_cmp q k) e)

any_filter : {K : Type 0} (t p : K → Bool) (ks : List K) → ((k : K) → t k ≡ true → p k ≡ true) → list_any t ks ≡ true → list_any t (filter p ks) ≡ true
any_filter t p [] passes any = any
any_filter t p (k ∷ ks) passes any = by_bool (t k)
    (λ here. rw (passes k here, here) refl)
    (λ other. let behind : list_any t ks ≡ true = rw other at any in by_bool (p k) (λ kept. rw (kept, other) (any_filter t p ks passes behind)) (λ lost. rw lost (any_filter t p ks passes behind)))

-- the order of places, by their days and numbers
not_less_days : (a b i j : ℕ) → ordering_then (nat_cmp a b) (nat_cmp i j) ≡ Less → a ≤ b
not_less_days a b i j e = grind arith

not_below : (a b i j : ℕ) → ordering_then (nat_cmp a b) (nat_cmp i j) ≡ Less → (b < a) ⊎ ((b ≡ a) × (j < i)) → ⊥
not_below a b i j e (inl lt) = grind arith
not_below a b i j e (inr later) = let same = later.0 in let lt = later.1 in grind arith

pub not_gt_days : (a b i j : ℕ) → is_gt (ordering_then (nat_cmp a b) (nat_cmp i j)) ≡ false → a ≤ b
not_gt_days a b i j e = grind arith

pub not_above : (a b i j : ℕ) → is_gt (ordering_then (nat_cmp a b) (nat_cmp i j)) ≡ false → (b < a) ⊎ ((b ≡ a) × (j < i)) → ⊥
not_above a b i j e (inl lt) = grind arith
not_above a b i j e (inr later) = let same = later.0 in let lt = later.1 in grind arith

below_from_less : (p q : Place) → place_cmp p q ≡ Less → is_before q p ≡ false
below_from_less p q e = false_from_ne_true (is_before q p) (λ before. not_below p.day q.day p.number q.number e (before_true q p before))

up_to : (a b i j : ℕ) → (a < b) ⊎ ((a ≡ b) × (i < j)) → ordering_then (nat_cmp a b) (nat_cmp i j) ≡ Less
up_to a b i j (inl lt) = grind arith
up_to a b i j (inr later) = let e = later.0 in let lt = later.1 in grind arith

from_nought : (b j : ℕ) → 0 < j → ordering_then (nat_cmp 0 b) (nat_cmp 0 j) ≡ Less
from_nought b j some = grind arith

pub behind_beginning : (above : Option Place) (p : Place) → 0 < p.number → is_past above p ≡ true → place_cmp (beginning above) p ≡ Less
behind_beginning None p some up = from_nought p.day p.number some
behind_beginning (Some a) p some up = up_to a.day p.day a.number p.number (before_true a p up)

in_range : (a k : Place) → place_cmp a k ≡ Less → range_contains place_cmp (Excluded a) Unbounded k ≡ true
in_range a k e = rw e refl

-- all due pairs stand behind the beginning
pub all_behind_beginning : (places : BTreeSet Place) (content : Content) (day : ℕ) (above : Option Place) (s : List Place)
    → s ≡ keys_between place_cmp (Excluded (beginning above)) Unbounded places → (p : Place) → IsDueOf places content day above p → has p s ≡ true
all_behind_beginning places content day above s is p d =
    let pair = d.due.pair in
    let less = pair.is_earlier in
    rw is (any_filter (is_at (place_cmp p)) (range_contains place_cmp (Excluded (beginning above)) Unbounded) places.keys
    (λ k e. in_range (beginning above) k (subst (λ z. place_cmp (beginning above) z ≡ Less) (same_place p k e) (behind_beginning above p (omega arith) d.due.above)))
    d.there)

-- a place is the first of some, or stands behind it
pub first_or_behind : {G : Type 0} (q x : Place) (s t : List Place) → s ≡ x ∷ t → has q s ≡ true → (q ≡ x → G) → (has q t ≡ true → G) → G
first_or_behind q x s t is there first behind =
    let both : has q (x ∷ t) ≡ true = rw is at there in
    by_bool (is_at (place_cmp q) x) (λ here. first (same_place q x here)) (λ other. behind (rw other at both))

less_than : (x q : Place) (t : List Place) → AllByRecursion (λ y. place_cmp x y ≡ Less) t → has q t ≡ true → place_cmp x q ≡ Less
less_than x q [] all there = absurd (cc)
less_than x q (y ∷ t) all there = by_bool (is_at (place_cmp q) y)
    (λ here. subst (λ z. place_cmp x z ≡ Less) (sym (same_place q y here)) all.0)
    (λ other. less_than x q t all.1 (rw other at there))

pub behind_first : (x q : Place) (s t : List Place) → s ≡ x ∷ t → IsStrictlySortedBy place_cmp s → has q t ≡ true → place_cmp x q ≡ Less
behind_first x q s t is sorted there = less_than x q t (sorted_head place_cmp x t (subst (IsStrictlySortedBy place_cmp) is sorted)) there

pub sorted_behind : (x : Place) (s t : List Place) → s ≡ x ∷ t → IsStrictlySortedBy place_cmp s → IsStrictlySortedBy place_cmp t
sorted_behind x s t is sorted = sorted_tail place_cmp x t (subst (IsStrictlySortedBy place_cmp) is sorted)

module _ (places : BTreeSet Place) (content : Content) (day : ℕ) (above : Option Place) (x : Place) (s t : List Place) (is : s ≡ x ∷ t)
    (left : (p : Place) → IsDueOf places content day above p → has p s ≡ true) (sorted : IsStrictlySortedBy place_cmp s) where
  -- past the day there is none
  pub none_past_day : day < x.day → (p : Place) → IsDueOf places content day above p → ⊥
  none_past_day past p due = first_or_behind p x s t is (left p due)
      (λ first. let same : p.day ≡ x.day = ap (λ z. z.day) first in let by = due.due.by in omega arith)
      (λ there. let order = not_less_days x.day p.day x.number p.number (behind_first x p s t is sorted there) in let by = due.due.by in omega arith)

  -- the first that is due is the first of all
  pub first_is_due : (d : Place) → IsDueAt content day above x (Some d) → IsFirstDueOf places content day above (Some d)
  first_is_due d found = (
    found.0,
    λ q due. first_or_behind q x s t is (left q due)
        (λ first. let same = first ∙ sym found.1 in before_never q d (ap (λ z. z.day) same) (ap (λ z. z.number) same))
        (λ there. below_from_less d q (subst (λ z. place_cmp z q ≡ Less) (sym found.1) (behind_first x q s t is sorted there))),
  )

  -- where the first is not due, all stand behind it
  pub all_behind : IsDueAt content day above x None → (p : Place) → IsDueOf places content day above p → has p t ≡ true
  all_behind none p due = first_or_behind p x s t is (left p due) (λ first. absurd (none (subst (IsDue content day above) first due.due))) (λ there. there)

-- Where all due pairs are among the places, the first of these is the first of all.
pub first_of_all : (places : BTreeSet Place) (content : Content) (day : ℕ) (above : Option Place) (found : Option Place) → HasDue places content
    → IsFirstDueOf places content day above found → IsDuePairAfter content day above found
first_of_all places content day above None all first = λ p due. first p (record { due = due; there = all.each p due.pair })
first_of_all places content day above (Some d) all first = (first.0, λ q due. first.1 q (record { due = due; there = all.each q due.pair }))

-- Who waits for what, after the places of one want were changed.
use Rattle.std.proofs.Common.{◌≡◌, ℕ, ◌<◌, ◌≤◌, true, false, List, [], ◌∷◌, length, Option, Some, None, refl, ap, sym, ◌∙◌, subst, arith}
use Rattle.std.specs.Prelude.{◌&&◌, IfSome, IfNone}
use Rattle.std.specs.Ordering.{is_eq, is_gt, nat_cmp, ordering_then}
use Rattle.std.specs.declared.cmp.Ordering.{Ordering}
use Rattle.std.specs.declared.cmp.Ordering.TheVariants.{Less}
use Rattle.std.specs.List.{list_any}
use Rattle.std.specs.BTreeMap.{get, is_at}
use Rattle.std.specs.BTreeMap.Range.{IsLeBy, IsLtBy}
use Rattle.std.specs.BTreeSet.{BTreeSet, btree_set_len, contains}
use Rattle.desk_rules.specs.declared.history.pair.Place.{Place}
use Rattle.desk_register.proofs.CaseLemmas.{by_bool}
use Rattle.desk_rules.specs.Places.{place_cmp}
use Rattle.memory_short.specs.Wants.{Waits, amount_cmp, how_many, how_many_of, is_among, is_waiting, want_cmp}
use Rattle.memory_short.specs.declared.wants.Want.{Want}
use Rattle.memory_short.proofs.PlaceCases.{equal_if}
use Rattle.memory_short.proofs.WantOrder.{by_want, exact_want}

abbrev Places : Type 0
Places = BTreeSet (ℕ × Place)

-- the places of one want were these and are those, and of the others they are as before
pub record ChangesAt (old new : Waits) (want : Want) (before after : Option Places) : Type 0 where
  pub was : get want_cmp old want ≡ before
  pub is : get want_cmp new want ≡ after
  pub elsewhere : (w : Want) → is_eq (want_cmp want w) ≡ false → get want_cmp new w ≡ get want_cmp old w

module _ (old new : Waits) (want : Want) (before after : Option Places) (changes : ChangesAt old new want before after) where
  -- what holds of the places of this want, and of the same places, holds of those of each
  of_each : (R : Option Places → Option Places → Type 0) → R before after → ((o : Option Places) → R o o) → (w : Want) → R (get want_cmp old w) (get want_cmp new w)
  of_each R here same w = by_want want w
      (λ one. subst (λ z. R (get want_cmp old z) (get want_cmp new z)) one (subst (λ o. R o (get want_cmp new want)) (sym changes.was) (subst (R before) (sym changes.is) here)))
      (λ apart. subst (R (get want_cmp old w)) (sym (changes.elsewhere w apart)) (same (get want_cmp old w)))

  pub waits_more : ((a : ℕ) (q : Place) → is_among before a q ≡ true → is_among after a q ≡ true) → (w : Want) (a : ℕ) (q : Place) → is_waiting old w a q ≡ true → is_waiting new w a q ≡ true
  waits_more all w = of_each (λ o n. (a : ℕ) (q : Place) → is_among o a q ≡ true → is_among n a q ≡ true) all (λ o a q there. there) w

  pub waits_less : ((a : ℕ) (q : Place) → is_among before a q ≡ false → is_among after a q ≡ false) → (w : Want) (a : ℕ) (q : Place) → is_waiting old w a q ≡ false → is_waiting new w a q ≡ false
  waits_less all w = of_each (λ o n. (a : ℕ) (q : Place) → is_among o a q ≡ false → is_among n a q ≡ false) all (λ o a q there. there) w

  pub no_more_wait : how_many_of after ≤ how_many_of before → (w : Want) → how_many new w ≤ how_many old w
  no_more_wait most w = of_each (λ o n. how_many_of n ≤ how_many_of o) most (λ o. omega arith) w

  pub others_as_before : (amount : ℕ) (here : Place) → ((a : ℕ) (q : Place) → is_eq (amount_cmp (amount, here) (a, q)) ≡ false → is_among after a q ≡ is_among before a q)
      → (w : Want) (a : ℕ) (q : Place) → (is_eq (want_cmp want w) && is_eq (amount_cmp (amount, here) (a, q))) ≡ false → is_waiting new w a q ≡ is_waiting old w a q
  others_as_before amount here others w a q apart = by_bool (is_eq (want_cmp want w))
      (λ tied.
      let one = exact_want want w (equal_if (want_cmp want w) tied) in
      let elsewhere : is_eq (amount_cmp (amount, here) (a, q)) ≡ false = rw tied at apart in
      subst (λ z. is_waiting new z a q ≡ is_waiting old z a q) one (ap (λ o. is_among o a q) changes.is ∙ others a q elsewhere ∙ ap (λ o. is_among o a q) (sym changes.was)))
      (λ other. ap (λ o. is_among o a q) (changes.elsewhere w other))

-- where nothing stands nobody waits
pub none_at_all : (waits : Waits) (want : Want) → get want_cmp waits want ≡ None → (a : ℕ) (q : Place) → is_waiting waits want a q ≡ false
none_at_all waits want none a q = ap (λ o. is_among o a q) none

pub among_here : (waits : Waits) (want : Want) (places : Places) → get want_cmp waits want ≡ Some places → (a : ℕ) (q : Place) → is_waiting waits want a q ≡ contains amount_cmp places (a, q)
among_here waits want places is a q = ap (λ o. is_among o a q) is

-- of no places none has this one
pub nowhere : (places : Places) → btree_set_len places ≡ 0 → (x : ℕ × Place) → contains amount_cmp places x ≡ false
nowhere places none x = by_keys places.keys none
  where
    by_keys : (ks : List (ℕ × Place)) → length ks ≡ 0 → list_any (is_at (amount_cmp x)) ks ≡ false
    by_keys [] e = refl
    by_keys (k ∷ ks) e = absurd (omega arith)

-- the amounts in order
pub first_amount : (m n : ℕ) (p q : Place) → IsLeBy amount_cmp (m, p) (n, q) → m ≤ n
first_amount m n p q le = by_numbers m n (place_cmp p q) le
  where
    by_numbers : (a b : ℕ) (o : Ordering) → is_gt (ordering_then (nat_cmp a b) o) ≡ false → a ≤ b
    by_numbers a b o e = grind arith

pub amount_below : (m n : ℕ) (p q : Place) → m < n → amount_cmp (m, p) (n, q) ≡ Less
amount_below m n p q lt = by_numbers m n (place_cmp p q) lt
  where
    by_numbers : (a b : ℕ) (o : Ordering) → a < b → ordering_then (nat_cmp a b) o ≡ Less
    by_numbers a b o lt = grind arith

-- who was found among the places of a want

module _ (waits : Waits) (want : Want) (places : Places) (is : get want_cmp waits want ≡ Some places) where
  pub waits_there : (found : Option (ℕ × Place)) → IfSome found (λ k. contains amount_cmp places k ≡ true) → IfSome found (λ k. is_waiting waits want k.0 k.1 ≡ true)
  waits_there None there = tt
  waits_there (Some k) there = among_here waits want places is k.0 k.1 ∙ there

  pub waits_least : (found : Option (ℕ × Place)) → IfSome found (λ k. (q : ℕ × Place) → contains amount_cmp places q ≡ true → IsLeBy amount_cmp k q)
      → IfSome found (λ k. (n : ℕ) (at : Place) → is_waiting waits want n at ≡ true → k.0 ≤ n)
  waits_least None least = tt
  waits_least (Some k) least = λ n at there. first_amount k.0 n k.1 at (least (n, at) (sym (among_here waits want places is n at) ∙ there))

  pub waits_none : (found : Option (ℕ × Place)) → IfNone found ((q : ℕ × Place) → contains amount_cmp places q ≡ false) → IfNone found ((n : ℕ) (at : Place) → is_waiting waits want n at ≡ false)
  waits_none None none = λ n at. among_here waits want places is n at ∙ none (n, at)
  waits_none (Some k) none = tt

  pub waits_none_above : (most : ℕ) (p : Place) (found : Option (ℕ × Place)) → IfNone found ((q : ℕ × Place) → IsLtBy amount_cmp (most, p) q → contains amount_cmp places q ≡ false)
      → IfNone found ((n : ℕ) (at : Place) → most < n → is_waiting waits want n at ≡ false)
  waits_none_above most p None none = λ n at more. among_here waits want places is n at ∙ none (n, at) (amount_below most n p at more)
  waits_none_above most p (Some k) none = tt

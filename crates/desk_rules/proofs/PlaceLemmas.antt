-- The order of places, in words of numbers.
use Rattle.std.specs.Prelude.{ℕ, ◌||◌}
use Rattle.std.specs.Ordering.{is_lt, nat_cmp, ordering_then}
use Rattle.std.proofs.Common.{◌≡◌, ◌<◌, ◌⊎◌, inl, inr, true, false, ◌&&◌, ◌==◌, nat_lt, arith}
use Rattle.std.proofs.lemmas.Bool.{false_from_ne_true, ltb-true, lt-ltb, eqb-true, eq-eqb, and_parts, and_from, or_cases, or_left, or_right}
use Rattle.desk_rules.specs.declared.history.pair.Place.{Place}
use Rattle.desk_rules.specs.Places.{place_cmp}
use Rattle.desk_rules.specs.Settlement.{is_before}

by_numbers : (a b i j : ℕ) → is_lt (ordering_then (nat_cmp a b) (nat_cmp i j)) ≡ (nat_lt a b || (a == b && nat_lt i j))
by_numbers a b i j = grind arith

-- one place is less than another where a run takes it before
pub by_order : (a b : Place) → is_lt (place_cmp a b) ≡ is_before a b
by_order a b = by_numbers a.day b.day a.number b.number

pub before_true : (p q : Place) → is_before p q ≡ true → (p.day < q.day) ⊎ ((p.day ≡ q.day) × (p.number < q.number))
before_true p q e = elim (or_cases (nat_lt p.day q.day) (p.day == q.day && nat_lt p.number q.number) e) [
  | inl lt ↦ inl (ltb-true p.day q.day lt)
  | inr both ↦ let parts = and_parts (p.day == q.day) (nat_lt p.number q.number) both in inr (eqb-true p.day q.day parts.0, ltb-true p.number q.number parts.1)
]

pub before_day : (p q : Place) → p.day < q.day → is_before p q ≡ true
before_day p q lt = or_left (nat_lt p.day q.day) _ (lt-ltb p.day q.day lt)

pub before_number : (p q : Place) → p.day ≡ q.day → p.number < q.number → is_before p q ≡ true
before_number p q same lt = or_right (nat_lt p.day q.day) _ (and_from _ _ (eq-eqb p.day q.day same) (lt-ltb p.number q.number lt))

pub before_never : (p q : Place) → p.day ≡ q.day → p.number ≡ q.number → is_before p q ≡ false
before_never p q days numbers = false_from_ne_true (is_before p q) (λ e. elim (before_true p q e) [ inl lt ↦ omega arith | inr both ↦ (let lt : p.number < q.number = both.1 in omega arith) ])

pub before_through : (p q r : Place) → is_before p q ≡ true → is_before q r ≡ true → is_before p r ≡ true
before_through p q r e f = elim (before_true p q e) [
  | inl a ↦ elim (before_true q r f) [ inl b ↦ before_day p r (omega arith) | inr b ↦ before_day p r (let same : q.day ≡ r.day = b.0 in omega arith) ]
  | inr a ↦
      let same : p.day ≡ q.day = a.0 in
      let less : p.number < q.number = a.1 in
      elim (before_true q r f) [
        | inl b ↦ before_day p r (omega arith)
        | inr b ↦ (let as_well : q.day ≡ r.day = b.0 in let more : q.number < r.number = b.1 in before_number p r (omega arith) (omega arith))
      ]
]

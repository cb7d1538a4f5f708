-- Elements that pass a test, and numbers that are a side of a pair.
use Rattle.std.proofs.Common.{◌≡◌, ℕ, inl, inr, Bool, true, false, ◌==◌, List, [], ◌∷◌, refl, ◌∙◌, ap}
use Rattle.std.specs.List.{list_any}
use Rattle.std.proofs.lemmas.Bool.{both_ways, eqb-true, eq-eqb, or_cases, or_left, or_right}
use Rattle.desk_rules.specs.declared.history.pair.Pair.{Pair}
use Rattle.desk_rules.specs.Pairing.{IsFree, IsSide, has_side}
use Rattle.desk_rules.proofs.Decided.{In, In-from_Contains, Contains-from_In}

-- some element passes exactly where its test is true
pub any-In : {X : Type 0} (p : X → Bool) (xs : List X) (x : X) → In xs x → p x ≡ true → list_any p xs ≡ true
any-In p [] x i e = absurd i
any-In {X} p (y ∷ ys) x (inl same) e = or_left (p y) (list_any p ys) (ap p same ∙ e)
any-In p (y ∷ ys) x (inr i) e = or_right (p y) (list_any p ys) (any-In p ys x i e)

pub In-any : {X : Type 0} (p : X → Bool) (xs : List X) → list_any p xs ≡ true → (x : X) × In xs x × (p x ≡ true)
In-any p [] e = absurd (cc)
In-any p (y ∷ ys) e = elim (or_cases (p y) (list_any p ys) e) [
  | inl here ↦ (y, inl refl, here)
  | inr later ↦ let found = In-any p ys later in (found.0, inr found.1, found.2)
]

pub free_from_none : (ps : List Pair) (k : ℕ) → list_any (has_side k) ps ≡ false → IsFree ps k
free_from_none ps k none p c = (
  λ e. both_ways (list_any (has_side k) ps) none (any-In (has_side k) ps p (In-from_Contains ps p c) (or_left (p.earlier == k) (p.later == k) (eq-eqb p.earlier k e))),
  λ e. both_ways (list_any (has_side k) ps) none (any-In (has_side k) ps p (In-from_Contains ps p c) (or_right (p.earlier == k) (p.later == k) (eq-eqb p.later k e))),
)

pub free_no_side : (ps : List Pair) (k : ℕ) → IsFree ps k → list_any (has_side k) ps ≡ true → ⊥
free_no_side ps k free e =
    let found = In-any (has_side k) ps e in
    let apart = free found.0 (Contains-from_In ps found.0 found.1) in
    elim (or_cases (found.0.earlier == k) (found.0.later == k) found.2) [
      | inl a ↦ apart.0 (eqb-true found.0.earlier k a)
      | inr b ↦ apart.1 (eqb-true found.0.later k b)
    ]

-- a number that the test finds is a side
pub side_from_test : (n : ℕ) (p : Pair) → has_side n p ≡ true → IsSide p n
side_from_test n p e = elim (or_cases (p.earlier == n) (p.later == n) e) [ inl a ↦ inl (eqb-true p.earlier n a) | inr b ↦ inr (eqb-true p.later n b) ]

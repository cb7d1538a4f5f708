-- Each condition of the definitions can be decided.
use Rattle.std.proofs.Common.{◌≡◌, ◌≢◌, ℕ, zero, suc, ◌<◌, ◌⊎◌, inl, inr, Bool, true, false, List, [], ◌∷◌, bytes_eq, Option, Some, None, refl, sym, ◌∙◌, ap, subst, arith}
use Rattle.std.proofs.lemmas.Bool.{cases_Bool, cases_lt, cases_eq, both_ways, false≢true}
use Rattle.std.proofs.lemmas.Slice.Eq.{bytes_eq-Decides}
use Rattle.desk_codes.specs.declared.currency.Ccy.{Ccy}
use Rattle.desk_codes.proofs.CurrencyLemmas.{known_by_letters}
use Rattle.desk_codes.specs.Currency.{letters_of}
use Rattle.desk_msg.specs.declared.instruction.Kind.{Kind}
use Rattle.desk_msg.specs.declared.instruction.Kind.TheVariants.{Unit as Units, FaceAmount}
use Rattle.desk_msg.specs.declared.instruction.Cash.{Cash}
use Rattle.desk_rules.specs.declared.history.entry.Entry.{Entry}
use Rattle.desk_rules.specs.declared.history.pair.Pair.{Pair}
use Rattle.desk_rules.specs.History.{Instructed, before, instruction_at}
use Rattle.desk_rules.specs.Opposite.{AreOpposite, AreOppositeAt}
use Rattle.desk_rules.specs.Balances.{same_ccy}
use Rattle.desk_rules.specs.Cancelled.{is_cancel_requested}
use Rattle.desk_rules.specs.Pairing.{IsFree, IsCandidate, IsMate}
use Rattle.desk_rules.proofs.Decided.{In, In-from_Contains, Contains-from_In}
use Rattle.desk_rules.proofs.SameContent.{cash_same}

-- a fact or its contrary
abbrev pub Either : Type 0 → Type 0
Either A = A ⊎ (A → ⊥)

pub either_like : {A B : Type 0} → (A → B) → (B → A) → Either A → Either B
either_like f g (inl a) = inl (f a)
either_like f g (inr n) = inr (λ b. n (g b))

pub both : {A B : Type 0} → Either A → Either B → Either (A × B)
both (inl a) (inl b) = inl (a, b)
both (inl a) (inr n) = inr (λ x. n x.1)
both (inr n) other = inr (λ x. n x.0)

pub not_this : {A : Type 0} → Either A → Either (A → ⊥)
not_this (inl a) = inr (λ n. n a)
not_this (inr n) = inl n

pub either_Bool : (a b : Bool) → Either (a ≡ b)
either_Bool true true = inl refl
either_Bool false false = inl refl
either_Bool true false = inr (λ e. cc)
either_Bool false true = inr (λ e. cc)

pub either_bytes : (a b : List ℕ) → Either (a ≡ b)
either_bytes a b = let d = bytes_eq-Decides a b in elim (cases_Bool (bytes_eq a b)) [ inl e ↦ inl (d.0 e) | inr e ↦ inr (λ same. both_ways (bytes_eq a b) e (d.1 same)) ]

pub either_Kind : (a b : Kind) → Either (a ≡ b)
either_Kind Units Units = inl refl
either_Kind FaceAmount FaceAmount = inl refl
either_Kind Units FaceAmount = inr (λ e. cc)
either_Kind FaceAmount Units = inr (λ e. cc)

pub same_ccy-true : (a b : Ccy) → same_ccy a b ≡ true → a ≡ b
same_ccy-true a b e = let d = bytes_eq-Decides (letters_of a) (letters_of b) in known_by_letters a b (d.0 e)

pub same_ccy-refl : (a : Ccy) → same_ccy a a ≡ true
same_ccy-refl a = let d = bytes_eq-Decides (letters_of a) (letters_of a) in d.1 refl

pub either_Ccy : (a b : Ccy) → Either (a ≡ b)
either_Ccy a b = elim (cases_Bool (same_ccy a b)) [
  | inl e ↦ inl (same_ccy-true a b e)
  | inr e ↦ inr (λ same. let P : Ccy → Type 0 = λ c. same_ccy a c ≡ true in both_ways (same_ccy a b) e (subst P same (same_ccy-refl a)))
]

pub either_cash : (a b : Option Cash) → Either (a ≡ b)
either_cash None None = inl refl
either_cash None (Some b) = inr (λ e. cc)
either_cash (Some a) None = inr (λ e. cc)
either_cash (Some a) (Some b) = either_like
    (λ e. ap Some (cash_same a b e.0 e.1))
    (λ e. let same : a ≡ b = cc in (ap (λ c. c.ccy) same, ap (λ c. c.amount) same))
    (both (either_Ccy a.ccy b.ccy) (cases_eq a.amount b.amount))

-- Opposite instructions.

pub either_opposite : (a b : Instructed) → Either (AreOpposite a b)
either_opposite a b = either_like
    (λ x. record { sides = x.0; payment = x.1.0; isin = x.1.1.0; quantity = x.1.1.1.0; kind = x.1.1.1.1.0; day = x.1.1.1.1.1.0; cash = x.1.1.1.1.1.1.0; names = x.1.1.1.1.1.1.1.0; is_named = x.1.1.1.1.1.1.1.1 })
    (λ o. (o.sides, (o.payment, (o.isin, (o.quantity, (o.kind, (o.day, (o.cash, (o.names, o.is_named)))))))))
    (both (not_this (either_Bool _ _)) (both (either_Bool _ _) (both (either_bytes _ _) (both (cases_eq _ _) (both (either_Kind _ _) (both (either_bytes _ _) (both (either_cash _ _) (both (either_bytes _ _) (either_bytes _ _)))))))))

cases_Option : {A : Type 0} (o : Option A) → ((a : A) × (o ≡ Some a)) ⊎ (o ≡ None)
cases_Option None = inr refl
cases_Option (Some a) = inl (a, refl)

pub either_opposite_at : (h : List Entry) (m n : ℕ) → Either (AreOppositeAt h m n)
either_opposite_at h m n = elim (cases_Option (instruction_at h m)) [
  | inr none ↦ inr (λ o. let e = o.is_first in cc)
  | inl a ↦ elim (cases_Option (instruction_at h n)) [
    | inr none ↦ inr (λ o. let e = o.is_second in cc)
    | inl b ↦ either_like
        (λ o. record { first = a.0; second = b.0; is_first = a.1; is_second = b.1; opposite = o })
        (λ o.
        let some : ◌≡◌ {A = Option Instructed} (Some a.0) (Some o.first) = sym a.1 ∙ o.is_first in
        let some' : ◌≡◌ {A = Option Instructed} (Some b.0) (Some o.second) = sym b.1 ∙ o.is_second in
        let e : a.0 ≡ o.first = some_same a.0 o.first some in
        let f : b.0 ≡ o.second = some_same b.0 o.second some' in
        let P : Instructed → Type 0 = λ x. AreOpposite x b.0 in
        let Q : Instructed → Type 0 = λ x. AreOpposite o.first x in
        subst P (sym e) (subst Q (sym f) o.opposite))
        (either_opposite a.0 b.0)
  ]
]
  where
    some_same : (x y : Instructed) → ◌≡◌ {A = Option Instructed} (Some x) (Some y) → x ≡ y
    some_same x y e = cc

-- Candidates.

pub either_free : (ps : List Pair) (k : ℕ) → Either (IsFree ps k)
either_free ps k = either_like (λ f p c. f p (In-from_Contains ps p c)) (λ f p i. f p (Contains-from_In ps p i)) (each ps)
  where
    Each : List Pair → Type 0
    Each qs = (p : Pair) → In qs p → (p.earlier ≢ k) × (p.later ≢ k)

    each : (qs : List Pair) → Either ((p : Pair) → In qs p → (p.earlier ≢ k) × (p.later ≢ k))
    each [] = inl (λ p i. absurd i)
    each (q ∷ qs) = either_like
        (λ x p i. elim i [ inl e ↦ (let P : Pair → Type 0 = λ z. (z.earlier ≢ k) × (z.later ≢ k) in subst P e x.0) | inr j ↦ x.1 p j ])
        (λ f. (f q (inl refl), λ p i. f p (inr i)))
        (both (both (not_this (cases_eq q.earlier k)) (not_this (cases_eq q.later k))) (each qs))

pub either_candidate : (h : List Entry) (ps : List Pair) (n k : ℕ) → Either (IsCandidate h ps n k)
either_candidate h ps n k = either_like
    (λ x. record { earlier = x.0; opposite = x.1.0; free = x.1.1.0; stands = x.1.1.1 })
    (λ c. (c.earlier, (c.opposite, (c.free, c.stands))))
    (both (either_less k n) (both (either_opposite_at h k n) (both (either_free ps k) (either_Bool (is_cancel_requested (before n h) k) false))))
  where
    either_less : (a b : ℕ) → Either (a < b)
    either_less a b = elim (cases_lt a b) [ inl lt ↦ inl lt | inr ge ↦ inr (λ lt. omega arith) ]

-- the least number below a bound of which something holds, or there is none
pub least_below : (P : ℕ → Type 0) → ((k : ℕ) → Either (P k)) → (bound : ℕ) → ((m : ℕ) × P m × ((k : ℕ) → k < m → P k → ⊥)) ⊎ ((k : ℕ) → k < bound → P k → ⊥)
least_below P either zero = inr (λ k lt p. absurd (omega arith))
least_below P either (suc n) = elim (least_below P either n) [
  | inl found ↦ inl found
  | inr none ↦ elim (either n) [
    | inl p ↦ inl (n, p, none)
    | inr not ↦ inr (λ k lt p. elim (cases_lt k n) [ inl less ↦ none k less p | inr ge ↦ (let same : k ≡ n = omega arith in not (subst P same p)) ])
  ]
]

-- the later entry has a mate, or no candidate
pub mate_or_none : (h : List Entry) (ps : List Pair) (n : ℕ) → ((m : ℕ) × IsMate h ps (record { earlier = m; later = n })) ⊎ ((k : ℕ) → IsCandidate h ps n k → ⊥)
mate_or_none h ps n = elim (least_below (λ k. IsCandidate h ps n k) (λ k. either_candidate h ps n k) n) [
  | inl found ↦ inl (found.0, record { candidate = found.1; least = found.2 })
  | inr none ↦ inr (λ k c. none k c.earlier c)
]

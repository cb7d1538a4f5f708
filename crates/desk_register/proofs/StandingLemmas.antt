-- Two entries that stand as each other's mates.
use Rattle.std.proofs.Common.{◌≡◌, inl, inr, ℕ, ◌==◌, true, false, Some, refl, sym, subst, arith}
use Rattle.std.proofs.lemmas.Bool.{cases_eq, ne_eqb}
use Rattle.std.proofs.lemmas.Bool.Decides.{nat_tests}
use Rattle.desk_rules.specs.declared.history.standing.Standing.{Standing}
use Rattle.desk_rules.specs.declared.history.standing.State.{State}
use Rattle.desk_rules.specs.Content.{Content}
use Rattle.desk_register.specs.Changes.{standing_both}

-- where two numbers stand, and the rest
pub both_stand : (P : ℕ → Standing → Type 0) (standing : ℕ → Standing) (m n : ℕ) (state : State) → P n (record (standing n) { mate = Some m; state = state }) → P m (record (standing m) { mate = Some n; state = state })
    → ((k : ℕ) → (k ≡ n → ⊥) → (k ≡ m → ⊥) → P k (standing k)) → (k : ℕ) → P k (standing_both standing m n state k)
both_stand P standing m n state last first rest k = elim (cases_eq k n) [
  | inl is ↦
      let test : k == n ≡ true = grind (arith, nat_tests) in
      let Q : ℕ → Type 0 = λ z. P z (record (standing n) { mate = Some m; state = state }) in
      rw test (subst Q (sym is) last)
  | inr not_last ↦ elim (cases_eq k m) [
    | inl is ↦
        let test : k == n ≡ false = ne_eqb k n not_last in
        let this : k == m ≡ true = grind (arith, nat_tests) in
        let Q : ℕ → Type 0 = λ z. P z (record (standing m) { mate = Some n; state = state }) in
        rw (test, this) (subst Q (sym is) first)
    | inr not_first ↦
        let test : k == n ≡ false = ne_eqb k n not_last in
        let other : k == m ≡ false = ne_eqb k m not_first in
        rw (test, other) (rest k not_last not_first)
  ]
]

-- two that stand so already are put where they stand
module _ (content : Content) (m n : ℕ) (state : State) where
  same_side : (st : Standing) (k : ℕ) → st.mate ≡ Some k → st.state ≡ state → st ≡ record st { mate = Some k; state = state }
  same_side st k mate stands = λ i. record st { mate = mate i; state = stands i }

  pub stand_already : (content.standing n).mate ≡ Some m → (content.standing m).mate ≡ Some n → (content.standing n).state ≡ state → (content.standing m).state ≡ state
      → content ≡ record content { standing = standing_both content.standing m n state }
  stand_already mate back later earlier = λ i. record content { standing = λ k. same_standing k i }
    where
      same_standing : (k : ℕ) → content.standing k ≡ standing_both content.standing m n state k
      same_standing = both_stand (λ k st. content.standing k ≡ st) content.standing m n state (same_side (content.standing n) m mate later) (same_side (content.standing m) n back earlier) (λ k a b. refl)

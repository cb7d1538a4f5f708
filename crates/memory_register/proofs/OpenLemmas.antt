-- The search for the first opposite instruction by its key.
use Rattle.std.proofs.Common.{◌≡◌, ◌≢◌, ℕ, ◌+◌, ◌<◌, ◌≤◌, Bool, true, false, length, refl, ap, sym, ◌∙◌, subst, arith, inl, inr}
use Rattle.std.specs.Prelude.{not}
use Rattle.std.specs.BTreeSet.{BTreeSet, contains}
use Rattle.std.proofs.lemmas.Bool.{cases_lt}
use Rattle.desk_rules.specs.declared.history.entry.Instructed.{Instructed}
use Rattle.desk_rules.specs.Opposite.{AreOpposite}
use Rattle.desk_rules.specs.Content.{Content, history_of}
use Rattle.desk_register.specs.Looked.{IsOppositeAt}
use Rattle.memory_register.specs.NumbersByKey.{numbered_cmp}
use Rattle.memory_register.specs.Open.{HasOpen, amount_of, ccy_of, key_of, match_cmp, wanted_key}
use Rattle.memory_register.specs.declared.pairs.match_key.MatchKey.{MatchKey}
use Rattle.desk_rules.proofs.HistoryLemmas.{instruction_at-known}
use Rattle.std.proofs.lemmas.List.{length-map}

differ : (a b : Bool) → a ≢ b → a ≡ not b
differ true true d = absurd (d refl)
differ true false d = refl
differ false true d = refl
differ false false d = absurd (d refl)

-- what is opposite has the key that is wanted
key_of_opposite : (other wanted : Instructed) → AreOpposite other wanted → key_of other ≡ wanted_key wanted
key_of_opposite other wanted o = λ k. record {
  quantity = o.quantity k;
  amount = ap amount_of o.cash k;
  isin = o.isin k;
  day = o.day k;
  sender = sym o.is_named k;
  counterparty = o.names k;
  delivers = differ _ _ o.sides k;
  is_paid = o.payment k;
  kind = o.kind k;
  ccy = ap ccy_of o.cash k;
}

-- so it is found
pub found : (numbers : BTreeSet (MatchKey × ℕ)) (content : Content) (wanted : Instructed) (n : ℕ) → HasOpen numbers content → IsOppositeAt content wanted n
    → contains (numbered_cmp match_cmp) numbers (wanted_key wanted, n) ≡ true
found numbers content wanted n has o =
    subst (λ k. contains (numbered_cmp match_cmp) numbers (k, n) ≡ true) (key_of_opposite o.other wanted o.opposite) (has.each n o.other o.is_other o.unmatched)

module _ (numbers : BTreeSet (MatchKey × ℕ)) (content : Content) (wanted : Instructed) (has : HasOpen numbers content) where
  -- none below the next number
  pub none_below : (from n : ℕ) → ((k : ℕ) → k < from → IsOppositeAt content wanted k → ⊥)
      → ((m : ℕ) → from ≤ m → m < n → contains (numbered_cmp match_cmp) numbers (wanted_key wanted, m) ≡ false) → (k : ℕ) → k < n → IsOppositeAt content wanted k → ⊥
  none_below from n below least k lt o = elim (cases_lt k from) [
    | inl before ↦ below k before o
    | inr ge ↦ let is = found numbers content wanted k has o in let is_not = least k ge lt in let bad = sym is ∙ is_not in cc
  ]

  pub none_at_all : (from : ℕ) → ((k : ℕ) → k < from → IsOppositeAt content wanted k → ⊥)
      → ((m : ℕ) → from ≤ m → contains (numbered_cmp match_cmp) numbers (wanted_key wanted, m) ≡ false) → (k : ℕ) → IsOppositeAt content wanted k → ⊥
  none_at_all from below none k o = elim (cases_lt k from) [
    | inl before ↦ below k before o
    | inr ge ↦ let is = found numbers content wanted k has o in let is_not = none k ge in let bad = sym is ∙ is_not in cc
  ]

  -- none below or at a number
  pub none_to : (n : ℕ) → ((k : ℕ) → k < n → IsOppositeAt content wanted k → ⊥) → (IsOppositeAt content wanted n → ⊥) → (k : ℕ) → k < n + 1 → IsOppositeAt content wanted k → ⊥
  none_to n below here k lt o = elim (cases_lt k n) [
    | inl before ↦ below k before o
    | inr ge ↦ let same : k ≡ n = omega arith in here (subst (IsOppositeAt content wanted) same o)
  ]

  -- none past the last
  pub none_past : (n size : ℕ) → size ≡ length content.register → size ≤ n → ((k : ℕ) → k < n + 1 → IsOppositeAt content wanted k → ⊥) → (k : ℕ) → IsOppositeAt content wanted k → ⊥
  none_past n size is past below k o = elim (cases_lt n k) [
    | inl after ↦
        let known = instruction_at-known (history_of content) k o.other o.is_other in
        let most = known.1 in
        let whole : length (history_of content) ≡ length content.register = length-map content.register (λ kept. kept.entry) in
        absurd (omega arith)
    | inr le ↦ below k (omega arith) o
  ]

-- The next number at a key.
use Rattle.std.proofs.Common.{◌≡◌, ℕ, ◌<◌, ◌≤◌, true, false, refl, ap, ◌∙◌, arith}
use Rattle.std.specs.Ordering.{is_gt, nat_cmp, ordering_reverse}
use Rattle.std.specs.declared.cmp.Ordering.{Ordering}
use Rattle.std.specs.declared.cmp.Ordering.TheVariants.{Less, Equal, Greater}
use Rattle.std.specs.Cmp.{IsTotalOrder}
use Rattle.std.specs.BTreeSet.{BTreeSet, contains}
use Rattle.std.specs.BTreeMap.Range.{IsLeBy}
use Rattle.std.proofs.lemmas.Bool.{false_from_ne_true}
use Rattle.std.proofs.lemmas.Map.Keys.{le_from_not_gt}
use Rattle.memory_register.specs.NumbersByKey.{numbered_cmp}

equal_itself_at : (o : Ordering) → o ≡ ordering_reverse o → o ≡ Equal
equal_itself_at Less e = cc
equal_itself_at Equal e = refl
equal_itself_at Greater e = cc

not_gt_from_le : (i j : ℕ) → i ≤ j → is_gt (nat_cmp i j) ≡ false
not_gt_from_le i j le = grind arith

module _ {K : Type 0} {R : K → K → Ordering} (total : IsTotalOrder R) where
  pub equal_itself : (a : K) → R a a ≡ Equal
  equal_itself a = equal_itself_at (R a a) (total.antisymm a a)

  pub above_start : (key : K) (from m : ℕ) → from ≤ m → IsLeBy (numbered_cmp R) (key, from) (key, m)
  above_start key from m le = rw (equal_itself key) (not_gt_from_le from m le)

  pub none_from : (s : BTreeSet (K × ℕ)) (key : K) (from : ℕ) → ((q : K × ℕ) → IsLeBy (numbered_cmp R) (key, from) q → contains (numbered_cmp R) s q ≡ false)
      → (m : ℕ) → from ≤ m → contains (numbered_cmp R) s (key, m) ≡ false
  none_from s key from none m le = none (key, m) (above_start key from m le)

  pub least_from : (s : BTreeSet (K × ℕ)) (key next : K) (from n : ℕ) → R next key ≡ Equal
      → ((q : K × ℕ) → IsLeBy (numbered_cmp R) (key, from) q → contains (numbered_cmp R) s q ≡ true → IsLeBy (numbered_cmp R) (next, n) q)
      → (m : ℕ) → from ≤ m → m < n → contains (numbered_cmp R) s (key, m) ≡ false
  least_from s key next from n same least m le lt = false_from_ne_true (contains (numbered_cmp R) s (key, m)) (λ there.
      let above = least (key, m) (above_start key from m le) there in
      let at : is_gt (nat_cmp n m) ≡ false = rw same at above in
      let order = le_from_not_gt n m at in
      omega arith)

  other_key : (o : Ordering) (key next : K) (i j m n : ℕ) → R next key ≡ o → (o ≡ Equal → ⊥) → IsLeBy (numbered_cmp R) (key, i) (next, n) → IsLeBy (numbered_cmp R) (next, n) (key, m) → ⊥
  other_key Less key next i j m n is differs low high = let back : R key next ≡ Greater = total.antisymm key next ∙ ap ordering_reverse is in let bad = rw back at low in cc
  other_key Equal key next i j m n is differs low high = differs refl
  other_key Greater key next i j m n is differs low high = let bad = rw is at high in cc

  pub none_at_other : (s : BTreeSet (K × ℕ)) (key next : K) (from n : ℕ) → (R next key ≡ Equal → ⊥) → IsLeBy (numbered_cmp R) (key, from) (next, n)
      → ((q : K × ℕ) → IsLeBy (numbered_cmp R) (key, from) q → contains (numbered_cmp R) s q ≡ true → IsLeBy (numbered_cmp R) (next, n) q)
      → (m : ℕ) → from ≤ m → contains (numbered_cmp R) s (key, m) ≡ false
  none_at_other s key next from n differs low least m le = false_from_ne_true (contains (numbered_cmp R) s (key, m)) (λ there.
      other_key (R next key) key next from from m n refl differs low (least (key, m) (above_start key from m le) there))

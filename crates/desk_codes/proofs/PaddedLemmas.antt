-- Texts with zeros behind them, compared with the zeros.
use Rattle.std.proofs.Common.{◌≡◌, ℕ, zero, suc, ◌-◌, ◌<◌, ◌≤◌, false, true, List, [], ◌∷◌, ◌++◌, length, take, replicate, refl, sym, ap, ◌∙◌, arith, is_gt, nat_cmp, Ordering, Less, Equal, Greater, length-take-le, length-append}
use Rattle.std.specs.Ordering.{is_ne, ordering_then, ordering_reverse}
use Rattle.std.specs.Cmp.Lexicographic.{slice_cmp, nat_list_cmp_total}
use Rattle.std.proofs.lemmas.Bool.Decides.{nat_tests}
use Rattle.std.proofs.lemmas.Cmp.{tied_itself, nat_cmp_total}
use Rattle.std.proofs.lemmas.List.{length-replicate}
use Rattle.desk_codes.specs.ShortText.{IsPadded, padded}
use Rattle.desk_codes.proofs.WordLemmas.{below, then_assoc}

-- zeros are the least text of their length
zeros_least : (n : ℕ) (text : List ℕ) → length text ≡ n → is_gt (slice_cmp nat_cmp (replicate n 0) text) ≡ false
zeros_least zero [] e = refl
zeros_least zero (y ∷ text) e = absurd (omega arith)
zeros_least (suc n) [] e = absurd (omega arith)
zeros_least (suc n) (zero ∷ text) e = zeros_least n text (omega arith)
zeros_least (suc n) (suc y ∷ text) e = ap (λ o. is_gt (ordering_then o (slice_cmp nat_cmp (replicate n 0) text))) (below 0 (suc y) (omega arith))

less_then : (o : Ordering) → is_gt o ≡ false → ordering_then o Less ≡ Less
less_then Less e = refl
less_then Equal e = refl
less_then Greater e = cc

turned_then : (a b : Ordering) → ordering_reverse (ordering_then a b) ≡ ordering_then (ordering_reverse a) (ordering_reverse b)
turned_then Less b = refl
turned_then Equal b = refl
turned_then Greater b = refl

padded_long : (n : ℕ) (text : List ℕ) → length text ≤ n → length (padded n text) ≡ n
padded_long n text le = omega (arith, length-append text (replicate (n - length text) 0), length-replicate {A = ℕ} (n - length text) 0)

padded_none : (n : ℕ) → padded n [] ≡ replicate n 0
padded_none n = ap (λ k. replicate k 0) (omega arith)

padded_more : (n x : ℕ) (text : List ℕ) → padded (suc n) (x ∷ text) ≡ x ∷ padded n text
padded_more n x text = ap (λ k. x ∷ text ++ replicate k 0) (omega arith)

suc_order : (a b : ℕ) → nat_cmp (suc a) (suc b) ≡ nat_cmp a b
suc_order a b = grind (arith, nat_tests)

-- zeros alone stand before a text that is not empty, by its length
none_first : (n : ℕ) (text : List ℕ) → 0 < length text → length text ≤ n → ordering_then (slice_cmp nat_cmp (padded n []) (padded n text)) (nat_cmp 0 (length text)) ≡ Less
none_first n text some p =
    (λ i. ordering_then (slice_cmp nat_cmp (padded_none n i) (padded n text)) (below 0 (length text) some i))
    ∙ less_then (slice_cmp nat_cmp (replicate n 0) (padded n text)) (zeros_least n (padded n text) (padded_long n text p))

-- the order of two texts is that of the texts with zeros behind them, and then of their lengths
pub padded_order : (n : ℕ) (xs ys : List ℕ) → length xs ≤ n → length ys ≤ n → slice_cmp nat_cmp xs ys ≡ ordering_then (slice_cmp nat_cmp (padded n xs) (padded n ys)) (nat_cmp (length xs) (length ys))
padded_order n [] [] p q = sym (λ i. ordering_then (tied_itself nat_list_cmp_total (padded n []) i) (tied_itself nat_cmp_total 0 i))
padded_order n [] (y ∷ ys) p q = sym (none_first n (y ∷ ys) (omega arith) q)
padded_order n (x ∷ xs) [] p q =
    let turned = ap ordering_reverse (none_first n (x ∷ xs) (omega arith) p) in
    sym ((λ i. ordering_then (nat_list_cmp_total.antisymm (padded n (x ∷ xs)) (padded n []) i) (nat_cmp_total.antisymm (length (x ∷ xs)) 0 i))
    ∙ sym (turned_then (slice_cmp nat_cmp (padded n []) (padded n (x ∷ xs))) (nat_cmp 0 (length (x ∷ xs)))) ∙ turned)
padded_order zero (x ∷ xs) (y ∷ ys) p q = absurd (omega arith)
padded_order (suc n) (x ∷ xs) (y ∷ ys) p q =
    ap (ordering_then (nat_cmp x y)) (padded_order n xs ys (omega arith) (omega arith))
    ∙ sym (then_assoc (nat_cmp x y) (slice_cmp nat_cmp (padded n xs) (padded n ys)) (nat_cmp (length xs) (length ys)))
    ∙ sym (λ i. ordering_then (slice_cmp nat_cmp (padded_more n x xs i) (padded_more n y ys i)) (suc_order (length xs) (length ys) i))

unequal_first : (o rest : Ordering) → is_ne o ≡ true → ordering_then o rest ≡ o
unequal_first Less rest e = refl
unequal_first Equal rest e = cc
unequal_first Greater rest e = refl

equal_first : (o rest : Ordering) → is_ne o ≡ false → ordering_then o rest ≡ rest
equal_first Less rest e = cc
equal_first Equal rest e = refl
equal_first Greater rest e = cc

module _ (n : ℕ) (xs ys : List ℕ) (k j : ℕ) (p : IsPadded n xs k) (q : IsPadded n ys j) (order : Ordering) (is : order ≡ slice_cmp nat_cmp xs ys) where
  stored_order : slice_cmp nat_cmp (take k xs) (take j ys) ≡ ordering_then order (nat_cmp k j)
  stored_order =
      let own_length : length (take k xs) ≡ k = length-take-le k xs (omega (arith, p.fits, p.all)) in
      let other_length : length (take j ys) ≡ j = length-take-le j ys (omega (arith, q.fits, q.all)) in
      padded_order n (take k xs) (take j ys) (omega (arith, p.fits)) (omega (arith, q.fits))
      ∙ (λ i. ordering_then (slice_cmp nat_cmp (sym p.zeros i) (sym q.zeros i)) (nat_cmp (own_length i) (other_length i)))
      ∙ ap (λ o. ordering_then o (nat_cmp k j)) (sym is)

  -- arrays that differ order their texts
  pub arrays_decide : is_ne order ≡ true → order ≡ slice_cmp nat_cmp (take k xs) (take j ys)
  arrays_decide e = sym (stored_order ∙ unequal_first order (nat_cmp k j) e)

  -- arrays that are the same leave it to the lengths
  pub lengths_decide : is_ne order ≡ false → nat_cmp k j ≡ slice_cmp nat_cmp (take k xs) (take j ys)
  lengths_decide e = sym (stored_order ∙ equal_first order (nat_cmp k j) e)

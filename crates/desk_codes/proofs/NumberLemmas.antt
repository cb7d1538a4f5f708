-- Splits at the first comma, and numbers by their digits.
use Rattle.std.proofs.Common.{◌≡◌, ◌≢◌, ℕ, ◌<◌, ◌≤◌, ◌+◌, ◌-◌, ◌*◌, ◌^◌, List, [], ◌∷◌, ◌++◌, length, All, take, replicate, fold, get_or, refl, sym, ap, ◌∙◌, arith, lit≤, append_assoc, length-append}
use Rattle.std.proofs.lemmas.List.Elements.{All-head, All-tail, All-weaker, All-append, All-take, All-replicate}
use Rattle.std.proofs.lemmas.List.Sums.{fold_push}
use Rattle.std.proofs.lemmas.List.{length-take, length-replicate, take_more}
use Rattle.std.proofs.Math.Nat.{mul-le-mul_left, pow-succ', pow-le-pow_right}
use Rattle.desk_codes.specs.Characters.{IsDigit}
use Rattle.desk_codes.specs.Number.{IsShaped, number_of}

abbrev pub NoComma : List ℕ → Type 0
NoComma text = All (λ c. c ≢ 44) text

-- a text splits at its first comma in one way
pub same_split : (w v p q : List ℕ) → NoComma w → NoComma v → w ++ 44 ∷ p ≡ v ++ 44 ∷ q → (w ≡ v) × (p ≡ q)
same_split [] [] p q a b e = (refl, cc)
same_split [] (y ∷ v) p q a b e = absurd (All-head (λ c. c ≢ 44) y v b cc)
same_split (x ∷ w) [] p q a b e = absurd (All-head (λ c. c ≢ 44) x w a cc)
same_split (x ∷ w) (y ∷ v) p q a b e =
    let rest = same_split w v p q (All-tail (λ c. c ≢ 44) x w a) (All-tail (λ c. c ≢ 44) y v b) cc in
    let head : x ≡ y = cc in
    (rw (head, rest.0) refl, rest.1)

pub none_to_split : (text w p : List ℕ) → NoComma text → text ≡ w ++ 44 ∷ p → ⊥
none_to_split [] [] p a e = cc
none_to_split [] (y ∷ w) p a e = cc
none_to_split (x ∷ text) [] p a e = All-head (λ c. c ≢ 44) x text a cc
none_to_split (x ∷ text) (y ∷ w) p a e = none_to_split text w p (All-tail (λ c. c ≢ 44) x text a) cc

pub digits_no_comma : (w : List ℕ) → All IsDigit w → NoComma w
digits_no_comma w a = All-weaker IsDigit (λ c. c ≢ 44) (λ c d e. omega arith) w a

-- the split that was found is that of every shape
pub one_shape : (text w p v q : List ℕ) → (text ≡ w ++ 44 ∷ p) × NoComma w → IsShaped text v q → (w ≡ v) × (p ≡ q)
one_shape text w p v q found s = same_split w v p q found.1 (digits_no_comma v s.whole_digits) (sym found.0 ∙ s.split)

-- numbers by their digits

pub number_push : (xs : List ℕ) (c : ℕ) → number_of (xs ++ c ∷ []) ≡ 10 * number_of xs + (c - 48)
number_push xs c = fold_push (λ n d. 10 * n + (d - 48)) 0 xs c

pub number_below_from : (xs : List ℕ) (a : ℕ) → All IsDigit xs → fold (λ n c. 10 * n + (c - 48)) a xs + 1 ≤ 10 ^ length xs * (a + 1)
number_below_from [] a d = omega arith
number_below_from (x ∷ xs) a d =
    let head = All-head IsDigit x xs d in
    let ih = number_below_from xs (10 * a + (x - 48)) (All-tail IsDigit x xs d) in
    let p = 10 ^ length xs in
    let step : p * (10 * a + (x - 48) + 1) ≤ p * (10 * a + 10) = mul-le-mul_left p (omega (arith, head)) in
    rw (pow-succ' 10 (length xs)) (omega (arith, ih, step))

-- digits are below the power of ten with as many zeros
pub number_below : (xs : List ℕ) → All IsDigit xs → number_of xs < 10 ^ length xs
number_below xs d = omega (arith, number_below_from xs 0 d)

-- seventeen digits are below 10 ^ 17
pub number_small : (xs : List ℕ) → All IsDigit xs → length xs ≤ 17 → number_of xs < 10 ^ 17
number_small xs d short =
    let below = number_below_from xs 0 d in
    let most : 10 ^ length xs ≤ 10 ^ 17 = pow-le-pow_right (omega arith) short in
    omega (arith, below, most)

pub more_digits : (whole part : List ℕ) (d k : ℕ) → All IsDigit whole → All IsDigit part → length whole ≤ 14 → d ≤ 3 → k ≤ d → number_of (whole ++ take k (part ++ replicate d 48)) < 10 ^ 17
more_digits whole part d k in_whole in_part short few le =
    let zeros : All IsDigit (replicate d 48) = All-replicate IsDigit d 48 (lit≤ tt, lit≤ tt) in
    number_small (whole ++ take k (part ++ replicate d 48))
    (All-append IsDigit whole _ in_whole (All-take IsDigit k _ (All-append IsDigit part _ in_part zeros)))
    (omega (arith, length-append whole (take k (part ++ replicate d 48)), length-take k (part ++ replicate d 48)))

-- the next digit after the comma, or a zero
pub next_decimal : (whole part : List ℕ) (d k digit : ℕ) → k < d → digit ≡ get_or (part ++ replicate d 48) k 0 - 48 → 10 * number_of (whole ++ take k (part ++ replicate d 48)) + digit ≡ number_of (whole ++ take (k + 1) (part ++ replicate d 48))
next_decimal whole part d k digit lt is =
    let xs = part ++ replicate d 48 in
    let within : k < length xs = omega (arith, length-append part (replicate d 48), length-replicate {A = ℕ} d 48) in
    let split : whole ++ take (k + 1) xs ≡ (whole ++ take k xs) ++ get_or xs k 0 ∷ [] = ap (λ z. whole ++ z) (take_more xs k 0 within) ∙ sym (append_assoc whole (take k xs) (get_or xs k 0 ∷ [])) in
    rw (split, number_push) (ap (λ z. 10 * number_of (whole ++ take k xs) + z) is)

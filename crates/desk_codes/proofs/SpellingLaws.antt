-- A text spells one value, and no text that spells a value is shorter than its written form.
use Rattle.std.proofs.Common.{◌≡◌, ℕ, zero, suc, ◌+◌, ◌-◌, ◌*◌, ◌<◌, ◌≤◌, ◌/◌, ◌%◌, ◌^◌, List, [], ◌∷◌, ◌++◌, All, fold, length, take, replicate, refl, sym, ap, ◌∙◌, subst, lit≤, arith, length-append}
use Rattle.std.specs.Fmt.{decimal}
use Rattle.std.proofs.lemmas.Fmt.{length-decimal-le}
use Rattle.std.proofs.lemmas.List.{length-take, length-replicate}
use Rattle.std.proofs.lemmas.List.Elements.{All-tail, All-append, All-take, All-replicate}
use Rattle.std.proofs.lemmas.List.Sums.{fold-append}
use Rattle.std.proofs.lemmas.Nat.{div_below, div-mul-add, mod-mul-add}
use Rattle.std.proofs.Math.Nat.{pow-succ', one-le-pow, mul-le-mul_left, mul_comm}
use Rattle.std.proofs.Math.Dec.{eqb-suc-zero}
use Rattle.std.proofs.Math.Seq.{take-nil}
use Rattle.desk_codes.specs.Characters.{IsDigit}
use Rattle.desk_codes.specs.Number.{IsShaped, SpellsNumber, number_of, padded_part, fraction, written_number}
use Rattle.desk_codes.proofs.NumberLemmas.{same_split, digits_no_comma, number_below}

-- one more digit, or none at all
fraction_more_len : (d rest n : ℕ) → length (fraction d (rest % 10 ^ d)) ≤ n → length (fraction (suc d) rest) ≤ suc n
fraction_more_len d zero n h = omega arith
fraction_more_len d (suc rest) n h = rw (eqb-suc-zero rest) (omega arith)

whole_fits : (value d : ℕ) → 0 < 10 ^ d → value < 2 ^ 64 → value / 10 ^ d < 2 ^ 64
whole_fits value d some fits =
    let most = mul-le-mul_left (2 ^ 64) some in
    div_below value (10 ^ d) (2 ^ 64) some (omega (arith, most))

-- two shapes of a text are one
same_shape : (text w p v q : List ℕ) → IsShaped text w p → IsShaped text v q → (w ≡ v) × (p ≡ q)
same_shape text w p v q a b =
    same_split w v p q (digits_no_comma w a.whole_digits) (digits_no_comma v b.whole_digits) (sym a.split ∙ b.split)

pub one_value_each : (text : List ℕ) (a b d : ℕ) → SpellsNumber text a d → SpellsNumber text b d → a ≡ b
one_value_each text a b d s t =
    let same = same_shape text s.whole s.part t.whole t.part s.shaped t.shaped in
    s.is ∙ (rw (same.0, same.1) (sym t.is))

shifted_digit : (a c p n r : ℕ) → r ≡ (10 * 0 + c) * p + n → (10 * a + c) * p + n ≡ a * (10 * p) + r
shifted_digit a c p n r e = grind (arith, mul_comm)

-- the number that digits write behind others
number_from : (xs : List ℕ) (a : ℕ) → fold (λ n c. 10 * n + (c - 48)) a xs ≡ a * 10 ^ length xs + number_of xs
number_from [] a = omega arith
number_from (x ∷ xs) a =
    let left = number_from xs (10 * a + (x - 48)) in
    let right = number_from xs (10 * 0 + (x - 48)) in
    rw (pow-succ' 10 (length xs)) (left ∙ shifted_digit a (x - 48) (10 ^ length xs) (number_of xs) _ right)

number-append : (xs ys : List ℕ) → number_of (xs ++ ys) ≡ number_of xs * 10 ^ length ys + number_of ys
number-append xs ys = fold-append (λ n c. 10 * n + (c - 48)) 0 xs ys ∙ number_from ys (number_of xs)

-- zeros write 0
zeros_value : (n k : ℕ) → number_of (take k (replicate n 48)) ≡ 0
zeros_value zero k = rw (take-nil k) refl
zeros_value (suc n) zero = refl
zeros_value (suc n) (suc k) = zeros_value n k

-- a fraction is written with no more digits than it was spelled with
fraction_len : (d m : ℕ) (part : List ℕ) → d ≤ m → All IsDigit part → length (fraction d (number_of (take d (part ++ replicate m 48)))) ≤ length part
fraction_len zero m part le digits = omega arith
fraction_len (suc d) m [] le digits = rw (zeros_value m (suc d)) (omega arith)
fraction_len (suc d) m (c ∷ part) le digits =
    let xs = take d (part ++ replicate m 48) in
    let zeros : All IsDigit (replicate m 48) = All-replicate IsDigit m 48 (lit≤ tt, lit≤ tt) in
    let all : All IsDigit (take d (part ++ replicate m 48)) = All-take IsDigit d _ (All-append IsDigit part _ (All-tail IsDigit c part digits) zeros) in
    let size : length (take d (part ++ replicate m 48)) ≡ d = omega (arith, length-take d (part ++ replicate m 48), length-append part (replicate m 48), length-replicate {A = ℕ} m 48) in
    let below : number_of xs < 10 ^ d = subst (λ k. number_of xs < 10 ^ k) size (number_below xs all) in
    let value : number_of (c ∷ xs) ≡ (10 * 0 + (c - 48)) * 10 ^ d + number_of xs = subst (λ k. number_of (c ∷ xs) ≡ (10 * 0 + (c - 48)) * 10 ^ k + number_of xs) size (number_from xs (10 * 0 + (c - 48))) in
    let rest : number_of (c ∷ xs) % 10 ^ d ≡ number_of xs = ap (λ n. n % 10 ^ d) value ∙ mod-mul-add (10 * 0 + (c - 48)) (10 ^ d) (number_of xs) below in
    let ih = fraction_len d m part (omega arith) (All-tail IsDigit c part digits) in
    fraction_more_len d (number_of (c ∷ xs)) (length part) (rw rest ih)

pub written_shortest : (text : List ℕ) (value d : ℕ) → value < 2 ^ 64 → d ≤ 3 → SpellsNumber text value d → length (written_number value d) ≤ length text
written_shortest text value d fits few s =
    let part = padded_part d s.part in
    let zeros : All IsDigit (replicate d 48) = All-replicate IsDigit d 48 (lit≤ tt, lit≤ tt) in
    let all : All IsDigit (padded_part d s.part) = All-take IsDigit d _ (All-append IsDigit s.part _ s.shaped.part_digits zeros) in
    let size : length (padded_part d s.part) ≡ d = omega (arith, length-take d (s.part ++ replicate d 48), length-append s.part (replicate d 48), length-replicate {A = ℕ} d 48) in
    let below : number_of (padded_part d s.part) < 10 ^ d = subst (λ k. number_of (padded_part d s.part) < 10 ^ k) size (number_below part all) in
    let joined : value ≡ number_of s.whole * 10 ^ d + number_of (padded_part d s.part) = s.is ∙ subst (λ k. number_of (s.whole ++ padded_part d s.part) ≡ number_of s.whole * 10 ^ k + number_of (padded_part d s.part)) size (number-append s.whole part) in
    let whole : value / 10 ^ d ≡ number_of s.whole = ap (λ n. n / 10 ^ d) joined ∙ div-mul-add (number_of s.whole) (10 ^ d) (number_of part) below in
    let rest : value % 10 ^ d ≡ number_of (padded_part d s.part) = ap (λ n. n % 10 ^ d) joined ∙ mod-mul-add (number_of s.whole) (10 ^ d) (number_of part) below in
    let some : 0 < 10 ^ d = one-le-pow d 10 (omega arith) in
    let less : value / 10 ^ d < 2 ^ 64 = whole_fits value d some fits in
    let short : length (decimal (value / 10 ^ d)) ≤ length s.whole = length-decimal-le (length s.whole) (value / 10 ^ d) s.shaped.some (rw whole (number_below s.whole s.shaped.whole_digits)) less in
    let fraction_short : length (fraction d (value % 10 ^ d)) ≤ length s.part = rw rest (fraction_len d d s.part (omega arith) s.shaped.part_digits) in
    let split = ap (length {A = ℕ}) s.shaped.split in
    omega (arith, short, fraction_short, split, length-append (decimal (value / 10 ^ d)) (44 ∷ fraction d (value % 10 ^ d)), length-append s.whole (44 ∷ s.part))

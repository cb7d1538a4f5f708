-- A number whose written form has at most 15 characters is small.
use Rattle.std.proofs.Common.{◌≡◌, ℕ, zero, suc, ◌+◌, ◌*◌, ◌/◌, ◌%◌, ◌^◌, ◌<◌, ◌≤◌, [], ◌∷◌, ◌++◌, length, refl, arith, length-append, add-one}
use Rattle.std.specs.Fmt.{decimal}
use Rattle.std.proofs.lemmas.Fmt.{decimal_by_steps}
use Rattle.std.proofs.Math.Nat.{pow-succ', pow-le-pow_right}
use Rattle.desk_codes.specs.declared.currency.Ccy.{Ccy}
use Rattle.desk_codes.proofs.CurrencyLemmas.{few_decimals}
use Rattle.desk_codes.specs.Currency.{decimals_of}
use Rattle.desk_codes.specs.Number.{written_number, fraction}

digits_step : (m l k : ℕ) → k ≡ l + 1 → m / 10 < 10 ^ l → m < 10 ^ k
digits_step m l k is below = let e : 10 ^ k ≡ 10 * 10 ^ l = rw (is, add-one, pow-succ') refl in omega arith

-- n has as many digits as it needs
digits_bound : (n : ℕ) → n < 2 ^ 64 → n < 10 ^ length (decimal n)
digits_bound n small = decimal_by_steps (λ m ds. m < 10 ^ length ds) (λ m lt. lt) (λ m ds big below. digits_step m (length ds) (length (ds ++ ((48 + m % 10) ∷ []))) (length-append ds ((48 + m % 10) ∷ [])) below) n small

whole_digits : (v d : ℕ) → length (written_number v d) ≤ 15 → length (decimal (v / 10 ^ d)) ≤ 14
whole_digits v d short = omega (arith, length-append (decimal (v / 10 ^ d)) (44 ∷ fraction d (v % 10 ^ d)))

whole_bound : (n k : ℕ) → n < 2 ^ 64 → length (decimal n) ≤ k → n < 10 ^ k
whole_bound n k small short = let some : 0 < 10 = omega arith in let le : 10 ^ length (decimal n) ≤ 10 ^ k = pow-le-pow_right some short in let lt = digits_bound n small in omega arith

short_whole : (v : ℕ) → v < 2 ^ 64 → length (written_number v 0) ≤ 15 → v ≤ 10 ^ 18
short_whole v small short =
    let same : v / 10 ^ 0 ≡ v = omega arith in
    let lt : v / 10 ^ 0 < 10 ^ 14 = whole_bound (v / 10 ^ 0) 14 (omega arith) (whole_digits v 0 short) in
    omega arith

short_tenths : (v : ℕ) → v < 2 ^ 64 → length (written_number v 1) ≤ 15 → v ≤ 10 ^ 18
short_tenths v small short =
    let lt : v / 10 ^ 1 < 10 ^ 14 = whole_bound (v / 10 ^ 1) 14 (omega arith) (whole_digits v 1 short) in
    omega arith

short_cents : (v : ℕ) → v < 2 ^ 64 → length (written_number v 2) ≤ 15 → v ≤ 10 ^ 18
short_cents v small short =
    let lt : v / 10 ^ 2 < 10 ^ 14 = whole_bound (v / 10 ^ 2) 14 (omega arith) (whole_digits v 2 short) in
    omega arith

short_thousandths : (v : ℕ) → v < 2 ^ 64 → length (written_number v 3) ≤ 15 → v ≤ 10 ^ 18
short_thousandths v small short =
    let lt : v / 10 ^ 3 < 10 ^ 14 = whole_bound (v / 10 ^ 3) 14 (omega arith) (whole_digits v 3 short) in
    omega arith

pub short_quantity : (v : ℕ) → v < 2 ^ 64 → length (written_number v 0) ≤ 15 → v ≤ 10 ^ 18
short_quantity = short_whole

short_number : (d : ℕ) (v : ℕ) → d ≤ 3 → v < 2 ^ 64 → length (written_number v d) ≤ 15 → v ≤ 10 ^ 18
short_number zero v few small short = short_whole v small short
short_number (suc zero) v few small short = short_tenths v small short
short_number (suc (suc zero)) v few small short = short_cents v small short
short_number (suc (suc (suc zero))) v few small short = short_thousandths v small short
short_number (suc (suc (suc (suc d)))) v few small short = absurd (omega arith)

pub short_amount : (ccy : Ccy) (v : ℕ) → v < 2 ^ 64 → length (written_number v (decimals_of ccy)) ≤ 15 → v ≤ 10 ^ 18
short_amount ccy v small short = short_number (decimals_of ccy) v (few_decimals ccy) small short

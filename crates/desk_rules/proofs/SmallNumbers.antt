-- A number with a short written form is small.
use Rattle.std.proofs.Common.{◌≡◌, ℕ, zero, suc, ◌+◌, ◌<◌, ◌≤◌, ◌/◌, ◌%◌, ◌^◌, Bool, false, if◌then◌else◌, List, [], ◌∷◌, ◌++◌, length, inl, inr, arith, length-append, ap}
use Rattle.std.proofs.lemmas.Bool.{cases_lt, eq-eqb, ne_eqb}
use Rattle.std.proofs.Math.Nat.{pow-succ', one-le-pow}
use Rattle.std.specs.Fmt.{decimal, digits, digits_onto, digit_glyph}
use Rattle.desk_codes.specs.Number.{written_number}

onto_last : (k n : ℕ) (behind : List ℕ) → n < 10 → digits_onto (suc k) 10 false n behind ≡ digit_glyph false (n % 10) ∷ behind
onto_last k n behind small = ap (λ (t : Bool). if t then digit_glyph false (n % 10) ∷ behind else digits_onto k 10 false (n / 10) (digit_glyph false (n % 10) ∷ behind)) (eq-eqb (n / 10) 0 (omega arith))

onto_next : (k n : ℕ) (behind : List ℕ) → 10 ≤ n → digits_onto (suc k) 10 false n behind ≡ digits_onto k 10 false (n / 10) (digit_glyph false (n % 10) ∷ behind)
onto_next k n behind more = ap (λ (t : Bool). if t then digit_glyph false (n % 10) ∷ behind else digits_onto k 10 false (n / 10) (digit_glyph false (n % 10) ∷ behind)) (ne_eqb (n / 10) 0 (λ e. omega arith))

-- no digit is lost of what they are written before
grows : (k n : ℕ) (behind : List ℕ) → length behind ≤ length (digits_onto k 10 false n behind)
grows zero n behind = omega arith
grows (suc k) n behind = elim (cases_lt n 10) [
  | inl small ↦ omega (arith, ap length (onto_last k n behind small))
  | inr more ↦ omega (arith, ap length (onto_next k n behind more), grows k (n / 10) (digit_glyph false (n % 10) ∷ behind))
]

-- as long as a number has fewer digits than are written at most, it is as small as their count says
short_onto : (k j n : ℕ) (behind : List ℕ) → j < k → length (digits_onto k 10 false n behind) ≤ j + length behind → n < 10 ^ j
short_onto zero j n behind lt short = absurd (omega arith)
short_onto (suc k) zero n behind lt short = elim (cases_lt n 10) [
  | inl small ↦ absurd (omega (arith, ap length (onto_last k n behind small)))
  | inr more ↦ absurd (omega (arith, ap length (onto_next k n behind more), grows k (n / 10) (digit_glyph false (n % 10) ∷ behind)))
]
short_onto (suc k) (suc j) n behind lt short = elim (cases_lt n 10) [
  | inl small ↦ let some : 0 < 10 ^ j = one-le-pow j 10 (omega arith) in rw (pow-succ' 10 j) (omega arith)
  | inr more ↦
      let h : n / 10 < 10 ^ j = short_onto k j (n / 10) (digit_glyph false (n % 10) ∷ behind) (omega arith) (omega (arith, ap length (onto_next k n behind more))) in
      rw (pow-succ' 10 j) (omega arith)
]

-- a number of so few digits
short_decimal : (n : ℕ) → length (decimal n) ≤ 14 → n < 10 ^ 14
unfolding digits
short_decimal n short = short_onto 64 14 n [] (omega arith) short

whole_short : (whole part : List ℕ) → length (whole ++ 44 ∷ part) ≤ 15 → length whole ≤ 14
whole_short whole part short = omega (arith, length-append whole (44 ∷ part))

pub short_is_small : (value d : ℕ) → d ≤ 3 → length (written_number value d) ≤ 15 → value < 2 ^ 64
short_is_small value zero few short = let h = short_decimal (value / 1) (whole_short _ _ short) in omega arith
short_is_small value (suc zero) few short = let h = short_decimal (value / 10) (whole_short _ _ short) in omega arith
short_is_small value (suc (suc zero)) few short = let h = short_decimal (value / 100) (whole_short _ _ short) in omega arith
short_is_small value (suc (suc (suc zero))) few short = let h = short_decimal (value / 1000) (whole_short _ _ short) in omega arith
short_is_small value (suc (suc (suc (suc d)))) few short = absurd (omega arith)

-- The written form of a value spells it.
use Rattle.std.proofs.Common.{◌≡◌, ℕ, zero, suc, ◌+◌, ◌-◌, ◌*◌, ◌<◌, ◌≤◌, ◌/◌, ◌%◌, ◌^◌, List, [], ◌++◌, All, fold, length, take, replicate, refl, sym, ap, ◌∙◌, arith}
use Rattle.std.specs.Fmt.{decimal}
use Rattle.std.proofs.lemmas.Fmt.{decimal_by_steps}
use Rattle.std.proofs.lemmas.Grind.{common_steps}
use Rattle.std.proofs.lemmas.List.Elements.{All-cons, All-nil, All-push}
use Rattle.std.proofs.lemmas.List.Sums.{fold-append}
use Rattle.std.proofs.lemmas.Nat.{mod_below, div_below}
use Rattle.std.proofs.Math.Nat.{pow-succ', one-le-pow, div-add-mod, mul-le-mul_left, mul_comm}
use Rattle.desk_codes.specs.Characters.{IsDigit}
use Rattle.desk_codes.specs.Number.{SpellsNumber, number_of, padded_part}
use Rattle.desk_codes.specs.Number.{fraction, written_number}
use Rattle.desk_codes.proofs.NumberLemmas.{number_push}
use Rattle.desk_codes.proofs.PlainLemmas.{fraction_none}
use Rattle.std.proofs.Math.Dec.{eqb-suc-zero}
use Rattle.std.proofs.lemmas.List.{drop_all}

-- the digits of a whole number write it
record WritesWhole (n : ℕ) (digits : List ℕ) : Type 0 where
  value : number_of digits ≡ n
  digits_only : All IsDigit digits
  some : 0 < length digits

whole_written : (n : ℕ) → n < 2 ^ 64 → WritesWhole n (decimal n)
whole_written n fits = decimal_by_steps WritesWhole
    (λ m lt. record { value = omega arith; digits_only = All-cons IsDigit (48 + m) [] (omega arith, omega arith) (All-nil IsDigit); some = omega arith })
    (λ m ds ge w. let v = w.value in let below = mod_below m 10 (omega arith) in record {
      value = number_push ds (48 + m % 10) ∙ omega arith;
      digits_only = All-push IsDigit ds (48 + m % 10) w.digits_only (omega arith, omega arith);
      some = grind (arith, common_steps);
    })
    n fits

shifted : (a p q r n : ℕ) → p * q + r ≡ n → (10 * a + (48 + q - 48)) * p + r ≡ a * (10 * p) + n
shifted a p q r n e = let same : 48 + q - 48 ≡ q = omega arith in rw same (grind (arith, mul_comm))

-- zeros and the digits of a fraction go on from a number
fraction_value : (d m rest a : ℕ) → d ≤ m → rest < 10 ^ d → fold (λ n c. 10 * n + (c - 48)) a (take d (fraction d rest ++ replicate m 48)) ≡ a * 10 ^ d + rest
fraction_value zero m rest a le lt = omega arith
fraction_value (suc d) zero rest a le lt = absurd (omega arith)
fraction_value (suc d) (suc m) zero a le lt =
    let ih = fraction_value d m 0 (10 * a + 0) (omega arith) (one-le-pow d 10 (omega arith)) in
    let ih' = rw (fraction_none d 0 refl) at ih in
    rw (pow-succ' 10 d) (ih' ∙ omega arith)
fraction_value (suc d) (suc m) (suc rest) a le lt =
    let p : ℕ = 10 ^ d in
    let some : 0 < 10 ^ d = one-le-pow d 10 (omega arith) in
    let whole = div-add-mod (suc rest) (10 ^ d) in
    let ih = fraction_value d (suc m) (suc rest % 10 ^ d) (10 * a + (48 + suc rest / 10 ^ d - 48)) (omega arith) (mod_below (suc rest) (10 ^ d) some) in
    rw (eqb-suc-zero rest, pow-succ' 10 d) (ih ∙ shifted a (10 ^ d) (suc rest / 10 ^ d) (suc rest % 10 ^ d) (suc rest) whole)

fraction_digits : (d rest : ℕ) → rest < 10 ^ d → All IsDigit (fraction d rest)
fraction_digits zero rest lt = All-nil IsDigit
fraction_digits (suc d) zero lt = All-nil IsDigit
fraction_digits (suc d) (suc rest) lt =
    let some : 0 < 10 ^ d = one-le-pow d 10 (omega arith) in
    let q = suc rest / 10 ^ d in
    let small : suc rest / 10 ^ d < 10 = div_below (suc rest) (10 ^ d) 10 some (rw (pow-succ' 10 d) at lt) in
    rw (eqb-suc-zero rest) (All-cons IsDigit (48 + q) _ (omega arith, omega arith) (fraction_digits d (suc rest % 10 ^ d) (mod_below (suc rest) (10 ^ d) some)))

fraction_short : (d rest : ℕ) → length (fraction d rest) ≤ d
fraction_short zero rest = omega arith
fraction_short (suc d) zero = omega arith
fraction_short (suc d) (suc rest) = rw (eqb-suc-zero rest) (let h = fraction_short d (suc rest % 10 ^ d) in omega arith)

-- The written form of a value spells it.
pub written_spells : (value d : ℕ) → value < 2 ^ 64 → d ≤ 3 → SpellsNumber (written_number value d) value d
written_spells value d fits few =
    let one = 10 ^ d in
    let some : 0 < 10 ^ d = one-le-pow d 10 (omega arith) in
    let whole = value / 10 ^ d in
    let rest = value % 10 ^ d in
    let small = mod_below value (10 ^ d) some in
    let joined = div-add-mod value (10 ^ d) in
    let most = mul-le-mul_left (2 ^ 64) some in
    let less : value / 10 ^ d < 2 ^ 64 = div_below value (10 ^ d) (2 ^ 64) some (omega (arith, most)) in
    let w = whole_written whole less in
    record {
      whole = decimal whole;
      part = fraction d rest;
      shaped = record { split = refl; some = w.some; whole_digits = w.digits_only; part_digits = fraction_digits d rest small };
      exact = let short = fraction_short d rest in rw (drop_all d (fraction d rest) short) (All-nil (λ c. c ≡ 48));
      is = sym (
          fold-append (λ n c. 10 * n + (c - 48)) 0 (decimal whole) (padded_part d (fraction d rest))
          ∙ ap (λ n. fold (λ m c. 10 * m + (c - 48)) n (padded_part d (fraction d rest))) w.value
          ∙ fraction_value d d rest whole (omega arith) small
          ∙ omega (arith, joined));
    }

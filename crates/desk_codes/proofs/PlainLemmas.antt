-- The digits of a fraction, one after another.
use Rattle.std.proofs.Common.{◌≡◌, ◌≢◌, ℕ, zero, suc, ◌+◌, ◌-◌, ◌<◌, ◌/◌, ◌%◌, ◌^◌, false, eqb, List, [], ◌∷◌, ◌++◌, refl, sym, ap, ◌∙◌, arith, append_assoc, append-nil}
use Rattle.std.proofs.lemmas.Bool.Decides.{nat_tests}
use Rattle.desk_codes.specs.Number.{fraction}

pub fraction_none : (d rest : ℕ) → rest ≡ 0 → fraction d rest ≡ []
fraction_none zero rest e = refl
fraction_none (suc d) rest e = rw e refl

pub fraction_end : (text all : List ℕ) (d rest : ℕ) → rest ≡ 0 → text ++ fraction d rest ≡ all → text ≡ all
fraction_end text all d rest e is = sym (append-nil text) ∙ ap (λ z. text ++ z) (sym (fraction_none d rest e)) ∙ is

fraction_more : (text all : List ℕ) (d rest : ℕ) → rest ≢ 0 → text ++ fraction (suc d) rest ≡ all → (text ++ (48 + rest / 10 ^ d) ∷ []) ++ fraction d (rest % 10 ^ d) ≡ all
fraction_more text all d rest some is =
    let test : eqb rest 0 ≡ false = grind (arith, nat_tests) in
    append_assoc text ((48 + rest / 10 ^ d) ∷ []) (fraction d (rest % 10 ^ d)) ∙ (rw test at is)

pub fraction_step : (text all : List ℕ) (place rest : ℕ) → 0 < place → rest ≢ 0 → text ++ fraction place rest ≡ all → (text ++ (48 + rest / 10 ^ (place - 1)) ∷ []) ++ fraction (place - 1) (rest % 10 ^ (place - 1)) ≡ all
fraction_step text all zero rest lt some is = absurd (omega arith)
fraction_step text all (suc d) rest lt some is =
    let same : suc d - 1 ≡ d = omega arith in rw same (fraction_more text all d rest some is)

-- Values of one line.
use Rattle.std.proofs.Common.{◌≡◌, ℕ, zero, suc, ◌+◌, ◌<◌, ◌≤◌, ◌/◌, ◌%◌, true, ◌&&◌, List, [], ◌∷◌, All, refl, sym, ◌∙◌, ap, arith}
use Rattle.std.specs.List.{list_all}
use Rattle.std.proofs.lemmas.List.Folds.{list_all-append}
use Rattle.std.proofs.lemmas.List.Elements.{All-head, All-tail}
use Rattle.std.proofs.lemmas.Bool.Decides.{nat_tests}
use Rattle.desk_codes.specs.Characters.{IsPrintable}
use Rattle.desk_text.specs.BlockGrammar.{is_printable}
use Rattle.desk_msg.specs.OwnText.{last_digits}

printable_by : (c : ℕ) → 32 ≤ c → c ≤ 126 → is_printable c ≡ true
printable_by c low high = grind (arith, nat_tests)

digit-printable : (d : ℕ) → d < 10 → list_all is_printable ((48 + d) ∷ []) ≡ true
digit-printable d h = ap (λ b. b && true) (printable_by (48 + d) (omega arith) (omega arith))

-- so many digits are printable
pub digits-printable : (k n : ℕ) → list_all is_printable (last_digits k n) ≡ true
unfolding last_digits
digits-printable zero n = refl
digits-printable (suc k) n =
    list_all-append is_printable (last_digits k (n / 10)) ((48 + n % 10) ∷ [])
    ∙ ap (λ b. b && list_all is_printable ((48 + n % 10) ∷ [])) (digits-printable k (n / 10))
    ∙ digit-printable (n % 10) (omega arith)

-- the two digits of a number below 100
pub two_digits : (n : ℕ) → n ≤ 99 → (48 + n / 10) ∷ (48 + n % 10) ∷ [] ≡ last_digits 2 n
unfolding last_digits
two_digits n h = let small : n / 10 % 10 ≡ n / 10 = omega arith in ap (λ d. (48 + d) ∷ (48 + n % 10) ∷ []) (sym small)

pub printable_text : (text : List ℕ) → All IsPrintable text → list_all is_printable text ≡ true
printable_text [] all = refl
printable_text (c ∷ text) all =
    let first = All-head IsPrintable c text all in
    ap (λ b. b && list_all is_printable text) (printable_by c first.0 first.1) ∙ printable_text text (All-tail IsPrintable c text all)

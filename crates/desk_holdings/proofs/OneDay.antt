-- A statement has one day: as many digits that write the same number are the same digits.
use Rattle.std.proofs.Common.{◌≡◌, ℕ, ◌+◌, ◌-◌, ◌*◌, List, [], ◌∷◌, length, All, fold, Option, Some, None, refl, sym, ◌∙◌, arith}
use Rattle.std.proofs.lemmas.List.Elements.{All-head, All-tail}
use Rattle.desk_codes.specs.Characters.{IsDigit}
use Rattle.desk_holdings.specs.Statement.{IsStatementDay}

same_digits : (xs ys : List ℕ) (a b : ℕ) → length xs ≡ length ys → All IsDigit xs → All IsDigit ys
    → fold (λ n c. 10 * n + (c - 48)) a xs ≡ fold (λ n c. 10 * n + (c - 48)) b ys → (a ≡ b) × (xs ≡ ys)
same_digits [] [] a b len dx dy e = (e, refl)
same_digits [] (y ∷ ys) a b len dx dy e = absurd (omega arith)
same_digits (x ∷ xs) [] a b len dx dy e = absurd (omega arith)
same_digits (x ∷ xs) (y ∷ ys) a b len dx dy e =
    let hx = All-head IsDigit x xs dx in
    let hy = All-head IsDigit y ys dy in
    let rest = same_digits xs ys (10 * a + (x - 48)) (10 * b + (y - 48)) (omega arith) (All-tail IsDigit x xs dx) (All-tail IsDigit y ys dy) e in
    let last = rest.0 in
    let same : x ≡ y = omega arith in
    let front : a ≡ b = omega arith in
    (front, rw (same, rest.1) refl)

pub one_day : (run : Option ℕ) (a b : List ℕ) → IsStatementDay run a → IsStatementDay run b → a ≡ b
one_day None a b x y = x ∙ sym y
one_day (Some n) a b x y = (same_digits a b 0 0 (x.0.len ∙ sym y.0.len) x.0.digits y.0.digits (x.1 ∙ sym y.1)).1

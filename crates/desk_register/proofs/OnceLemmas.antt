-- Sums over texts, each of which stands once.
use Rattle.std.proofs.Common.{◌≡◌, ℕ, ◌+◌, Bool, true, false, List, [], ◌∷◌, refl, arith}
use Rattle.std.specs.Prelude.{◌&&◌, bytes_eq, if◌then◌else◌, sum_by}
use Rattle.std.proofs.lemmas.List.Sums.{sum_by-cons}
use Rattle.desk_rules.specs.Balances.{quantity_if}
use Rattle.desk_rules.proofs.BalanceLemmas.{sum_same}
use Rattle.desk_rules.proofs.Conservation.{if_false, if_true, sum_add}
use Rattle.desk_register.proofs.CaseLemmas.{by_bool}
use Rattle.desk_register.specs.RegisteredOnce.{times_in}

-- what stands at one text is found in all not at all, where the text does not stand there, and once, where it stands once

sum_never : (x : List ℕ) (n : ℕ) (xs : List (List ℕ)) → times_in xs x ≡ 0 → sum_by (λ y. quantity_if (bytes_eq x y) n) xs ≡ 0
sum_never x n [] e = refl
sum_never x n (y ∷ xs) e =
    let a = sum_by-cons (λ z. quantity_if (bytes_eq x z) n) y xs in
    let b = sum_by-cons (λ z. quantity_if (bytes_eq x z) 1) y xs in
    by_bool (bytes_eq x y)
    (λ t. let one : quantity_if (bytes_eq x y) 1 ≡ 1 = if_true (bytes_eq x y) 1 t in absurd (omega arith))
    (λ f.
    let here : quantity_if (bytes_eq x y) n ≡ 0 = if_false (bytes_eq x y) n f in
    let none : quantity_if (bytes_eq x y) 1 ≡ 0 = if_false (bytes_eq x y) 1 f in
    let rest = sum_never x n xs (omega arith) in
    omega arith)

sum_once : (x : List ℕ) (n : ℕ) (xs : List (List ℕ)) → times_in xs x ≡ 1 → sum_by (λ y. quantity_if (bytes_eq x y) n) xs ≡ n
sum_once x n [] e = absurd (omega arith)
sum_once x n (y ∷ xs) e =
    let a = sum_by-cons (λ z. quantity_if (bytes_eq x z) n) y xs in
    let b = sum_by-cons (λ z. quantity_if (bytes_eq x z) 1) y xs in
    by_bool (bytes_eq x y)
    (λ t.
    let here : quantity_if (bytes_eq x y) n ≡ n = if_true (bytes_eq x y) n t in
    let one : quantity_if (bytes_eq x y) 1 ≡ 1 = if_true (bytes_eq x y) 1 t in
    let rest = sum_never x n xs (omega arith) in
    omega arith)
    (λ f.
    let here : quantity_if (bytes_eq x y) n ≡ 0 = if_false (bytes_eq x y) n f in
    let none : quantity_if (bytes_eq x y) 1 ≡ 0 = if_false (bytes_eq x y) 1 f in
    let rest = sum_once x n xs (omega arith) in
    omega arith)

-- a sum over texts that changes at one that stands once
module _ (xs : List (List ℕ)) (x : List ℕ) (q : ℕ) (f g : List ℕ → ℕ) (once : times_in xs x ≡ 1) where
  pub sum_with_more : ((y : List ℕ) → g y ≡ f y + quantity_if (bytes_eq x y) q) → sum_by g xs ≡ sum_by f xs + q
  sum_with_more each =
      let same = sum_same g (λ y. f y + quantity_if (bytes_eq x y) q) xs (λ y i. each y) in
      let both = sum_add f (λ y. quantity_if (bytes_eq x y) q) xs in
      let here = sum_once x q xs once in
      omega arith

  pub sum_with_less : ((y : List ℕ) → g y + quantity_if (bytes_eq x y) q ≡ f y) → sum_by g xs + q ≡ sum_by f xs
  sum_with_less each =
      let same = sum_same (λ y. g y + quantity_if (bytes_eq x y) q) f xs (λ y i. each y) in
      let both = sum_add g (λ y. quantity_if (bytes_eq x y) q) xs in
      let here = sum_once x q xs once in
      omega arith

-- one of two tests holds of no other
module _ (old new q : ℕ) where
  pub more_at : (a b : Bool) → (a ≡ true → b ≡ true → new ≡ old + q) → (if a && b then new else old) ≡ old + quantity_if a (quantity_if b q)
  more_at true true is = is refl refl
  more_at true false is = omega arith
  more_at false b is = omega arith

  pub less_at : (a b : Bool) → (a ≡ true → b ≡ true → new + q ≡ old) → (if a && b then new else old) + quantity_if a (quantity_if b q) ≡ old
  less_at true true is = is refl refl
  less_at true false is = omega arith
  less_at false b is = omega arith

-- The first entries of a history, one more and all.
use Rattle.std.proofs.Common.{◌≡◌, ℕ, zero, suc, ◌+◌, ◌≤◌, List, [], ◌∷◌, ◌++◌, length, take, slice_get, Option, None, Some, refl, sym, ap, subst, ◌∙◌, arith, add-one}
use Rattle.desk_rules.specs.declared.history.entry.Entry.{Entry}
use Rattle.desk_rules.specs.History.{entry_at}

take_next : (xs : List Entry) (n : ℕ) (e : Entry) → slice_get xs n ≡ Some e → take n xs ++ e ∷ [] ≡ take (suc n) xs
take_next [] zero e is = absurd (cc)
take_next [] (suc n) e is = absurd (cc)
take_next (x ∷ xs) zero e is = let same : e ≡ x = cc in ap (λ y. y ∷ []) same
take_next (x ∷ xs) (suc n) e is = ap (λ ys. x ∷ ys) (take_next xs n e is)

pub one_more : (xs ys : List Entry) (n : ℕ) (found : Option Entry) (e : Entry) → ys ≡ take n xs → found ≡ entry_at xs (n + 1) → found ≡ Some e → ys ++ e ∷ [] ≡ take (n + 1) xs
one_more xs ys n found e so_far at is =
    let here : slice_get xs n ≡ Some e = sym (ap (entry_at xs) (add-one n)) ∙ sym at ∙ is in
    ap (λ zs. zs ++ e ∷ []) so_far ∙ take_next xs n e here ∙ ap (λ k. take k xs) (sym (add-one n))

past : (xs : List Entry) (n : ℕ) → slice_get xs n ≡ None → length xs ≤ n
past [] n is = omega arith
past (x ∷ xs) zero is = absurd (cc)
past (x ∷ xs) (suc n) is = let rest = past xs n is in omega (arith, rest)

pub no_more : (xs : List Entry) (n : ℕ) (found : Option Entry) → found ≡ entry_at xs (n + 1) → found ≡ None → length xs ≤ n
no_more xs n found at is = past xs n (sym (ap (entry_at xs) (add-one n)) ∙ sym at ∙ is)

pub take_whole : (xs : List Entry) (n : ℕ) → length xs ≤ n → take n xs ≡ xs
take_whole [] zero le = refl
take_whole [] (suc n) le = refl
take_whole (x ∷ xs) zero le = absurd (omega (arith, le))
take_whole (x ∷ xs) (suc n) le = ap (λ ys. x ∷ ys) (take_whole xs n (omega (arith, le)))

-- What has the number of the k-th of which a test holds.
use Rattle.std.proofs.Common.{◌≡◌, ℕ, zero, suc, ◌+◌, ◌≤◌, Bool, List, [], ◌∷◌, map, Some, None, refl, sym, ◌∙◌, arith}
use Rattle.std.specs.Prelude.{filter, slice_get}
use Rattle.desk_rules.specs.declared.answers.reply.Sent.{Sent}
use Rattle.desk_rules.specs.Questions.{sent_at}
use Rattle.memory_register.specs.FirstNumbers.{nth_from, nth_number}
use Rattle.desk_register.proofs.CaseLemmas.{by_bool}

nth_least : {X : Type 0} (n k : ℕ) (t : X → Bool) (xs : List X) (m : ℕ) → nth_from n t k xs ≡ Some m → n ≤ m
nth_least n k t [] m e = cc
nth_least n zero t (x ∷ xs) m e = by_bool (t x)
    (λ here. let at : n ≡ m = let f = rw here at e in cc in omega arith)
    (λ other. let later = nth_least (n + 1) zero t xs m (rw other at e) in omega arith)
nth_least n (suc k) t (x ∷ xs) m e = by_bool (t x)
    (λ here. let later = nth_least (n + 1) k t xs m (rw here at e) in omega arith)
    (λ other. let later = nth_least (n + 1) (suc k) t xs m (rw other at e) in omega arith)

-- What a list has at the number.

none_at : {X : Type 0} (n k : ℕ) (t : X → Bool) (xs : List X) → nth_from n t k xs ≡ None → slice_get (filter t xs) k ≡ None
none_at n k t [] e = refl
none_at n zero t (x ∷ xs) e = by_bool (t x)
    (λ here. absurd (let bad = rw here at e in cc))
    (λ other. rw other (none_at (n + 1) zero t xs (rw other at e)))
none_at n (suc k) t (x ∷ xs) e = by_bool (t x)
    (λ here. rw here (none_at (n + 1) k t xs (rw here at e)))
    (λ other. rw other (none_at (n + 1) (suc k) t xs (rw other at e)))

some_at : {X : Type 0} (n k m i : ℕ) (t : X → Bool) (xs : List X) → nth_from n t k xs ≡ Some m → m ≡ n + i → slice_get (filter t xs) k ≡ slice_get xs i
some_at n k m i t [] e is = absurd (let bad = e in cc)
some_at n zero m zero t (x ∷ xs) e is = by_bool (t x)
    (λ here. rw here refl)
    (λ other. let later = nth_least (n + 1) zero t xs m (rw other at e) in absurd (omega arith))
some_at n zero m (suc i) t (x ∷ xs) e is = by_bool (t x)
    (λ here. let at : n ≡ m = let f = rw here at e in cc in absurd (omega arith))
    (λ other. rw other (some_at (n + 1) zero m i t xs (rw other at e) (omega arith)))
some_at n (suc k) m zero t (x ∷ xs) e is = by_bool (t x)
    (λ here. let later = nth_least (n + 1) k t xs m (rw here at e) in absurd (omega arith))
    (λ other. let later = nth_least (n + 1) (suc k) t xs m (rw other at e) in absurd (omega arith))
some_at n (suc k) m (suc i) t (x ∷ xs) e is = by_bool (t x)
    (λ here. rw here (some_at (n + 1) k m i t xs (rw here at e) (omega arith)))
    (λ other. rw other (some_at (n + 1) (suc k) m i t xs (rw other at e) (omega arith)))

nth_map_from : {A B : Type 0} (f : A → B) (n k : ℕ) (t : B → Bool) (xs : List A) → nth_from n t k (map f xs) ≡ nth_from n (λ x. t (f x)) k xs
nth_map_from f n k t [] = refl
nth_map_from f n zero t (x ∷ xs) = by_bool (t (f x)) (λ here. rw here refl) (λ other. rw other (nth_map_from f (n + 1) zero t xs))
nth_map_from f n (suc k) t (x ∷ xs) = by_bool (t (f x)) (λ here. rw here (nth_map_from f (n + 1) k t xs)) (λ other. rw other (nth_map_from f (n + 1) (suc k) t xs))

nth_map : {A B : Type 0} (f : A → B) (k : ℕ) (t : B → Bool) (xs : List A) → nth_number t k (map f xs) ≡ nth_number (λ x. t (f x)) k xs
nth_map f zero t xs = refl
nth_map f (suc k) t xs = nth_map_from f 1 k t xs

module _ {B : Type 0} (f : Sent → B) (t : B → Bool) (sent : List Sent) (k : ℕ) where
  -- with no k-th number there is no k-th message
  pub no_message : nth_number t k (map f sent) ≡ None → sent_at (filter (λ x. t (f x)) sent) k ≡ None
  no_message e = by_number k (sym (nth_map f k t sent) ∙ e)
    where
      by_number : (j : ℕ) → nth_number (λ x. t (f x)) j sent ≡ None → sent_at (filter (λ x. t (f x)) sent) j ≡ None
      by_number zero is = refl
      by_number (suc j) is = none_at 1 j (λ x. t (f x)) sent is

  -- the k-th message has the k-th number
  pub message_of : (m : ℕ) → nth_number t k (map f sent) ≡ Some m → sent_at (filter (λ x. t (f x)) sent) k ≡ sent_at sent m
  message_of m e = by_number k m (sym (nth_map f k t sent) ∙ e)
    where
      by_number : (j i : ℕ) → nth_number (λ x. t (f x)) j sent ≡ Some i → sent_at (filter (λ x. t (f x)) sent) j ≡ sent_at sent i
      by_number zero i is = absurd (let bad = is in cc)
      by_number (suc j) zero is = let least = nth_least 1 j (λ x. t (f x)) sent 0 is in absurd (omega arith)
      by_number (suc j) (suc i) is = some_at 1 j (suc i) i (λ x. t (f x)) sent is (omega arith)

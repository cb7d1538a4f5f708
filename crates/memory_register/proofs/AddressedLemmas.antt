-- What was sent to each participant, with one message more, and with one less.
use Rattle.std.proofs.Common.{◌≡◌, ℕ, zero, suc, ◌+◌, Bool, List, [], ◌∷◌, ◌++◌, length, refl, ap, sym, ◌∙◌, arith}
use Rattle.std.proofs.lemmas.Grind.{common_steps}
use Rattle.std.specs.Prelude.{Vec, if◌then◌else◌, slice_get}
use Rattle.std.specs.Ordering.{is_eq}
use Rattle.std.specs.BTreeMap.{BTreeMap}
use Rattle.std.specs.declared.alloc.Global.{Global}
use Rattle.std.proofs.lemmas.Map.Text.{is_eq-slice_cmp}
use Rattle.memory_register.specs.declared.sent.heading.Heading.{Heading}
use Rattle.memory_register.specs.declared.sent.addressed.Addressed.{Addressed}
use Rattle.memory_register.specs.FirstNumbers.{nth_from, nth_number, numbers_from, numbers_of}
use Rattle.memory_register.specs.Keys.{text_cmp}
use Rattle.memory_register.specs.NumbersAt.{numbers_at, without_last}
use Rattle.memory_register.specs.Addressed.{AreAddressed, is_to}
use Rattle.desk_register.proofs.CaseLemmas.{by_bool}

-- with one more
numbers_pushed_from : {X : Type 0} (n : ℕ) (t : X → Bool) (xs : List X) (x : X)
    → numbers_from n t (xs ++ x ∷ []) ≡ (if t x then numbers_from n t xs ++ (n + length xs) ∷ [] else numbers_from n t xs)
numbers_pushed_from n t [] x = let same : n + 0 ≡ n = omega arith in rw same refl
numbers_pushed_from n t (y ∷ xs) x =
    let more = numbers_pushed_from (n + 1) t xs x in
    let same : n + 1 + length xs ≡ n + suc (length xs) = omega arith in
    by_bool (t x)
    (λ here. let one = rw (here, same) at more in by_bool (t y) (λ at. rw (at, here) (ap (λ z. n ∷ z) one)) (λ no. rw (no, here) one))
    (λ other. let none = rw other at more in by_bool (t y) (λ at. rw (at, other) (ap (λ z. n ∷ z) none)) (λ no. rw (no, other) none))

numbers_pushed : {X : Type 0} (t : X → Bool) (xs : List X) (x : X) (n : ℕ) → n ≡ length xs + 1
    → numbers_of t (xs ++ x ∷ []) ≡ (if t x then numbers_of t xs ++ n ∷ [] else numbers_of t xs)
numbers_pushed t xs x n is = let same : 1 + length xs ≡ n = omega arith in rw same at (numbers_pushed_from 1 t xs x)

-- all but the last, where one was put behind the others
pub off_again : (numbers : List ℕ) (n : ℕ) → without_last (numbers ++ n ∷ []) ≡ numbers
off_again numbers n = grind (arith, common_steps)

-- the k-th of the numbers
nth_of_from : {X : Type 0} (n k : ℕ) (t : X → Bool) (xs : List X) → slice_get (numbers_from n t xs) k ≡ nth_from n t k xs
nth_of_from n k t [] = refl
nth_of_from n zero t (x ∷ xs) = by_bool (t x) (λ here. rw here refl) (λ other. rw other (nth_of_from (n + 1) zero t xs))
nth_of_from n (suc k) t (x ∷ xs) = by_bool (t x) (λ here. rw here (nth_of_from (n + 1) k t xs)) (λ other. rw other (nth_of_from (n + 1) (suc k) t xs))

-- the number behind so many others
pub nth_of : {X : Type 0} (k before : ℕ) (t : X → Bool) (xs : List X) → k ≡ before + 1 → slice_get (numbers_of t xs) before ≡ nth_number t k xs
nth_of k before t xs is = let next : k ≡ suc before = omega arith in rw next (nth_of_from 1 before t xs)

module _ (old : Addressed) (headings : List Heading) (h : Heading) (numbers : BTreeMap (List ℕ) (Vec ℕ Global)) where
  pub noted : (n : ℕ) → n ≡ length headings + 1 → AreAddressed old headings
      → ((q : List ℕ) → numbers_at text_cmp numbers q ≡ (if is_eq (text_cmp h.bic q) then numbers_at text_cmp old.numbers q ++ n ∷ [] else numbers_at text_cmp old.numbers q))
      → AreAddressed (record { numbers = numbers }) (headings ++ h ∷ [])
  noted n is are pushed = record { numbers = λ b. pushed b ∙ rw (is_eq-slice_cmp h.bic b, are.numbers b) (sym (numbers_pushed (is_to b) headings h n is)) }

  pub forgotten : AreAddressed old (headings ++ h ∷ [])
      → ((q : List ℕ) → numbers_at text_cmp numbers q ≡ (if is_eq (text_cmp h.bic q) then without_last (numbers_at text_cmp old.numbers q) else numbers_at text_cmp old.numbers q))
      → AreAddressed (record { numbers = numbers }) headings
  forgotten are popped = record { numbers = λ b. popped b ∙ rw (is_eq-slice_cmp h.bic b, are.numbers b, numbers_pushed (is_to b) headings h (length headings + 1) refl) (off b) }
    where
      off : (b : List ℕ) → (if is_to b h then without_last (if is_to b h then numbers_of (is_to b) headings ++ (length headings + 1) ∷ [] else numbers_of (is_to b) headings)
          else (if is_to b h then numbers_of (is_to b) headings ++ (length headings + 1) ∷ [] else numbers_of (is_to b) headings)) ≡ numbers_of (is_to b) headings
      off b = by_bool (is_to b h) (λ here. rw here (off_again (numbers_of (is_to b) headings) (length headings + 1))) (λ other. rw other refl)

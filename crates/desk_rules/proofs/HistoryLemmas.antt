-- Entries by their numbers, in a history that grows.
use Rattle.std.proofs.Common.{◌≡◌, ℕ, zero, suc, ◌+◌, ◌-◌, ◌<◌, ◌≤◌, List, [], ◌∷◌, ◌++◌, length, take, slice_get, Option, Some, None, refl, ◌∙◌, ap, arith, length-take}
use Rattle.std.specs.Prelude.{option_and_then}
use Rattle.std.proofs.lemmas.List.{take-append-le, take_all}
use Rattle.desk_rules.specs.declared.history.entry.Entry.{Entry}
use Rattle.desk_rules.specs.History.{Instructed, instructed, entry_at, before, instruction_at}

-- An element by its place.

pub slice_get-known : {X : Type 0} (xs : List X) (n : ℕ) (x : X) → slice_get xs n ≡ Some x → n < length xs
slice_get-known [] n x e = absurd (cc)
slice_get-known (y ∷ ys) zero x e = omega arith
slice_get-known (y ∷ ys) (suc n) x e = let lt = slice_get-known ys n x e in omega arith

pub slice_get-some : {X : Type 0} (xs : List X) (n : ℕ) → n < length xs → (x : X) × (slice_get xs n ≡ Some x)
slice_get-some [] n lt = absurd (omega arith)
slice_get-some (y ∷ ys) zero lt = (y, refl)
slice_get-some (y ∷ ys) (suc n) lt = slice_get-some ys n (omega arith)

pub slice_get-front : {X : Type 0} (xs ys : List X) (n : ℕ) → n < length xs → slice_get (xs ++ ys) n ≡ slice_get xs n
slice_get-front [] ys n lt = absurd (omega arith)
slice_get-front (x ∷ xs) ys zero lt = refl
slice_get-front (x ∷ xs) ys (suc n) lt = slice_get-front xs ys n (omega arith)

pub slice_get-end : {X : Type 0} (xs : List X) (x : X) → slice_get (xs ++ x ∷ []) (length xs) ≡ Some x
slice_get-end [] x = refl
slice_get-end (y ∷ xs) x = slice_get-end xs x

pub slice_get-take : {X : Type 0} (xs : List X) (m n : ℕ) → n < m → slice_get (take m xs) n ≡ slice_get xs n
slice_get-take xs zero n lt = absurd (omega arith)
slice_get-take [] (suc m) n lt = refl
slice_get-take (x ∷ xs) (suc m) zero lt = refl
slice_get-take (x ∷ xs) (suc m) (suc n) lt = slice_get-take xs m n (omega arith)

-- An entry by its number.

pub entry_at-known : (h : List Entry) (n : ℕ) (e : Entry) → entry_at h n ≡ Some e → (0 < n) × (n ≤ length h)
entry_at-known h zero e is = absurd (cc)
entry_at-known h (suc n) e is = let lt = slice_get-known h n e is in (omega arith, omega arith)

pub entry_at-some : (h : List Entry) (n : ℕ) → 0 < n → n ≤ length h → (e : Entry) × (entry_at h n ≡ Some e)
entry_at-some h zero some le = absurd (omega arith)
entry_at-some h (suc n) some le = slice_get-some h n (omega arith)

pub entry_at-front : (h g : List Entry) (n : ℕ) → n ≤ length h → entry_at (h ++ g) n ≡ entry_at h n
entry_at-front h g zero le = refl
entry_at-front h g (suc n) le = slice_get-front h g n (omega arith)

pub entry_at-end : (h : List Entry) (e : Entry) (n : ℕ) → n ≡ length h + 1 → entry_at (h ++ e ∷ []) n ≡ Some e
entry_at-end h e zero is = absurd (omega arith)
entry_at-end h e (suc n) is = let same : n ≡ length h = omega arith in rw same (slice_get-end h e)

pub entry_at-before : (h : List Entry) (m n : ℕ) → n < m → entry_at (before m h) n ≡ entry_at h n
entry_at-before h m zero lt = refl
entry_at-before h m (suc n) lt = slice_get-take h (m - 1) n (omega arith)

-- The entries below a number.

pub before-front : (h g : List Entry) (n : ℕ) → n ≤ length h + 1 → before n (h ++ g) ≡ before n h
before-front h g n le = take-append-le (n - 1) h g (omega arith)

pub before-all : (h g : List Entry) (n : ℕ) → n ≡ length h + 1 → before n (h ++ g) ≡ h
before-all h g n is = before-front h g n (omega arith) ∙ take_all (n - 1) h (omega arith)

pub take-take : {X : Type 0} (m n : ℕ) (xs : List X) → m ≤ n → take m (take n xs) ≡ take m xs
take-take zero n xs le = refl
take-take (suc m) zero xs le = absurd (omega arith)
take-take (suc m) (suc n) [] le = refl
take-take (suc m) (suc n) (x ∷ xs) le = ap (λ z. x ∷ z) (take-take m n xs (omega arith))

pub before-before : (h : List Entry) (m n : ℕ) → m ≤ n → before m (before n h) ≡ before m h
before-before h m n le = take-take (m - 1) (n - 1) h (omega arith)

pub length-before : (h : List Entry) (n : ℕ) → 0 < n → n ≤ length h + 1 → length (before n h) + 1 ≡ n
length-before h n some le = omega (arith, length-take (n - 1) h)

-- An instruction by its number.

pub some_before : {X Y : Type 0} (f : X → Option Y) (o : Option X) (y : Y) → option_and_then f o ≡ Some y → (x : X) × (o ≡ Some x) × (f x ≡ Some y)
some_before f None y e = absurd (cc)
some_before f (Some x) y e = (x, refl, e)

pub instruction_at-known : (h : List Entry) (n : ℕ) (i : Instructed) → instruction_at h n ≡ Some i → (0 < n) × (n ≤ length h)
instruction_at-known h n i is = let found = some_before instructed (entry_at h n) i is in entry_at-known h n found.0 found.1

pub instruction_at-front : (h g : List Entry) (n : ℕ) → n ≤ length h → instruction_at (h ++ g) n ≡ instruction_at h n
instruction_at-front h g n le = ap (λ o. option_and_then instructed o) (entry_at-front h g n le)

pub instruction_at-before : (h : List Entry) (m n : ℕ) → n < m → instruction_at (before m h) n ≡ instruction_at h n
instruction_at-before h m n lt = ap (λ o. option_and_then instructed o) (entry_at-before h m n lt)

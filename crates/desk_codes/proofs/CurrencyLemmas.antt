-- What is so of each currency of the list is so of every currency.
use Rattle.std.proofs.Common.{◌≡◌, ℕ, zero, suc, ◌+◌, ◌<◌, ◌≤◌, ◌==◌, List, [], ◌∷◌, get_or, map, length, cond, Bool, true, false, bytes_eq, Option, Some, refl, subst, sym, ap, ◌∙◌, arith}
use Rattle.std.specs.Cmp.Lexicographic.{slice_cmp}
use Rattle.std.specs.List.{AllByRecursion, find}
use Rattle.std.specs.Ordering.{is_eq, nat_cmp}
use Rattle.std.specs.Prelude.{◌&&◌, nat_le, nat_lt, slice_get}
use Rattle.std.specs.declared.cmp.Ordering.{Ordering}
use Rattle.std.specs.declared.cmp.Ordering.TheVariants.{Less}
use Rattle.std.proofs.lemmas.Bool.{and_parts}
use Rattle.std.proofs.lemmas.Bool.Decides.{nat_tests}
use Rattle.desk_codes.specs.declared.currency.Ccy.{Ccy}
use Rattle.desk_codes.specs.declared.currency.Ccy.TheVariants.{Chf}
use Rattle.desk_codes.specs.declared.currency.TheConstants.{CURRENCIES}
use Rattle.desk_codes.specs.contracts.currency.CcyOrd.TheImpl as ccy_ord
use Rattle.desk_codes.specs.Currency.{ccy_of, decimals_of, letters_of, place_of}

-- Each currency is the one of the list that has its letters. One is named, so that the second line is tried for each of the others.
pub found_again : (ccy : Ccy) → ccy_of (letters_of ccy) ≡ Some ccy
found_again Chf = refl
found_again ccy = refl

pick : (P : Ccy → Type 0) (is : Bool) (first ccy : Ccy) (rest : Option Ccy) → cond is (Some first) rest ≡ Some ccy → P first → (rest ≡ Some ccy → P ccy) → P ccy
pick P true first ccy rest e here beyond = let both : Some first ≡ Some ccy = e in let same : first ≡ ccy = cc in subst P same here
pick P false first ccy rest e here beyond = beyond e

found_in : (P : Ccy → Type 0) (test : Ccy → Bool) (ccys : List Ccy) (ccy : Ccy) → find test ccys ≡ Some ccy → AllByRecursion P ccys → P ccy
found_in P test [] ccy e all = absurd (cc)
found_in P test (first ∷ rest) ccy e all = pick P (test first) first ccy (find test rest) e all.0 (λ later. found_in P test rest ccy later all.1)

-- The principle of cases.
pub by_ccy : (P : Ccy → Type 0) → AllByRecursion P CURRENCIES → (ccy : Ccy) → P ccy
by_ccy P all ccy = found_in P (λ other. bytes_eq (letters_of other) (letters_of ccy)) CURRENCIES ccy (found_again ccy) all

agree_each : {X : Type 0} (f g : Ccy → X) (ccys : List Ccy) → map f ccys ≡ map g ccys → AllByRecursion (λ ccy. f ccy ≡ g ccy) ccys
agree_each f g [] e = tt
agree_each f g (ccy ∷ ccys) e =
    let both : f ccy ∷ map f ccys ≡ g ccy ∷ map g ccys = e in
    let first : f ccy ≡ g ccy = cc in
    let rest : map f ccys ≡ map g ccys = cc in
    (first, agree_each f g ccys rest)

-- Two functions that give the same for the currencies of the list give the same for each: by computation, `refl` is the proof.
pub agree : {X : Type 0} (f g : Ccy → X) → map f CURRENCIES ≡ map g CURRENCIES → (ccy : Ccy) → f ccy ≡ g ccy
agree f g e ccy = by_ccy (λ c. f c ≡ g c) (agree_each f g CURRENCIES e) ccy

-- so of two currencies
pub agree_twice : {X : Type 0} (f g : Ccy → Ccy → X) → map (λ a. map (f a) CURRENCIES) CURRENCIES ≡ map (λ a. map (g a) CURRENCIES) CURRENCIES → (a b : Ccy) → f a b ≡ g a b
agree_twice f g e a b = agree (f a) (g a) (agree (λ x. map (f x) CURRENCIES) (λ x. map (g x) CURRENCIES) e a) b

pub known_by_letters : (a b : Ccy) → letters_of a ≡ letters_of b → a ≡ b
known_by_letters a b e = let same : Some a ≡ Some b = sym (found_again a) ∙ ap ccy_of e ∙ found_again b in cc

pub three_letters : (ccy : Ccy) → length (letters_of ccy) ≡ 3
three_letters = agree (λ ccy. length (letters_of ccy)) (λ ccy. 3) refl

tested_decimals : (ccy : Ccy) → nat_le (decimals_of ccy) 3 ≡ true
tested_decimals = agree (λ ccy. nat_le (decimals_of ccy) 3) (λ ccy. true) refl

few : (d : ℕ) → nat_le d 3 ≡ true → d ≤ 3
few d is = grind (arith, nat_tests)

pub few_decimals : (ccy : Ccy) → decimals_of ccy ≤ 3
few_decimals ccy = few (decimals_of ccy) (tested_decimals ccy)

abbrev pub ccy_cmp : Ccy → Ccy → Ordering
ccy_cmp = (ccy_ord.ghosts).cmp

-- two currencies tie in their order where their letters are the same
pub tied_by_letters : (a b : Ccy) → is_eq (ccy_cmp a b) ≡ bytes_eq (letters_of a) (letters_of b)
tied_by_letters = agree_twice (λ a b. is_eq (ccy_cmp a b)) (λ a b. bytes_eq (letters_of a) (letters_of b)) refl

-- ---- the places in the list

placed : (ccy : Ccy) → slice_get CURRENCIES (place_of ccy) ≡ Some ccy
unfolding place_of
placed = agree (λ ccy. slice_get CURRENCIES (place_of ccy)) Some refl

pub same_place : (a b : Ccy) → place_of a ≡ place_of b → a ≡ b
same_place a b e = let same : Some a ≡ Some b = sym (placed a) ∙ ap (slice_get CURRENCIES) e ∙ placed b in cc

tested_below : (ccy : Ccy) → nat_lt (place_of ccy) (length CURRENCIES) ≡ true
unfolding place_of
tested_below = agree (λ ccy. nat_lt (place_of ccy) (length CURRENCIES)) (λ ccy. true) refl

less : (a b : ℕ) → nat_lt a b ≡ true → a < b
less a b is = grind (arith, nat_tests)

pub below_all : (ccy : Ccy) → place_of ccy < length CURRENCIES
below_all ccy = less (place_of ccy) (length CURRENCIES) (tested_below ccy)

-- some currencies stand at the places from n on
are_numbered : ℕ → List Ccy → Bool
are_numbered n [] = true
are_numbered n (ccy ∷ ccys) = (place_of ccy == n) && are_numbered (n + 1) ccys

numbered : are_numbered 0 CURRENCIES ≡ true
unfolding are_numbered place_of
numbered = refl

is_number : (m n : ℕ) → (m == n) ≡ true → m ≡ n
is_number m n is = grind (arith, nat_tests)

stands_from : (n : ℕ) (ccys : List Ccy) → are_numbered n ccys ≡ true → (k : ℕ) (d : Ccy) → k < length ccys → place_of (get_or ccys k d) ≡ n + k
unfolding are_numbered
stands_from n [] is k d lt = absurd (omega arith)
stands_from n (ccy ∷ ccys) is zero d lt =
    let first : place_of ccy ≡ n = is_number (place_of ccy) n (and_parts (place_of ccy == n) (are_numbered (n + 1) ccys) is).0 in omega (arith, first)
stands_from n (ccy ∷ ccys) is (suc k) d lt =
    let rest : place_of (get_or ccys k d) ≡ n + 1 + k = stands_from (n + 1) ccys (and_parts (place_of ccy == n) (are_numbered (n + 1) ccys) is).1 k d (omega (arith, lt)) in
    omega (arith, rest)

pub stands_at : (k : ℕ) (d : Ccy) → k < length CURRENCIES → place_of (get_or CURRENCIES k d) ≡ k
stands_at k d lt = let at : place_of (get_or CURRENCIES k d) ≡ 0 + k = stands_from 0 CURRENCIES numbered k d lt in omega (arith, at)

-- the letters compare as the places do
pub in_order : (a b : Ccy) → slice_cmp nat_cmp (letters_of a) (letters_of b) ≡ nat_cmp (place_of a) (place_of b)
unfolding place_of
in_order = agree_twice (λ a b. slice_cmp nat_cmp (letters_of a) (letters_of b)) (λ a b. nat_cmp (place_of a) (place_of b)) refl

is_less : (m n : ℕ) → m < n → nat_cmp m n ≡ Less
is_less m n lt = grind (arith, nat_tests)

pub less_before : (a b : Ccy) → place_of a < place_of b → slice_cmp nat_cmp (letters_of a) (letters_of b) ≡ Less
less_before a b lt = in_order a b ∙ is_less (place_of a) (place_of b) lt

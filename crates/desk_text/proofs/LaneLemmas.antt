-- A test of all bytes, by the lanes of loads.
use Rattle.std.proofs.Common.{◌≡◌, ℕ, ◌+◌, ◌-◌, ◌*◌, ◌%◌, ◌^◌, ◌≤◌, eqb, cond, Bool, true, false, not, ◌&&◌, List, [], ◌∷◌, length, map, take, drop, get_or, Fits, w8, suc, zero, refl, sym, ap, ap₂, ◌∙◌, arith}
use Rattle.std.proofs.lemmas.Bool.Decides.{nat_tests}
use Rattle.std.proofs.lemmas.Bool.{agree_below, agree_below_at}
use Rattle.std.proofs.Math.Bool.{and-false}
use Rattle.std.proofs.lemmas.Simd.{map-map, mask_l-mod, length-chunk, chunk-fits, zip2_of_maps}
use Rattle.std.proofs.lemmas.List.{take-append-drop, take_rest, length-map}
use Rattle.std.proofs.lemmas.List.Folds.{list_all-append}
use Rattle.std.proofs.Math.Seq.{take-add}
use Rattle.std.specs.List.{list_all}
use lib.Lanes.{Each1, chunk, zip2, mask_l, top}
use Rattle.desk_text.proofs.SignLemmas.{both}

-- a mask without bits

no_bits : (p : ℕ → Bool) (xs : List ℕ) → eqb (mask_l (map p xs)) 0 ≡ list_all (λ x. not (p x)) xs
no_bits p [] = refl
no_bits p (x ∷ xs) = go (p x) (no_bits p xs) where
  go : (b : Bool) → eqb (mask_l (map p xs)) 0 ≡ list_all (λ x. not (p x)) xs → eqb (cond b 1 0 + 2 * mask_l (map p xs)) 0 ≡ (not b && list_all (λ x. not (p x)) xs)
  go true e = grind (arith, nat_tests)
  go false e = grind (arith, nat_tests, e)

-- where a lane's top bit is set
abbrev IsSet : (ℕ → ℕ) → ℕ → Bool
IsSet f x = top 7 (f x)

no_lane : (f : ℕ → ℕ) (v : List ℕ) (n : ℕ) (z : List ℕ) → length v ≡ n → n ≤ 64 → z ≡ map f v → eqb (mask_l (map (top 7) z) % 2 ^ 64) 0 ≡ list_all (λ x. not (IsSet f x)) v
no_lane f v n z long few lanes =
    ap (λ l. eqb (mask_l l % 2 ^ 64) 0) (ap (map (top 7)) lanes ∙ map-map (top 7) f v)
    ∙ ap (λ m. eqb m 0) (mask_l-mod (map (IsSet f) v) 64 (omega (arith, length-map v (IsSet f), long)))
    ∙ no_bits (IsSet f) v

list_all-fits : (p q : ℕ → Bool) → agree_below p q 256 ≡ true → (xs : List ℕ) → Each1 (Fits w8) xs → list_all p xs ≡ list_all q xs
list_all-fits p q same [] fits = refl
list_all-fits p q same (x ∷ xs) fits = ap₂ (λ a b. a && b) (agree_below_at p q 256 x same fits.0.fits) (list_all-fits p q same xs fits.1)

-- a load in which no lane is set, where those of the bytes that fail the test are
pub lanes_decide : (p : ℕ → Bool) (text : List ℕ) (at n : ℕ) → at + n ≤ length text → n ≤ 64 → ((k : ℕ) → Fits w8 (get_or text k 0))
    → (f : ℕ → ℕ) (z : List ℕ) → z ≡ map f (chunk at n text) → agree_below (λ x. not (top 7 (f x))) p 256 ≡ true
    → eqb (mask_l (map (top 7) z) % 2 ^ 64) 0 ≡ list_all p (chunk at n text)
lanes_decide p text at n room few fits f z lanes same =
    no_lane f (chunk at n text) n z (length-chunk at n text room) few lanes
    ∙ list_all-fits (λ x. not (top 7 (f x))) p same (chunk at n text) (chunk-fits w8 at n text fits)

-- an operation on two vectors that were computed lane by lane
pub joined : (h : ℕ → ℕ → ℕ) (f g : ℕ → ℕ) (v : List ℕ) {a b : List ℕ} → a ≡ map f v → b ≡ map g v → zip2 h a b ≡ map (λ x. h (f x) (g x)) v
joined h f g v p q = zip2_of_maps h f g v p q

-- a list, some elements after others

pub more_pass : (p : ℕ → Bool) (xs : List ℕ) (at n : ℕ) → list_all p (take at xs) ≡ true → list_all p (take n (drop at xs)) ≡ true → list_all p (take (at + n) xs) ≡ true
more_pass p xs at n front next =
    ap (list_all p) (take-add at n xs) ∙ list_all-append p (take at xs) (take n (drop at xs)) ∙ ap₂ (λ a b. a && b) front next

pub some_wrong : (p : ℕ → Bool) (xs : List ℕ) (at n : ℕ) → list_all p (take n (drop at xs)) ≡ false → list_all p xs ≡ false
some_wrong p xs at n wrong =
    ap (list_all p) (sym (take-append-drop at xs)) ∙ list_all-append p (take at xs) (drop at xs)
    ∙ ap (λ b. list_all p (take at xs) && b) (ap (list_all p) (sym (take-append-drop n (drop at xs))) ∙ list_all-append p (take n (drop at xs)) (drop n (drop at xs)) ∙ ap (λ b. b && list_all p (drop n (drop at xs))) wrong)
    ∙ and-false (list_all p (take at xs))

rest_decides : (p : ℕ → Bool) (xs : List ℕ) (seen last : ℕ) → last ≤ seen → list_all p (take seen xs) ≡ true → list_all p xs ≡ list_all p (drop last xs)
rest_decides p xs seen zero le e = refl
rest_decides p [] seen (suc last) le e = refl
rest_decides p (x ∷ xs) zero (suc last) le e = absurd (omega arith)
rest_decides p (x ∷ xs) (suc seen) (suc last) le e =
    let parts = both (p x) (list_all p (take seen xs)) e in
    ap (λ b. b && list_all p xs) parts.0 ∙ rest_decides p xs seen last (omega arith) parts.1

-- the last n elements decide, where those before them pass
pub last_decides : (p : ℕ → Bool) (xs : List ℕ) (seen last n : ℕ) → last ≤ seen → last + n ≡ length xs → list_all p (take seen xs) ≡ true → list_all p (take n (drop last xs)) ≡ list_all p xs
last_decides p xs seen last n le whole e =
    let size : length xs - last ≡ n = omega arith in
    ap (list_all p) (ap (λ k. take k (drop last xs)) (sym size) ∙ take_rest xs last) ∙ sym (rest_decides p xs seen last le e)

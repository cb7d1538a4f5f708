-- The order of bytes is that of the numbers which they write, the greatest first.
use Rattle.std.proofs.Common.{◌≡◌, ◌≢◌, ℕ, zero, suc, ◌+◌, ◌*◌, ◌<◌, ◌≤◌, List, [], ◌∷◌, ◌++◌, length, get_or, take, drop, refl, sym, ap, ◌∙◌, arith, lit<, is_eq, nat_cmp, Ordering, Less, Equal, Greater, w32, w64, take-append-drop, length-take-le, length-drop, take-add}
use Rattle.std.specs.Int.{from_be_bytes}
use Rattle.std.specs.Ordering.{ordering_then, MatchOrdering}
use Rattle.std.specs.Cmp.Lexicographic.{slice_cmp, texts_ties, same_text, nat_list_cmp_total}
use Rattle.std.proofs.lemmas.Bool.Decides.{nat_tests}
use Rattle.std.proofs.lemmas.Cmp.{ranked, tied_itself, nat_cmp_total}
use Rattle.std.proofs.lemmas.List.{drop_all, take-take}

-- each is a byte
abbrev pub AreBytes : List ℕ → Type 0
AreBytes text = (k : ℕ) → get_or text k 0 < 256

bytes_take : (n : ℕ) (text : List ℕ) → AreBytes text → AreBytes (take n text)
bytes_take zero text h k = lit< tt
bytes_take (suc n) [] h k = lit< tt
bytes_take (suc n) (x ∷ text) h zero = h 0
bytes_take (suc n) (x ∷ text) h (suc k) = bytes_take n text (λ j. h (suc j)) k

bytes_drop : (n : ℕ) (text : List ℕ) → AreBytes text → AreBytes (drop n text)
bytes_drop zero text h = h
bytes_drop (suc n) [] h = h
bytes_drop (suc n) (x ∷ text) h = bytes_drop n text (λ j. h (suc j))

-- the number that bytes write behind a number
abbrev pub written : ℕ → List ℕ → ℕ
written n [] = n
written n (b ∷ bs) = written (n * 256 + b) bs

pub below : (x y : ℕ) → x < y → nat_cmp x y ≡ Less
below x y l = grind (arith, nat_tests)

above : (x y : ℕ) → y < x → nat_cmp x y ≡ Greater
above x y l = grind (arith, nat_tests)

rises : (us vs : List ℕ) (a b : ℕ) → length us ≡ length vs → AreBytes us → a < b → written a us < written b vs
rises [] [] a b e h l = l
rises [] (v ∷ vs) a b e h l = absurd (omega arith)
rises (u ∷ us) [] a b e h l = absurd (omega arith)
rises (u ∷ us) (v ∷ vs) a b e h l =
    let small : u < 256 = h 0 in
    rises us vs (a * 256 + u) (b * 256 + v) (omega arith) (λ k. h (suc k)) (omega arith)

by_numbers : (us vs : List ℕ) (a : ℕ) → length us ≡ length vs → AreBytes us → AreBytes vs → slice_cmp nat_cmp us vs ≡ nat_cmp (written a us) (written a vs)
by_numbers [] [] a e p q = sym (tied_itself nat_cmp_total a)
by_numbers [] (v ∷ vs) a e p q = absurd (omega arith)
by_numbers (u ∷ us) [] a e p q = absurd (omega arith)
by_numbers (u ∷ us) (v ∷ vs) a e p q = by (by_numbers us vs (a * 256 + u) as_long (λ k. p (suc k)) (λ k. q (suc k))) (nat_cmp u v) refl (ranked u v (nat_cmp u v) refl)
  where
    as_long : length us ≡ length vs
    as_long = omega arith

    by : slice_cmp nat_cmp us vs ≡ nat_cmp (written (a * 256 + u) us) (written (a * 256 + u) vs) → (r : Ordering) → nat_cmp u v ≡ r → MatchOrdering r (u < v) (u ≡ v) (v < u)
        → ordering_then (nat_cmp u v) (slice_cmp nat_cmp us vs) ≡ nat_cmp (written (a * 256 + u) us) (written (a * 256 + v) vs)
    by rest Less is l =
        let less : u < v = l in
        ap (λ r. ordering_then r (slice_cmp nat_cmp us vs)) is ∙ sym (below _ _ (rises us vs (a * 256 + u) (a * 256 + v) as_long (λ k. p (suc k)) (omega arith)))
    by rest Equal is l =
        let same : u ≡ v = l in
        ap (λ r. ordering_then r (slice_cmp nat_cmp us vs)) is ∙ rest ∙ ap (λ z. nat_cmp (written (a * 256 + u) us) (written (a * 256 + z) vs)) same
    by rest Greater is l =
        let less : v < u = l in
        ap (λ r. ordering_then r (slice_cmp nat_cmp us vs)) is ∙ sym (above _ _ (rises vs us (a * 256 + v) (a * 256 + u) (sym as_long) (λ k. q (suc k)) (omega arith)))

-- the number that a word, and half a word, is read as
pub word_written : (text : List ℕ) (k x : ℕ) → k + 8 ≤ length text → x ≡ from_be_bytes w64 (take 8 (drop k text)) → x ≡ written 0 (take 8 (drop k text))
word_written text k x within is = is ∙ eight (take 8 (drop k text)) (length-take-le 8 (drop k text) (omega (arith, length-drop k text)))
  where
    eight : (us : List ℕ) → length us ≡ 8 → from_be_bytes w64 us ≡ written 0 us
    eight (b0 ∷ b1 ∷ b2 ∷ b3 ∷ b4 ∷ b5 ∷ b6 ∷ b7 ∷ []) e = omega arith
    eight [] e = absurd (omega arith)
    eight (b0 ∷ []) e = absurd (omega arith)
    eight (b0 ∷ b1 ∷ []) e = absurd (omega arith)
    eight (b0 ∷ b1 ∷ b2 ∷ []) e = absurd (omega arith)
    eight (b0 ∷ b1 ∷ b2 ∷ b3 ∷ []) e = absurd (omega arith)
    eight (b0 ∷ b1 ∷ b2 ∷ b3 ∷ b4 ∷ []) e = absurd (omega arith)
    eight (b0 ∷ b1 ∷ b2 ∷ b3 ∷ b4 ∷ b5 ∷ []) e = absurd (omega arith)
    eight (b0 ∷ b1 ∷ b2 ∷ b3 ∷ b4 ∷ b5 ∷ b6 ∷ []) e = absurd (omega arith)
    eight (b0 ∷ b1 ∷ b2 ∷ b3 ∷ b4 ∷ b5 ∷ b6 ∷ b7 ∷ b8 ∷ rest) e = absurd (omega arith)

pub half_written : (text : List ℕ) (k x : ℕ) → k + 4 ≤ length text → x ≡ from_be_bytes w32 (take 4 (drop k text)) → x ≡ written 0 (take 4 (drop k text))
half_written text k x within is = is ∙ four (take 4 (drop k text)) (length-take-le 4 (drop k text) (omega (arith, length-drop k text)))
  where
    four : (us : List ℕ) → length us ≡ 4 → from_be_bytes w32 us ≡ written 0 us
    four (b0 ∷ b1 ∷ b2 ∷ b3 ∷ []) e = omega arith
    four [] e = absurd (omega arith)
    four (b0 ∷ []) e = absurd (omega arith)
    four (b0 ∷ b1 ∷ []) e = absurd (omega arith)
    four (b0 ∷ b1 ∷ b2 ∷ []) e = absurd (omega arith)
    four (b0 ∷ b1 ∷ b2 ∷ b3 ∷ b4 ∷ rest) e = absurd (omega arith)

pub then_assoc : (a b c : Ordering) → ordering_then (ordering_then a b) c ≡ ordering_then a (ordering_then b c)
then_assoc Less b c = refl
then_assoc Equal b c = refl
then_assoc Greater b c = refl

then_Equal : (o : Ordering) → ordering_then o Equal ≡ o
then_Equal Less = refl
then_Equal Equal = refl
then_Equal Greater = refl

-- the fronts decide, and then what is behind them
pub front_first : (us vs xs ys : List ℕ) → length us ≡ length vs → slice_cmp nat_cmp (us ++ xs) (vs ++ ys) ≡ ordering_then (slice_cmp nat_cmp us vs) (slice_cmp nat_cmp xs ys)
front_first [] [] xs ys e = refl
front_first [] (v ∷ vs) xs ys e = absurd (omega arith)
front_first (u ∷ us) [] xs ys e = absurd (omega arith)
front_first (u ∷ us) (v ∷ vs) xs ys e = ap (ordering_then (nat_cmp u v)) (front_first us vs xs ys (omega arith)) ∙ sym (then_assoc (nat_cmp u v) (slice_cmp nat_cmp us vs) (slice_cmp nat_cmp xs ys))

-- fronts that are the same have the same fronts
pub front_same : (k j : ℕ) (xs ys : List ℕ) → j ≤ k → take k xs ≡ take k ys → take j xs ≡ take j ys
front_same k j xs ys le same = sym (take-take j k xs le) ∙ ap (take j) same ∙ take-take j k ys le

module _ (xs ys : List ℕ) (p : AreBytes xs) (q : AreBytes ys) (as_long : length xs ≡ length ys) (n k : ℕ) (within : k + n ≤ length xs) (x y : ℕ)
    (own : x ≡ written 0 (take n (drop k xs))) (other : y ≡ written 0 (take n (drop k ys))) where
  own_length : length (take n (drop k xs)) ≡ n
  own_length = length-take-le n (drop k xs) (omega (arith, length-drop k xs))

  other_length : length (take n (drop k ys)) ≡ n
  other_length = length-take-le n (drop k ys) (omega (arith, length-drop k ys))

  words : slice_cmp nat_cmp (take n (drop k xs)) (take n (drop k ys)) ≡ nat_cmp x y
  words =
      by_numbers (take n (drop k xs)) (take n (drop k ys)) 0 (own_length ∙ sym other_length) (bytes_take n (drop k xs) (bytes_drop k xs p)) (bytes_take n (drop k ys) (bytes_drop k ys q))
      ∙ (λ i. nat_cmp (sym own i) (sym other i))

  -- behind a front that is the same, the words decide, and then what is behind them
  word_first : take k xs ≡ take k ys → slice_cmp nat_cmp xs ys ≡ ordering_then (nat_cmp x y) (slice_cmp nat_cmp (drop n (drop k xs)) (drop n (drop k ys)))
  word_first front =
      (λ i. slice_cmp nat_cmp (sym (take-append-drop k xs) i) (sym (take-append-drop k ys) i))
      ∙ front_first (take k xs) (take k ys) (drop k xs) (drop k ys) (ap length front)
      ∙ ap (λ o. ordering_then o (slice_cmp nat_cmp (drop k xs) (drop k ys))) (ap (slice_cmp nat_cmp (take k xs)) (sym front) ∙ tied_itself nat_list_cmp_total (take k xs))
      ∙ (λ i. slice_cmp nat_cmp (sym (take-append-drop n (drop k xs)) i) (sym (take-append-drop n (drop k ys)) i))
      ∙ front_first (take n (drop k xs)) (take n (drop k ys)) (drop n (drop k xs)) (drop n (drop k ys)) (own_length ∙ sym other_length)
      ∙ ap (λ o. ordering_then o (slice_cmp nat_cmp (drop n (drop k xs)) (drop n (drop k ys)))) words

  decides : (o : Ordering) → MatchOrdering (nat_cmp x y) (x < y) (x ≡ y) (y < x) → x ≢ y → ordering_then (nat_cmp x y) o ≡ nat_cmp x y
  decides o h apart = by (nat_cmp x y) h
    where
      by : (r : Ordering) → MatchOrdering r (x < y) (x ≡ y) (y < x) → ordering_then r o ≡ r
      by Less l = refl
      by Equal e = absurd (apart e)
      by Greater l = refl

  -- words that differ decide
  pub first_word : take k xs ≡ take k ys → x ≢ y → nat_cmp x y ≡ slice_cmp nat_cmp xs ys
  first_word front apart = sym (word_first front ∙ decides _ (ranked x y (nat_cmp x y) refl) apart)

  -- the last words decide
  pub last_word : take k xs ≡ take k ys → k + n ≡ length xs → nat_cmp x y ≡ slice_cmp nat_cmp xs ys
  last_word front end =
      let none : drop n (drop k xs) ≡ [] = drop_all n (drop k xs) (omega (arith, length-drop k xs)) in
      let nil : drop n (drop k ys) ≡ [] = drop_all n (drop k ys) (omega (arith, length-drop k ys)) in
      sym (word_first front ∙ (λ i. ordering_then (nat_cmp x y) (slice_cmp nat_cmp (none i) (nil i))) ∙ then_Equal (nat_cmp x y))

  -- words that are one number are the same bytes
  pub same_more : take k xs ≡ take k ys → x ≡ y → take (k + n) xs ≡ take (k + n) ys
  same_more front same =
      let tied : slice_cmp nat_cmp (take n (drop k xs)) (take n (drop k ys)) ≡ Equal = words ∙ ap (nat_cmp x) (sym same) ∙ tied_itself nat_cmp_total x in
      let bytes = same_text (take n (drop k xs)) (take n (drop k ys)) (sym (texts_ties (take n (drop k xs)) (take n (drop k ys)) ∙ ap is_eq tied)) in
      take-add k n xs ∙ (λ i. front i ++ bytes i) ∙ sym (take-add k n ys)

-- The names of files with their places, sorted.
use Rattle.std.proofs.Common.{◌≡◌, ℕ, suc, zero, ◌+◌, ◌<◌, ◌≤◌, Bool, true, false, List, [], ◌∷◌, ◌++◌, length, map, take, get_or, inl, inr, refl, sym, ◌∙◌, ap, subst, arith, All, Some}
use Rattle.std.specs.List.{IsDistinct, slice_get, AllByRecursion}
use Rattle.std.specs.List.Sorted.{IsPermutation, IsSortedBy, IsStrictlySortedBy}
use Rattle.std.specs.Ordering.{is_eq, is_lt, nat_cmp, ordering_reverse, ordering_then}
use Rattle.std.specs.declared.cmp.Ordering.{Ordering}
use Rattle.std.specs.declared.cmp.Ordering.TheVariants.{Less, Equal, Greater}
use Rattle.std.specs.Cmp.{IsTotalOrder, nat_cmp_is, on_total}
use Rattle.std.specs.Cmp.Lexicographic.{slice_cmp}
use Rattle.std.proofs.lemmas.Bool.{false≢true}
use Rattle.std.proofs.lemmas.Cmp.{nat_cmp_total, nat_list_cmp_total, then_total}
use Rattle.std.proofs.lemmas.List.{get_or-map, length-map, length-take-le, map-append, take_all, take_more}
use Rattle.std.proofs.lemmas.List.Elements.{All-cons, All-nil}
use Rattle.std.proofs.lemmas.List.Sorted.{All-permutation, Contains-permutation, IsPermutation-map}
use Rattle.std.proofs.lemmas.Map.Keys.{IsDistinct-IsPermutation, IsDistinct-cons, apart_from_distinct, sorted_from_all_adjacent}
use Rattle.desk_rules.proofs.Decided.{Contains-from_In, In}
use Rattle.desk_drop.specs.declared.file.DropFile.{DropFile}
use Rattle.desk_drop.specs.Folder.{File, file_of, place_order}
use Rattle.desk_drop.specs.Places.{IsOrder, IsPlaceOf}

-- the names with their places, as the files come
pub places_from : ℕ → List File → List (List ℕ × ℕ)
places_from n [] = []
places_from n (file ∷ files) = (file.name, n) ∷ places_from (suc n) files

pub places_more : (n : ℕ) (files : List File) (file : File) → places_from n (files ++ file ∷ []) ≡ places_from n files ++ (file.name, n + length files) ∷ []
unfolding places_from
places_more n [] file = (let e : n ≡ n + 0 = omega arith in ap (λ k. (file.name, k) ∷ []) e)
places_more n (first ∷ files) file =
    let e : suc n + length files ≡ n + suc (length files) = omega arith in
    ap (λ rest. (first.name, n) ∷ rest) (places_more (suc n) files file ∙ ap (λ k. places_from (suc n) files ++ (file.name, k) ∷ []) e)

-- each is the place of a file
are_from : (whole files : List File) (n : ℕ) → ((k : ℕ) (file : File) → slice_get files k ≡ Some file → slice_get whole (n + k) ≡ Some file) → All (IsPlaceOf whole) (places_from n files)
unfolding places_from
are_from whole [] n same = All-nil (IsPlaceOf whole)
are_from whole (file ∷ files) n same =
    let P : ℕ → Type 0 = λ k. slice_get whole k ≡ Some file in
    let e : n + 0 ≡ n = omega arith in
    let later : (k : ℕ) (f : File) → slice_get files k ≡ Some f → slice_get whole (suc n + k) ≡ Some f = λ k f is.
    (let Q : ℕ → Type 0 = λ j. slice_get whole j ≡ Some f in let s : n + suc k ≡ suc n + k = omega arith in subst Q s (same (suc k) f is)) in
    All-cons (IsPlaceOf whole) (file.name, n) (places_from (suc n) files) (record { file = file; stands = subst P e (same 0 file refl); named = refl }) (are_from whole files (suc n) later)

-- and each file has its place
each_from : (n : ℕ) (files : List File) (index : ℕ) (file : File) → slice_get files index ≡ Some file → In (places_from n files) (file.name, n + index)
unfolding places_from
each_from n [] index file is = cc
each_from n (first ∷ files) zero file is =
    let e : n ≡ n + 0 = omega arith in
    let same : first ≡ file = cc in
    inl (ap (λ k. (first.name, k)) e ∙ ap (λ (f : File). (f.name, n + 0)) same)
each_from n (first ∷ files) (suc index) file is =
    let e : suc n + index ≡ n + suc index = omega arith in
    let P : ℕ → Type 0 = λ k. In (places_from (suc n) files) (file.name, k) in
    inr (subst P e (each_from (suc n) files index file is))

-- No two have one place.

abbrev one_place : List ℕ × ℕ → List ℕ × ℕ → Bool
one_place a b = is_eq (nat_cmp a.1 b.1)

turned : (o : Ordering) → is_eq (ordering_reverse o) ≡ is_eq o
turned Less = refl
turned Equal = refl
turned Greater = refl

flips : (a b : List ℕ × ℕ) → one_place a b ≡ one_place b a
flips a b = ap is_eq (nat_cmp_total.antisymm a.1 b.1) ∙ turned (nat_cmp b.1 a.1)

apart : (n m : ℕ) → n < m → is_eq (nat_cmp n m) ≡ false
apart n m lt = ap is_eq (sym (nat_cmp_is n m Less lt))

all_later : (name : List ℕ) (n m : ℕ) (files : List File) → n < m → AllByRecursion (λ b. one_place (name, n) b ≡ false) (places_from m files)
unfolding places_from
all_later name n m [] lt = tt
all_later name n m (file ∷ files) lt = (apart n m lt, all_later name n (suc m) files (omega arith))

distinct_from : (n : ℕ) (files : List File) → IsDistinct one_place (places_from n files)
unfolding places_from IsDistinct
distinct_from n [] = tt
distinct_from n (file ∷ files) = IsDistinct-cons one_place (file.name, n) (places_from (suc n) files) (all_later file.name n (suc n) files (omega arith)) (distinct_from (suc n) files)

-- Sorted, they rise strictly.

pub order_total : IsTotalOrder place_order
order_total = then_total (on_total (λ t. t.0) nat_list_cmp_total) (on_total (λ t. t.1) nat_cmp_total)

tied : (a b : Ordering) → ordering_then a b ≡ Equal → is_eq b ≡ true
tied Less b e = cc
tied Equal b e = ap is_eq e
tied Greater b e = cc

below : (a b : List ℕ × ℕ) (o : Ordering) → o ≡ place_order b a → is_lt o ≡ false → one_place b a ≡ false → place_order a b ≡ Less
below a b Less is not_less other = cc
below a b Equal is not_less other = absurd (false≢true (sym other ∙ tied (slice_cmp nat_cmp b.0 a.0) (nat_cmp b.1 a.1) (sym is)))
below a b Greater is not_less other = order_total.antisymm a b ∙ ap ordering_reverse (sym is)

strictly : {X : Type 0} (f : X → List ℕ × ℕ) (xs : List X) → IsDistinct one_place (map f xs) → IsSortedBy (λ x y. is_lt (place_order (f x) (f y))) xs → IsStrictlySortedBy place_order (map f xs)
unfolding IsStrictlySortedBy
strictly f [] distinct sorted = tt
strictly f (x ∷ xs) distinct sorted =
    sorted_from_all_adjacent order_total (map f (x ∷ xs)) (f x) (λ k lt.
    let n : length (map f (x ∷ xs)) ≡ length (x ∷ xs) = length-map (x ∷ xs) f in
    let first = get_or-map f (x ∷ xs) k x (f x) (omega arith) in
    let second = get_or-map f (x ∷ xs) (k + 1) x (f x) (omega arith) in
    let a = get_or (map f (x ∷ xs)) k (f x) in
    let b = get_or (map f (x ∷ xs)) (k + 1) (f x) in
    let other : one_place b a ≡ false = flips b a ∙ apart_from_distinct one_place (map f (x ∷ xs)) k (k + 1) (f x) distinct (omega arith) lt in
    let not_less : is_lt (place_order b a) ≡ false = ap (λ z. is_lt (place_order z a)) second ∙ ap (λ z. is_lt (place_order (f (get_or (x ∷ xs) (k + 1) x)) z)) first ∙ sorted k x (omega arith) (omega arith) in
    below a b (place_order b a) refl not_less other)

pub order_of : {X : Type 0} (f : X → List ℕ × ℕ) (files : List File) (placed sorted : List X) → map f placed ≡ places_from 0 files → IsPermutation placed sorted
    → IsSortedBy (λ x y. is_lt (place_order (f x) (f y))) sorted → IsOrder files (map f sorted)
order_of f files placed sorted is moved rises =
    let P : List (List ℕ × ℕ) → Type 0 = λ ps. IsPermutation ps (map f sorted) in
    let shuffled : IsPermutation (places_from 0 files) (map f sorted) = subst P is (IsPermutation-map f placed sorted moved) in
    let at : (k : ℕ) → 0 + k ≡ k = λ k. omega arith in
    let there : (k : ℕ) (file : File) → slice_get files k ≡ Some file → slice_get files (0 + k) ≡ Some file = λ k file e. ap (slice_get files) (at k) ∙ e in
    let each : (index : ℕ) (file : File) → slice_get files index ≡ Some file → In (places_from 0 files) (file.name, index) =
    λ index file e. (let Q : ℕ → Type 0 = λ k. In (places_from 0 files) (file.name, k) in subst Q (at index) (each_from 0 files index file e)) in
    record {
      are = All-permutation (IsPlaceOf files) (places_from 0 files) (map f sorted) shuffled (are_from files files 0 there);
      each = λ index file e. Contains-permutation (places_from 0 files) (map f sorted) (file.name, index) shuffled (Contains-from_In (places_from 0 files) (file.name, index) (each index file e));
      ordered = strictly f sorted (IsDistinct-IsPermutation one_place flips (places_from 0 files) (map f sorted) shuffled (distinct_from 0 files)) rises;
    }

-- no file, and one more
pub none_placed : (files : List DropFile) → [] ≡ places_from 0 (map file_of (take 0 files))
unfolding places_from
none_placed files = refl

pub placed_more : {X : Type 0} (f : X → List ℕ × ℕ) (files : List DropFile) (i : ℕ) (d : DropFile) (placed more : List X) (x : X) → i < length files → map f placed ≡ places_from 0 (map file_of (take i files))
    → more ≡ placed ++ x ∷ [] → f x ≡ ((get_or files i d).name.now, i) → map f more ≡ places_from 0 (map file_of (take (i + 1) files))
placed_more f files i d placed more x lt so_far grown same =
    let file = get_or files i d in
    let front = map file_of (take i files) in
    let len : 0 + length front ≡ i = (let a = length-map (take i files) file_of in let b = length-take-le i files (omega arith) in omega arith) in
    let whole : map file_of (take (i + 1) files) ≡ front ++ file_of file ∷ [] = ap (map file_of) (take_more files i d lt) ∙ map-append file_of (take i files) (file ∷ []) in
    ap (map f) grown ∙ map-append f placed (x ∷ []) ∙ ap (λ z. z ++ f x ∷ []) so_far ∙ ap (λ z. places_from 0 front ++ z ∷ []) same
    ∙ ap (λ k. places_from 0 front ++ (file.name.now, k) ∷ []) (sym len) ∙ sym (places_more 0 front (file_of file)) ∙ ap (places_from 0) (sym whole)

-- all of them
pub all_placed : {X : Type 0} (f : X → List ℕ × ℕ) (files : List DropFile) (i : ℕ) (placed : List X) → length files ≤ i → map f placed ≡ places_from 0 (map file_of (take i files))
    → map f placed ≡ places_from 0 (map file_of files)
all_placed f files i placed all so_far = so_far ∙ ap (λ (xs : List DropFile). places_from 0 (map file_of xs)) (take_all i files all)

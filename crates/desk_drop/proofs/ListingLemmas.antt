-- The files of a folder, listed in another order.
use Rattle.std.proofs.Common.{◌≡◌, ◌≢◌, ℕ, ◌<◌, Bool, true, false, List, [], ◌∷◌, map, get_or, inl, inr, refl, sym, ◌∙◌, ap, subst, arith, All, Contains, Option, Some}
use Rattle.std.specs.Prelude.{unwrap_or}
use Rattle.std.specs.List.{AllByRecursion, slice_get}
use Rattle.std.specs.List.Sorted.{IsPermutation, IsStrictlySortedBy}
use Rattle.std.specs.Cmp.{IsTotalOrder, on_total}
use Rattle.std.specs.Cmp.Lexicographic.{slice_cmp}
use Rattle.std.specs.Ordering.{is_eq, nat_cmp, ordering_reverse, ordering_then}
use Rattle.std.specs.declared.cmp.Ordering.{Ordering}
use Rattle.std.specs.declared.cmp.Ordering.TheVariants.{Less, Equal, Greater}
use Rattle.std.proofs.lemmas.Bool.{false_from_ne_true, false≢true}
use Rattle.std.proofs.lemmas.Cmp.{nat_list_cmp_total, tied_itself}
use Rattle.std.proofs.lemmas.List.Elements.{All-contains, All-head, All-tail}
use Rattle.std.proofs.lemmas.List.Sorted.{Contains-permutation, IsPermutation-sym}
use Rattle.std.proofs.lemmas.Map.Keys.{IsDistinct-IsPermutation, IsDistinct-from_apart, apart_from_distinct, sorted_head, sorted_tail}
use Rattle.std.proofs.lemmas.Map.Text.{is_eq-slice_cmp}
use Rattle.std.proofs.lemmas.Option.{slice_get-get_or, slice_get_within, unwrap_or-slice_get}
use Rattle.desk_codes.proofs.BicLemmas.{same_bytes}
use Rattle.desk_rules.proofs.Decided.{Contains-from_In, In, In-from_Contains}
use Rattle.desk_book.specs.Asked.{Asked}
use Rattle.desk_drop.proofs.FolderLemmas.{item_at, never_below, one_request, same_list}
use Rattle.desk_drop.proofs.OrderLemmas.{order_total}
use Rattle.desk_drop.specs.Folder.{File, HaveOwnNames, IsFolder, IsItemOf, IsRequestOf, Item, asked_by_name, place_in, place_order}

-- Names that differ.

same_name : (m n : List ℕ) → slice_cmp nat_cmp m n ≡ Equal → m ≡ n
same_name m n e = same_bytes m n (sym (is_eq-slice_cmp m n) ∙ ap is_eq e)

is_equal : (o : Ordering) → is_eq o ≡ true → o ≡ Equal
is_equal Less e = cc
is_equal Equal e = refl
is_equal Greater e = cc

abbrev one_name : File → File → Bool
one_name f g = is_eq (slice_cmp nat_cmp f.name g.name)

apart : (f g : File) → f.name ≢ g.name → one_name f g ≡ false
apart f g differ = false_from_ne_true (one_name f g) (λ e. differ (same_name f.name g.name (is_equal (slice_cmp nat_cmp f.name g.name) e)))

differ : (f g : File) → one_name f g ≡ false → f.name ≢ g.name
differ f g other same =
    let e : slice_cmp nat_cmp f.name g.name ≡ Equal = ap (slice_cmp nat_cmp f.name) (sym same) ∙ tied_itself nat_list_cmp_total f.name in
    false≢true (sym other ∙ ap is_eq e)

turned : (o : Ordering) → is_eq (ordering_reverse o) ≡ is_eq o
turned Less = refl
turned Equal = refl
turned Greater = refl

flips : (f g : File) → one_name f g ≡ one_name g f
flips f g = ap is_eq (nat_list_cmp_total.antisymm f.name g.name) ∙ turned (slice_cmp nat_cmp g.name f.name)

-- names that differ do so in any order
own_names : (files others : List File) → IsPermutation files others → HaveOwnNames files → HaveOwnNames others
own_names files others moved own =
    let distinct = IsDistinct-IsPermutation one_name flips files others moved (IsDistinct-from_apart one_name files (λ i j d lt within. apart (get_or files i d) (get_or files j d) (own i j d lt within))) in
    λ i j d lt within. differ (get_or others i d) (get_or others j d) (apart_from_distinct one_name others i j d distinct lt within)

file_there : (files : List File) (k : ℕ) (d file : File) → slice_get files k ≡ Some file → get_or files k d ≡ file
file_there files k d file stands = sym (unwrap_or-slice_get files k d) ∙ ap (λ o. unwrap_or o d) stands

names_apart : (files : List File) (i j : ℕ) (f g : File) → HaveOwnNames files → slice_get files i ≡ Some f → slice_get files j ≡ Some g → f.name ≡ g.name → i < j → ⊥
names_apart files i j f g own at there same lt =
    own i j f lt (slice_get_within files j g there) (ap (λ (x : File). x.name) (file_there files i f f at) ∙ same ∙ sym (ap (λ (x : File). x.name) (file_there files j f g there)))

-- so two items of one name stand at one place
one_index : (files : List File) (x y : Item) → HaveOwnNames files → IsItemOf files x → IsItemOf files y → x.name ≡ y.name → x.index ≡ y.index
one_index files x y own p q same =
    let names : p.file.name ≡ q.file.name = sym p.named ∙ same ∙ q.named in
    let first : ¬ (x.index < y.index) = names_apart files x.index y.index p.file q.file own p.stands q.stands names in
    let second : ¬ (y.index < x.index) = names_apart files y.index x.index q.file p.file own q.stands p.stands (sym names) in
    omega arith

-- In order of the names alone.

abbrev name_order : List ℕ × Option Asked → List ℕ × Option Asked → Ordering
name_order p q = slice_cmp nat_cmp p.0 q.0

names_total : IsTotalOrder name_order
names_total = on_total (λ p. p.0) nat_list_cmp_total

by_first : (a b : Ordering) → ordering_then a b ≡ Less → a ≢ Equal → a ≡ Less
by_first Less b e other = refl
by_first Equal b e other = absurd (other refl)
by_first Greater b e other = cc

below_name : (files : List File) (x y : Item) → HaveOwnNames files → IsItemOf files x → IsItemOf files y → place_order (place_in x) (place_in y) ≡ Less → name_order (asked_by_name x) (asked_by_name y) ≡ Less
below_name files x y own p q below =
    by_first (slice_cmp nat_cmp x.name y.name) (nat_cmp x.index y.index) below
    (λ tied.
    let name = same_name x.name y.name tied in
    let index = one_index files x y own p q name in
    let place : place_in y ≡ place_in x = ap (λ n. (n, y.index)) (sym name) ∙ ap (λ k. (x.name, k)) (sym index) in
    never_below place_order order_total (place_in x) (subst (λ z. place_order (place_in x) z ≡ Less) place below))

all_below : (files : List File) (x : Item) (items : List Item) → HaveOwnNames files → IsItemOf files x → All (IsItemOf files) items → AllByRecursion (λ p. place_order (place_in x) p ≡ Less) (map place_in items)
    → AllByRecursion (λ p. name_order (asked_by_name x) p ≡ Less) (map asked_by_name items)
all_below files x [] own is all above = tt
all_below files x (y ∷ items) own is all above =
    (below_name files x y own is (All-head (IsItemOf files) y items all) above.0, all_below files x items own is (All-tail (IsItemOf files) y items all) above.1)

names_rise : (files : List File) (items : List Item) → HaveOwnNames files → All (IsItemOf files) items → IsStrictlySortedBy place_order (map place_in items) → IsStrictlySortedBy name_order (map asked_by_name items)
unfolding IsStrictlySortedBy
names_rise files [] own all rises = tt
names_rise files (x ∷ items) own all rises =
    let others = All-tail (IsItemOf files) x items all in (
      all_below files x items own (All-head (IsItemOf files) x items all) others (sorted_head place_order (place_in x) (map place_in items) rises),
      names_rise files items own others (sorted_tail place_order (place_in x) (map place_in items) rises),
    )

-- Two folders of the same files, listed in two orders.

named_at : (items : List Item) (p : List ℕ × Option Asked) → In (map asked_by_name items) p → (item : Item) × In items item × (asked_by_name item ≡ p)
named_at [] p i = absurd i
named_at (x ∷ items) p (inl e) = (x, inl refl, e)
named_at (x ∷ items) p (inr i) = (let more = named_at items p i in (more.0, inr more.1, more.2))

in_named : (items : List Item) (item : Item) → In items item → In (map asked_by_name items) (asked_by_name item)
in_named [] item i = absurd i
in_named (x ∷ items) item (inl e) = inl (ap asked_by_name e)
in_named (x ∷ items) item (inr i) = inr (in_named items item i)

-- a file of one list stands in the other
stands_too : (files others : List File) (k : ℕ) (file : File) → IsPermutation files others → slice_get files k ≡ Some file → (j : ℕ) × (slice_get others j ≡ Some file)
stands_too files others k file moved stands =
    let there : Contains files file = (k, slice_get_within files k file stands, file_there files k file file stands) in
    let too = Contains-permutation files others file moved there in
    (too.0, slice_get-get_or others too.0 file too.1 ∙ ap Some too.2)

-- what is asked of a file that stands in a list is asked in its folder
same_asked : (others : List File) (k : ℕ) (file : File) (x y : Item) → slice_get others k ≡ Some file → x.name ≡ file.name → IsRequestOf file x.request → IsItemOf others y → place_in y ≡ (file.name, k)
    → asked_by_name y ≡ asked_by_name x
same_asked others k file x y there name asks too at =
    let index : y.index ≡ k = ap (λ (q : List ℕ × ℕ). q.1) at in
    let names : y.name ≡ file.name = ap (λ (q : List ℕ × ℕ). q.0) at in
    let stands : Some too.file ≡ Some file = sym too.stands ∙ ap (slice_get others) index ∙ there in
    let same : too.file ≡ file = cc in
    let A : File → Type 0 = λ f. IsRequestOf f y.request in
    let request : y.request ≡ x.request = one_request file y.request x.request (subst A same too.asks) asks in
    cc

asked_there : (others : List File) (again : List Item) (k : ℕ) (file : File) (x : Item) → IsFolder others again → slice_get others k ≡ Some file → x.name ≡ file.name → IsRequestOf file x.request
    → In (map asked_by_name again) (asked_by_name x)
asked_there others again k file x folder there name asks =
    let place = item_at again (file.name, k) (In-from_Contains (map place_in again) (file.name, k) (folder.each k file there)) in
    let too : IsItemOf others place.0 = All-contains (IsItemOf others) again place.0 folder.are (Contains-from_In again place.0 place.1) in
    let P : List ℕ × Option Asked → Type 0 = In (map asked_by_name again) in
    subst P (same_asked others k file x place.0 there name asks too place.2) (in_named again place.0 place.1)

across : (files others : List File) (items again : List Item) → IsPermutation files others → IsFolder files items → IsFolder others again → (p : List ℕ × Option Asked) → In (map asked_by_name items) p → In (map asked_by_name again) p
across files others items again moved first second p i =
    let found = named_at items p i in
    let x : Item = found.0 in
    let is : IsItemOf files x = All-contains (IsItemOf files) items x first.are (Contains-from_In items x found.1) in
    let there = stands_too files others x.index is.file moved is.stands in
    let P : List ℕ × Option Asked → Type 0 = In (map asked_by_name again) in
    subst P found.2 (asked_there others again there.0 is.file x second there.1 is.named is.asks)

pub listed_again : (files others : List File) (items again : List Item) → IsPermutation files others → HaveOwnNames files → IsFolder files items → IsFolder others again → map asked_by_name again ≡ map asked_by_name items
listed_again files others items again moved own first second =
    let back = IsPermutation-sym files others moved in
    same_list name_order names_total (map asked_by_name again) (map asked_by_name items) (names_rise others again (own_names files others moved own) second.are second.ordered) (names_rise files items own first.are first.ordered)
    (across others files again items back second first) (across files others items again moved first second)

-- A folder is one list.
use Rattle.std.proofs.Common.{◌≡◌, ℕ, List, [], ◌∷◌, map, inl, inr, refl, sym, ◌∙◌, ap, subst, All, Contains, Option, Some, None}
use Rattle.std.specs.List.{slice_get, AllByRecursion}
use Rattle.std.specs.List.Sorted.{IsStrictlySortedBy}
use Rattle.std.specs.Ordering.{ordering_reverse}
use Rattle.std.specs.Cmp.{IsTotalOrder}
use Rattle.std.specs.declared.cmp.Ordering.{Ordering}
use Rattle.std.specs.declared.cmp.Ordering.TheVariants.{Less, Greater}
use Rattle.std.proofs.lemmas.List.Elements.{All-contains, All-head, All-tail}
use Rattle.std.proofs.lemmas.Map.Keys.{sorted_head, sorted_tail}
use Rattle.desk_rules.proofs.Decided.{Contains-from_In, In, In-from_Contains}
use Rattle.desk_book.specs.Asked.{Asked, asked_with}
use Rattle.desk_drop.proofs.NameLemmas.{one_question}
use Rattle.desk_drop.proofs.OrderLemmas.{order_total}
use Rattle.desk_drop.specs.Folder.{File, IsFolder, IsItemOf, IsOnlyFolder, IsRequestOf, Item, place_in, place_order}
use Rattle.desk_drop.specs.Places.{IsOrder}

-- A file asks one thing.

pub one_request : (file : File) (a b : Option Asked) → IsRequestOf file a → IsRequestOf file b → a ≡ b
one_request file (Some x) (Some y) p q =
    let question : x.question ≡ y.question = one_question file.name x.question y.question p.0 q.0 in
    let text : x.text ≡ y.text = p.1 ∙ sym q.1 in
    ap (λ r. Some (asked_with r x.text)) question ∙ ap (λ t. Some (asked_with y.question t)) text
one_request file (Some x) None p q = absurd (q x.question p.0)
one_request file None (Some y) p q = absurd (p y.question q.0)
one_request file None None p q = refl

as_item : List ℕ → ℕ → Option Asked → Item
as_item name index request = record { name = name; index = index; request = request }

same_item : (a b : Item) → a.name ≡ b.name → a.index ≡ b.index → a.request ≡ b.request → a ≡ b
unfolding as_item
same_item a b n i r = ap (λ x. as_item x a.index a.request) n ∙ ap (λ x. as_item b.name x a.request) i ∙ ap (λ x. as_item b.name b.index x) r

one_item : (files : List File) (a b : Item) → IsItemOf files a → IsItemOf files b → a.index ≡ b.index → a ≡ b
one_item files a b p q same =
    let there : Some p.file ≡ Some q.file = sym p.stands ∙ ap (slice_get files) same ∙ q.stands in
    let file : p.file ≡ q.file = cc in
    let P : File → Type 0 = λ f. IsRequestOf f a.request in
    same_item a b (p.named ∙ ap (λ (f : File). f.name) file ∙ sym q.named) same (one_request q.file a.request b.request (subst P file p.asks) q.asks)

-- Lists in order.

at_in : {X : Type 0} (P : X → Type 0) (xs : List X) (x : X) → AllByRecursion P xs → In xs x → P x
at_in P [] x all i = absurd i
at_in P (y ∷ xs) x all (inl e) = subst P e all.0
at_in P (y ∷ xs) x all (inr i) = at_in P xs x all.1 i

module _ {X : Type 0} (order : X → X → Ordering) (total : IsTotalOrder order) where
  pub never_below : (p : X) → order p p ≡ Less → ⊥
  never_below p e = (let f : order p p ≡ Greater = total.antisymm p p ∙ ap ordering_reverse e in cc)

  both_below : (p q : X) → order p q ≡ Less → order q p ≡ Less → ⊥
  both_below p q e g = (let f : order p q ≡ Greater = total.antisymm p q ∙ ap ordering_reverse g in cc)

  -- what is in the tail of one list and in another of the same head, is in its tail
  in_tail : (p q r : X) (a b : List X) → p ≡ q → AllByRecursion (λ y. order p y ≡ Less) a → In a r → In (q ∷ b) r → In b r
  in_tail p q r a b same above i (inl e) = absurd (never_below r (subst (λ z. order z r ≡ Less) (same ∙ e) (at_in (λ y. order p y ≡ Less) a r above i)))
  in_tail p q r a b same above i (inr j) = j

  -- two heads, each of which is in the other list, are one
  one_head : (p q : X) (a b : List X) → AllByRecursion (λ y. order p y ≡ Less) a → AllByRecursion (λ y. order q y ≡ Less) b → In (q ∷ b) p → In (p ∷ a) q → p ≡ q
  one_head p q a b above over (inl e) j = sym e
  one_head p q a b above over (inr i) (inl e) = e
  one_head p q a b above over (inr i) (inr j) = absurd (both_below p q (at_in (λ y. order p y ≡ Less) a q above j) (at_in (λ y. order q y ≡ Less) b p over i))

  -- two lists in order of the same elements are one
  pub same_list : (a b : List X) → IsStrictlySortedBy order a → IsStrictlySortedBy order b → ((p : X) → In a p → In b p) → ((p : X) → In b p → In a p) → a ≡ b
  same_list [] [] rises climbs there back = refl
  same_list [] (y ∷ b) rises climbs there back = absurd (back y (inl refl))
  same_list (x ∷ a) [] rises climbs there back = absurd (there x (inl refl))
  same_list (x ∷ a) (y ∷ b) rises climbs there back =
      let above = sorted_head order x a rises in
      let over = sorted_head order y b climbs in
      let head = one_head x y a b above over (there x (inl refl)) (back y (inl refl)) in
      let tail = same_list a b (sorted_tail order x a rises) (sorted_tail order y b climbs) (λ p i. in_tail x y p a b head above i (there p (inr i))) (λ p i. in_tail y x p b a (sym head) over i (back p (inr i))) in
      ap (λ z. z ∷ a) head ∙ ap (λ zs. y ∷ zs) tail

-- Two folders of the same files.

same_items : (files : List File) (a b : List Item) → All (IsItemOf files) a → All (IsItemOf files) b → map place_in a ≡ map place_in b → a ≡ b
same_items files [] [] all every same = refl
same_items files [] (y ∷ b) all every same = cc
same_items files (x ∷ a) (y ∷ b) all every same =
    let head : place_in x ≡ place_in y = cc in
    let item = one_item files x y (All-head (IsItemOf files) x a all) (All-head (IsItemOf files) y b every) (ap (λ (p : List ℕ × ℕ). p.1) head) in
    let tail = same_items files a b (All-tail (IsItemOf files) x a all) (All-tail (IsItemOf files) y b every) cc in
    ap (λ z. z ∷ a) item ∙ ap (λ zs. y ∷ zs) tail
same_items files (x ∷ a) [] all every same = cc

pub item_at : (items : List Item) (p : List ℕ × ℕ) → In (map place_in items) p → (item : Item) × In items item × (place_in item ≡ p)
item_at [] p i = absurd i
item_at (x ∷ items) p (inl e) = (x, inl refl, e)
item_at (x ∷ items) p (inr i) = (let more = item_at items p i in (more.0, inr more.1, more.2))

across : (files : List File) (a b : List Item) → IsFolder files a → IsFolder files b → (p : List ℕ × ℕ) → In (map place_in a) p → In (map place_in b) p
across files a b first second p i =
    let found = item_at a p i in
    let is = All-contains (IsItemOf files) a found.0 first.are (Contains-from_In a found.0 found.1) in
    let e : (is.file.name, found.0.index) ≡ p = ap (λ n. (n, found.0.index)) (sym is.named) ∙ found.2 in
    In-from_Contains (map place_in b) p (subst (Contains (map place_in b)) e (second.each found.0.index is.file is.stands))

pub one_folder : (files : List File) (a b : List Item) → IsFolder files a → IsFolder files b → a ≡ b
one_folder files a b first second =
    same_items files a b first.are second.are (same_list place_order order_total (map place_in a) (map place_in b) first.ordered second.ordered (across files a b first second) (across files b a second first))

pub only_folder : (files : List File) (items : List Item) (places : List (List ℕ × ℕ)) → IsOrder files places → map place_in items ≡ places → All (IsItemOf files) items → IsOnlyFolder files items
only_folder files items places order are each =
    let P : List (List ℕ × ℕ) → Type 0 = λ ps. IsStrictlySortedBy place_order ps in
    let is : IsFolder files items = record {
      are = each;
      each = λ index file e. (let Q : List (List ℕ × ℕ) → Type 0 = λ ps. Contains ps (file.name, index) in subst Q (sym are) (order.each index file e));
      ordered = subst P (sym are) order.ordered;
    } in
    record { is = is; alone = λ others other. one_folder files others items other is }

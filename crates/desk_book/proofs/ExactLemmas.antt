-- An object that has as many members as a list of names in order, and each of these, has no others.
use Rattle.std.proofs.Common.{◌≡◌, ℕ, suc, ◌≤◌, List, [], ◌∷◌, Some, None, option_map, String, Global, Ordering, Less, Equal, Greater, string_bytes, string_cmp, nat_cmp, refl, ap, ◌∙◌, arith, subst}
use Rattle.std.proofs.lemmas.Cmp.{nat_list_cmp_total}
use Rattle.std.proofs.lemmas.Map.Lookups.{exact_bytes}
use Rattle.std.specs.Cmp.Lexicographic.{slice_cmp}
use Rattle.std.specs.List.{AllByRecursion}
use Rattle.std.specs.List.Sorted.{IsStrictlySortedBy}
use Rattle.std.specs.Map.{keys_of}
use Rattle.std.specs.Ordering.{ordering_reverse, match_ordering}
use Rattle.serde_json.specs.Data.{Data, null, boolean, number, string, array, object, Members, no_members, member, put}
use Rattle.serde_json.specs.Events.{members_len}
use Rattle.serde_json.specs.Find.{get_member, as_object}
use Rattle.serde_json.specs.View.{members_view}
use Rattle.serde_json.proofs.Views.{Entry}
use Rattle.desk_book.specs.Members.{AllAbove, IsOrderedByName, IsOrderedObject}

-- each of the first is found in the second
abbrev pub AreFoundIn : Members → Members → Type 0
AreFoundIn no_members ms = Unit {0}
AreFoundIn (member k d ns) ms = (get_member k ms ≡ Some d) × AreFoundIn ns ms

above_view : (k : String Global) (es : List Entry) → AllByRecursion (λ y. string_cmp k y ≡ Less) (keys_of es) → AllAbove (string_bytes k) (members_view es)
above_view k [] h = tt
above_view k (e ∷ es) h = (h.0, above_view k es h.1)

-- the members of a map stand in order
pub ordered_view : (es : List Entry) → IsStrictlySortedBy string_cmp (keys_of es) → IsOrderedByName (members_view es)
unfolding IsStrictlySortedBy
ordered_view [] h = tt
ordered_view (e ∷ es) h = (above_view e.0 es h.0, ordered_view es h.1)

absent : (k : List ℕ) (ms : Members) → AllAbove k ms → get_member k ms ≡ None
absent k no_members h = refl
absent k (member l e ms) h = rw h.0 (absent k ms h.1)

above_lower : (l k : List ℕ) (ms : Members) → slice_cmp nat_cmp l k ≡ Less → AllAbove k ms → AllAbove l ms
above_lower l k no_members below h = tt
above_lower l k (member m e ms) below h = (nat_list_cmp_total.trans l k m below h.0, above_lower l k ms below h.1)

flipped : (a b : List ℕ) → slice_cmp nat_cmp a b ≡ Less → slice_cmp nat_cmp b a ≡ Greater
flipped a b h = nat_list_cmp_total.antisymm b a ∙ ap ordering_reverse h

flipped_back : (a b : List ℕ) → slice_cmp nat_cmp a b ≡ Greater → slice_cmp nat_cmp b a ≡ Less
flipped_back a b h = nat_list_cmp_total.antisymm b a ∙ ap ordering_reverse h

-- names above `l` are found after it
drops : (ns : Members) (l : List ℕ) (e : Data) (ms : Members) → AllAbove l ns → AreFoundIn ns (member l e ms) → AreFoundIn ns ms
drops no_members l e ms above found = tt
drops (member k d ns) l e ms above found =
    let later : get_member k ms ≡ Some d = rw (flipped l k above.0) at found.0 in
    (later, drops ns l e ms above.1 found.1)

nothing_below : (k l : List ℕ) (d e : Data) (ms : Members) → slice_cmp nat_cmp k l ≡ Less → AllAbove l ms → get_member k (member l e ms) ≡ Some d → ⊥
nothing_below k l d e ms below above found =
    let here : get_member k ms ≡ Some d = rw below at found in
    let none = absent k ms (above_lower k l ms below above) in
    cc

fewer_at : (o : Ordering) (k l : List ℕ) (d e : Data) (ns ms : Members) → slice_cmp nat_cmp k l ≡ o
    → AllAbove k ns → AllAbove l ms → get_member k (member l e ms) ≡ Some d → AreFoundIn ns (member l e ms)
    → ((here : AreFoundIn ns ms) → members_len ns ≤ members_len ms)
    → ((here : AreFoundIn (member k d ns) ms) → suc (members_len ns) ≤ members_len ms)
    → suc (members_len ns) ≤ suc (members_len ms)
fewer_at Less k l d e ns ms is above_k above_l found others some all = absurd (nothing_below k l d e ms is above_l found)
fewer_at Equal k l d e ns ms is above_k above_l found others some all =
    let same : k ≡ l = exact_bytes k l is in
    let above : AllAbove l ns = rw (← same) above_k in
    let less = some (drops ns l e ms above others) in omega arith
fewer_at Greater k l d e ns ms is above_k above_l found others some all =
    let below = flipped_back k l is in
    let less = all (drops (member k d ns) l e ms (below, above_lower l k ns below above_k) (found, others)) in omega arith

-- as many are there as are found
pub fewer : (ns ms : Members) → IsOrderedByName ns → IsOrderedByName ms → AreFoundIn ns ms → members_len ns ≤ members_len ms
fewer no_members ms sorted_n sorted_m found = omega arith
fewer (member k d ns) no_members sorted_n sorted_m found = let no : None ≡ Some d = found.0 in absurd (cc)
fewer (member k d ns) (member l e ms) sorted_n sorted_m found =
    fewer_at _ k l d e ns ms refl sorted_n.0 sorted_m.0 found.0 found.1
    (λ here. fewer ns ms sorted_n.1 sorted_m.1 here)
    (λ here. fewer (member k d ns) ms sorted_n sorted_m.1 here)

exact_at : (o : Ordering) (k l : List ℕ) (d e : Data) (ns ms : Members) → slice_cmp nat_cmp k l ≡ o
    → IsOrderedByName (member k d ns) → IsOrderedByName (member l e ms) → AreFoundIn (member k d ns) (member l e ms) → members_len ms ≡ members_len ns
    → ((here : AreFoundIn ns ms) → ms ≡ ns) → member l e ms ≡ member k d ns
exact_at Less k l d e ns ms is sorted_n sorted_m found long more = absurd (nothing_below k l d e ms is sorted_m.0 found.0)
exact_at Equal k l d e ns ms is sorted_n sorted_m found long more =
    let same : k ≡ l = exact_bytes k l is in
    let value : Some e ≡ Some d = rw is at found.0 in
    let above : AllAbove l ns = rw (← same) sorted_n.0 in
    let rest = more (drops ns l e ms above found.1) in cc
exact_at Greater k l d e ns ms is sorted_n sorted_m found long more =
    let below = flipped_back k l is in
    let less = fewer (member k d ns) ms sorted_n sorted_m.1 (drops (member k d ns) l e ms (below, above_lower l k ns below sorted_n.0) found) in
    absurd (omega arith)

-- the members are exactly those
pub exact : (ns ms : Members) → IsOrderedByName ns → IsOrderedByName ms → AreFoundIn ns ms → members_len ms ≡ members_len ns → ms ≡ ns
exact no_members no_members sorted_n sorted_m found long = refl
exact no_members (member l e ms) sorted_n sorted_m found long = absurd (omega arith)
exact (member k d ns) no_members sorted_n sorted_m found long = absurd (omega arith)
exact (member k d ns) (member l e ms) sorted_n sorted_m found long =
    exact_at _ k l d e ns ms refl sorted_n sorted_m found (omega arith) (λ here. exact ns ms sorted_n.1 sorted_m.1 here (omega arith))

-- an object with so many members, each of these among them, has these alone
pub exact_object : (ns : Members) (d : Data) → IsOrderedByName ns → IsOrderedObject d → option_map members_len (as_object d) ≡ Some (members_len ns)
    → ((ms : Members) → as_object d ≡ Some ms → AreFoundIn ns ms) → d ≡ object ns
exact_object ns null sorted ordered long found = cc
exact_object ns (boolean b) sorted ordered long found = cc
exact_object ns (number n) sorted ordered long found = cc
exact_object ns (string s) sorted ordered long found = cc
exact_object ns (array ds) sorted ordered long found = cc
exact_object ns (object ms) sorted ordered long found =
    let count : members_len ms ≡ members_len ns = cc in
    ap object (exact ns ms sorted ordered (found ms refl) count)

-- an object is as ordered as its members
pub ordered_object : (d : Data) (ms : Members) → Some ms ≡ as_object d → IsOrderedByName ms → IsOrderedObject d
ordered_object null ms is h = tt
ordered_object (boolean b) ms is h = tt
ordered_object (number n) ms is h = tt
ordered_object (string s) ms is h = tt
ordered_object (array ds) ms is h = tt
ordered_object (object ns) ms is h = let same : ms ≡ ns = cc in subst IsOrderedByName same h

-- ---- what is put at a name

above_put_at : (o : Ordering) (j k l : List ℕ) (d e : Data) (ms : Members) → slice_cmp nat_cmp j k ≡ Less → AllAbove j (member l e ms) → AllAbove j (put k d ms)
    → AllAbove j (match_ordering o (member k d (member l e ms)) (member l d ms) (member l e (put k d ms)))
above_put_at Less j k l d e ms below above later = (below, above)
above_put_at Equal j k l d e ms below above later = above
above_put_at Greater j k l d e ms below above later = (above.0, later)

above_put : (j k : List ℕ) (d : Data) (ms : Members) → slice_cmp nat_cmp j k ≡ Less → AllAbove j ms → AllAbove j (put k d ms)
above_put j k d no_members below above = (below, tt)
above_put j k d (member l e ms) below above = above_put_at (slice_cmp nat_cmp k l) j k l d e ms below above (above_put j k d ms below above.1)

ordered_put_at : (o : Ordering) (k l : List ℕ) (d e : Data) (ms : Members) → slice_cmp nat_cmp k l ≡ o → IsOrderedByName (member l e ms) → IsOrderedByName (put k d ms)
    → IsOrderedByName (match_ordering o (member k d (member l e ms)) (member l d ms) (member l e (put k d ms)))
ordered_put_at Less k l d e ms is ordered later = ((is, above_lower k l ms is ordered.0), ordered)
ordered_put_at Equal k l d e ms is ordered later = ordered
ordered_put_at Greater k l d e ms is ordered later = (above_put l k d ms (flipped_back k l is) ordered.0, later)

-- members stay in order
pub ordered_put : (k : List ℕ) (d : Data) (ms : Members) → IsOrderedByName ms → IsOrderedByName (put k d ms)
ordered_put k d no_members ordered = (tt, tt)
ordered_put k d (member l e ms) ordered = ordered_put_at (slice_cmp nat_cmp k l) k l d e ms refl ordered (ordered_put k d ms ordered.1)

len_put_at : (o : Ordering) (k l : List ℕ) (d e : Data) (ms : Members) → slice_cmp nat_cmp k l ≡ o → get_member k (member l e ms) ≡ None
    → (get_member k ms ≡ None → members_len (put k d ms) ≡ suc (members_len ms))
    → members_len (match_ordering o (member k d (member l e ms)) (member l d ms) (member l e (put k d ms))) ≡ suc (suc (members_len ms))
len_put_at Less k l d e ms is none later = refl
len_put_at Equal k l d e ms is none later = let some : Some e ≡ None = rw is at none in absurd (cc)
len_put_at Greater k l d e ms is none later = let more : get_member k ms ≡ None = rw is at none in ap suc (later more)

-- one is more where nothing stood at the name
pub len_put : (k : List ℕ) (d : Data) (ms : Members) → get_member k ms ≡ None → members_len (put k d ms) ≡ suc (members_len ms)
len_put k d no_members none = refl
len_put k d (member l e ms) none = len_put_at (slice_cmp nat_cmp k l) k l d e ms refl none (len_put k d ms)

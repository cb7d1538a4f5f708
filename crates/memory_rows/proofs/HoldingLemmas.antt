-- The first holding of an account, key by key.
use Rattle.std.proofs.Common.{◌≡◌, ℕ, ◌<◌, Bool, true, false, List, [], ◌∷◌, Option, Some, None, refl, ap, sym, ◌∙◌, subst, arith}
use Rattle.std.specs.Prelude.{bytes_eq, is_some, not, unwrap_or}
use Rattle.std.specs.List.{filter, All, AllByRecursion}
use Rattle.std.specs.List.Sorted.{IsStrictlySortedBy}
use Rattle.std.specs.Map.{keys_of, lookup}
use Rattle.std.specs.Range.Bound.{IsForward}
use Rattle.std.specs.BTreeMap.{get, is_at, BTreeMap}
use Rattle.std.specs.BTreeMap.Range.{entries_between, is_from_start, range_contains, IsLeBy, IsLtBy, IsRangeOf}
use Rattle.std.specs.Cmp.Lexicographic.{slice_cmp, nat_list_cmp_total}
use Rattle.std.specs.Ordering.{is_eq, is_le, is_lt, nat_cmp, ordering_reverse}
use Rattle.std.specs.declared.cmp.Ordering.{Ordering}
use Rattle.std.specs.declared.cmp.Ordering.TheVariants.{Less, Equal, Greater}
use Rattle.std.specs.declared.ops.Bound.{Bound}
use Rattle.std.specs.declared.ops.Bound.TheVariants.{Unbounded}
use Rattle.std.proofs.lemmas.List.Elements.{All-head, All-tail}
use Rattle.std.proofs.lemmas.List.Kept.{IsStrictlySortedBy-filter}
use Rattle.std.proofs.lemmas.Map.Keys.{sorted_head, sorted_tail}
use Rattle.std.proofs.lemmas.Map.Text.{is_eq-slice_cmp}
use Rattle.desk_rules.specs.Content.{Content}
use Rattle.desk_register.specs.declared.holding.Holding.{Holding}
use Rattle.desk_register.specs.Looked.{HoldsAbove, IsAboveText, IsHoldingAfter, IsLess}
use Rattle.desk_register.proofs.CaseLemmas.{by_bool, bytes_refl, same_bytes}
use Rattle.memory_rows.specs.declared.balance_key.BalanceKey.{BalanceKey}
use Rattle.memory_rows.specs.declared.balance_key.BalanceKey.TheVariants.{Cash, Outstanding, Paid, Position}
use Rattle.memory_rows.specs.BalanceKeys.{HasNoneBelow, balance_cmp, first_key, least_isin, text_cmp}
use Rattle.memory_rows.specs.Lists.{Listed, content_in}
use Rattle.memory_rows.specs.Walk.{AreRecorded, IsHeldAbove, Walks, has, start_of}
use Rattle.memory_rows.proofs.BalanceLemmas.{key_true, tied_keys}
use Rattle.memory_rows.proofs.FloorLemmas.{by_order}

not_less_itself : (a b : List ℕ) → a ≡ b → IsLess a b → ⊥
not_less_itself a b e less =
    let flip = nat_list_cmp_total.antisymm a b in
    let back : slice_cmp nat_cmp b a ≡ Less = subst (λ z. slice_cmp nat_cmp b z ≡ Less) (sym e) (subst (λ z. slice_cmp nat_cmp z b ≡ Less) e less) in
    let bad = sym less ∙ flip ∙ ap ordering_reverse back in
    cc

less_less : (a b c : List ℕ) → IsLess a b → IsLess b c → IsLess a c
less_less a b c p q = nat_list_cmp_total.trans a b c p q

same_key : (q k : BalanceKey) → is_at (balance_cmp q) k ≡ true → q ≡ k
same_key q k e = key_true q k (sym (tied_keys q k) ∙ e)

-- what is recorded has its key among the keys
found_has : (q : BalanceKey) (es : List (BalanceKey × ℕ)) → is_some (lookup (is_at (balance_cmp q)) es) ≡ true → has q (keys_of es) ≡ true
found_has q [] some = absurd (cc)
found_has q (e ∷ es) some =
    by_bool (is_at (balance_cmp q) e.0)
    (λ t. rw t refl)
    (λ f. rw f (found_has q es (rw f at some)))

has_filter : (q : BalanceKey) (p : BalanceKey × ℕ → Bool) (es : List (BalanceKey × ℕ)) → ((e : BalanceKey × ℕ) → is_at (balance_cmp q) e.0 ≡ true → p e ≡ true) → has q (keys_of es) ≡ true → has q (keys_of (filter p es)) ≡ true
has_filter q p [] passes there = there
has_filter q p (e ∷ es) passes there = by_bool (is_at (balance_cmp q) e.0)
    (λ here. rw (passes e here, here) refl)
    (λ other. let behind : has q (keys_of es) ≡ true = rw other at there in
    by_bool (p e) (λ kept. rw (kept, other) (has_filter q p es passes behind)) (λ lost. rw lost (has_filter q p es passes behind)))

less_is_le : (o : Ordering) → is_lt o ≡ true → is_le o ≡ true
less_is_le Less e = refl
less_is_le Equal e = cc
less_is_le Greater e = cc

-- the search goes forward
pub forward : (account : List ℕ) (above : Option (List ℕ)) → IsForward (IsLeBy balance_cmp) (IsLtBy balance_cmp) (start_of account above) Unbounded
forward account None = tt
forward account (Some a) = tt

-- what is found stands from the first key on
pub all_filter : (account : List ℕ) (above : Option (List ℕ)) (es : List (BalanceKey × ℕ)) → AllByRecursion (λ k. is_le (balance_cmp (first_key account above) k) ≡ true) (keys_of (entries_between balance_cmp (start_of account above) Unbounded es))
all_filter account above [] = tt
all_filter account None (e ∷ es) = by_bool (is_le (balance_cmp (first_key account None) e.0))
    (λ kept. rw kept (kept, all_filter account None es))
    (λ lost. rw lost (all_filter account None es))
all_filter account (Some a) (e ∷ es) = by_bool (is_lt (balance_cmp (first_key account (Some a)) e.0))
    (λ kept. rw kept (less_is_le _ kept, all_filter account (Some a) es))
    (λ lost. rw lost (all_filter account (Some a) es))

keys_filter : (p : BalanceKey → Bool) (es : List (BalanceKey × ℕ)) → keys_of (filter (λ e. p e.0) es) ≡ filter p (keys_of es)
keys_filter p [] = refl
keys_filter p (e ∷ es) = by_bool (p e.0) (λ kept. rw kept (ap (λ z. e.0 ∷ z) (keys_filter p es))) (λ lost. rw lost (keys_filter p es))

-- what is left of sorted keys is sorted
pub sorted_filter : (start : Bound BalanceKey) (es : List (BalanceKey × ℕ)) → IsStrictlySortedBy balance_cmp (keys_of es) → IsStrictlySortedBy balance_cmp (keys_of (entries_between balance_cmp start Unbounded es))
sorted_filter start es sorted =
    let p = range_contains balance_cmp start Unbounded in
    subst (IsStrictlySortedBy balance_cmp) (sym (keys_filter p es)) (IsStrictlySortedBy-filter balance_cmp p (keys_of es) sorted)

-- The order of an account's positions is that of their ISINs.

text_itself : (a : List ℕ) → text_cmp a a ≡ Equal
text_itself a = by_order (text_cmp a a)
    (λ e. absurd (not_less_itself a a refl e))
    (λ e. e)
    (λ e. let flip = nat_list_cmp_total.antisymm a a in let bad = sym e ∙ flip ∙ ap ordering_reverse e in cc)

pub position_cmp : (account a b : List ℕ) → balance_cmp (Position account a) (Position account b) ≡ text_cmp a b
position_cmp account a b = rw (text_itself account) refl

not_greater : (a b : List ℕ) → (IsLess b a → ⊥) → is_le (text_cmp a b) ≡ true
not_greater a b not_less = by_order (text_cmp a b)
    (λ e. rw e refl)
    (λ e. rw e refl)
    (λ e. let flip = nat_list_cmp_total.antisymm a b in let back : text_cmp b a ≡ Less = let g = sym e ∙ flip in flipped (text_cmp b a) g in absurd (not_less back)) where
      flipped : (o : Ordering) → Greater ≡ ordering_reverse o → o ≡ Less
      flipped Less e = refl
      flipped Equal e = cc
      flipped Greater e = cc

module _ (l : Listed) (floor : HasNoneBelow l.balances) (account : List ℕ) where
  recorded_some : (o : Option ℕ) → 0 < unwrap_or o 0 → is_some o ≡ true
  recorded_some None some = absurd (omega arith)
  recorded_some (Some n) some = refl

  from_first : (above : Option (List ℕ)) (isin : List ℕ) → HoldsAbove (content_in l) account above isin → is_from_start balance_cmp (start_of account above) (Position account isin) ≡ true
  from_first None isin holds = rw (position_cmp account least_isin isin) (not_greater least_isin isin (floor.each account isin (recorded_some (l.balances (Position account isin)) holds.0)))
  from_first (Some a) isin holds = rw (position_cmp account a isin) (let less = holds.1 in rw less refl)

  -- all that is held stands from the beginning on
  pub all_from : (above : Option (List ℕ)) (es s : List (BalanceKey × ℕ)) → ((q : BalanceKey) → l.balances q ≡ lookup (is_at (balance_cmp q)) es) → s ≡ entries_between balance_cmp (start_of account above) Unbounded es
      → (isin : List ℕ) → HoldsAbove (content_in l) account above isin → has (Position account isin) (keys_of s) ≡ true
  all_from above es s is between isin holds =
      let q = Position account isin in
      let there : is_some (lookup (is_at (balance_cmp q)) es) ≡ true = rw (sym (is q)) (recorded_some (l.balances q) holds.0) in
      rw between (has_filter q (λ e. range_contains balance_cmp (start_of account above) Unbounded e.0) es
      (λ e same. let first : is_from_start balance_cmp (start_of account above) e.0 ≡ true = subst (λ z. is_from_start balance_cmp (start_of account above) z ≡ true) (same_key q e.0 same) (from_first above isin holds) in rw first refl)
      (found_has q es there))

-- The first of some keys, and those behind it.

first_or_behind : {G : Type 0} (q x : BalanceKey) (ks ts : List BalanceKey) → ks ≡ x ∷ ts → has q ks ≡ true → (q ≡ x → G) → (has q ts ≡ true → G) → G
first_or_behind q x ks ts is there first behind =
    let both : has q (x ∷ ts) ≡ true = rw is at there in
    by_bool (is_at (balance_cmp q) x) (λ here. first (same_key q x here)) (λ other. behind (rw other at both))

less_than : (x q : BalanceKey) (ts : List BalanceKey) → AllByRecursion (λ y. balance_cmp x y ≡ Less) ts → has q ts ≡ true → balance_cmp x q ≡ Less
less_than x q [] all there = absurd (cc)
less_than x q (y ∷ ts) all there = by_bool (is_at (balance_cmp q) y)
    (λ here. subst (λ z. balance_cmp x z ≡ Less) (sym (same_key q y here)) all.0)
    (λ other. less_than x q ts all.1 (rw other at there))

-- a key that stands between two positions of an account is of a position of that account
between : (account s i : List ℕ) (k : BalanceKey) → ((j : List ℕ) → k ≡ Position account j → ⊥) → is_le (balance_cmp (Position account s) k) ≡ true → balance_cmp k (Position account i) ≡ Less → ⊥
between account s i (Position a j) other low high =
    by_order (text_cmp account a)
    (λ e. let back : text_cmp a account ≡ Greater = nat_list_cmp_total.antisymm a account ∙ ap ordering_reverse e in let bad = rw back at high in cc)
    (λ e. let tied : bytes_eq account a ≡ true = sym (is_eq-slice_cmp account a) ∙ ap is_eq e in other j (ap (λ z. Position z j) (sym (same_bytes account a tied))))
    (λ e. let bad = rw e at low in cc)
between account s i (Outstanding isin) other low high = cc
between account s i (Cash bic ccy) other low high = cc
between account s i (Paid ccy) other low high = cc

module _ (content : Content) (account : List ℕ) (above : Option (List ℕ)) (x : BalanceKey) (ks ts : List BalanceKey) (is : ks ≡ x ∷ ts)
    (left : (isin : List ℕ) → HoldsAbove content account above isin → has (Position account isin) ks ≡ true)
    (sorted : IsStrictlySortedBy balance_cmp ks) (from : AllByRecursion (λ k. is_le (balance_cmp (first_key account above) k) ≡ true) ks) where
  behind_first : (q : BalanceKey) → has q ts ≡ true → balance_cmp x q ≡ Less
  behind_first q there = less_than x q ts (sorted_head balance_cmp x ts (subst (IsStrictlySortedBy balance_cmp) is sorted)) there

  first_from : is_le (balance_cmp (first_key account above) x) ≡ true
  first_from = (subst (AllByRecursion (λ k. is_le (balance_cmp (first_key account above) k) ≡ true)) is from).0

  pub sorted_behind : IsStrictlySortedBy balance_cmp ts
  sorted_behind = sorted_tail balance_cmp x ts (subst (IsStrictlySortedBy balance_cmp) is sorted)

  pub from_behind : AllByRecursion (λ k. is_le (balance_cmp (first_key account above) k) ≡ true) ts
  from_behind = (subst (AllByRecursion (λ k. is_le (balance_cmp (first_key account above) k) ≡ true)) is from).1

  -- past the account's positions there is none
  pub none_past : ((j : List ℕ) → x ≡ Position account j → ⊥) → (isin : List ℕ) → HoldsAbove content account above isin → ⊥
  none_past other isin holds = first_or_behind (Position account isin) x ks ts is (left isin holds)
      (λ first. other isin (sym first))
      (λ there. past above first_from (behind_first (Position account isin) there)) where
        past : (above : Option (List ℕ)) → is_le (balance_cmp (first_key account above) x) ≡ true → balance_cmp x (Position account isin) ≡ Less → ⊥
        past None low high = between account least_isin isin x other low high
        past (Some a) low high = between account a isin x other low high

  module _ (j : List ℕ) (at : x ≡ Position account j) where
    -- the first that is held is the first of all
    pub first_is_held : (holding : Holding) → IsHeldAbove (content.position account j) above j (Some holding) → IsHoldingAfter content account above (Some holding)
    first_is_held holding found = (
      subst (HoldsAbove content account above) (sym found.2) (found.0, found.1),
      found.3 ∙ ap (content.position account) (sym found.2),
      λ other holds less. first_or_behind (Position account other) x ks ts is (left other holds)
          (λ first. let same : other ≡ j = let both = first ∙ at in cc in not_less_itself other holding.isin (same ∙ sym found.2) less)
          (λ there.
          let order : balance_cmp (Position account j) (Position account other) ≡ Less = subst (λ z. balance_cmp z (Position account other) ≡ Less) at (behind_first (Position account other) there) in
          let up : IsLess j other = sym (position_cmp account j other) ∙ order in
          let down : IsLess other j = subst (IsLess other) found.2 less in
          not_less_itself j j refl (less_less j other j up down)),
    )

    -- where the first is not held, all stand behind it
    pub all_behind : IsHeldAbove (content.position account j) above j None → (isin : List ℕ) → HoldsAbove content account above isin → has (Position account isin) ts ≡ true
    all_behind none isin holds = first_or_behind (Position account isin) x ks ts is (left isin holds)
        (λ first. let same : isin ≡ j = let both = first ∙ at in cc in absurd (none (subst (HoldsAbove content account above) same holds)))
        (λ there. there)

-- The amounts of some entries.

pub range_recorded : (from to : Bound BalanceKey) (m : BTreeMap BalanceKey ℕ) (es s : List (BalanceKey × ℕ)) → s ≡ es → IsRangeOf balance_cmp from to m es → AreRecorded (get balance_cmp m) s
range_recorded from to m es s is range = subst (AreRecorded (get balance_cmp m)) (sym is) (record { each = λ k d below. (range.0 k d below).1 })

-- the first is what is recorded of its key, and so is each behind it
module _ (balances : BalanceKey → Option ℕ) (key : BalanceKey) (amount : ℕ) (es ts : List (BalanceKey × ℕ)) (is : es ≡ (key, amount) ∷ ts) (recorded : AreRecorded balances es) where
  pub first_recorded : balances key ≡ Some amount
  first_recorded = All-head (λ e. balances e.0 ≡ Some e.1) (key, amount) ts (subst (All (λ e. balances e.0 ≡ Some e.1)) is recorded.each)

  pub recorded_behind : AreRecorded balances ts
  recorded_behind = record { each = All-tail (λ e. balances e.0 ≡ Some e.1) (key, amount) ts (subst (All (λ e. balances e.0 ≡ Some e.1)) is recorded.each) }

-- what is recorded of a position is held
pub held_amount : (l : Listed) (account isin : List ℕ) (key : BalanceKey) (amount : ℕ) → key ≡ Position account isin → l.balances key ≡ Some amount → amount ≡ (content_in l).position account isin
held_amount l account isin key amount at recorded = ap (λ o. unwrap_or o 0) (sym recorded ∙ ap l.balances at)

-- A step of a walk.

-- one that has come to its end comes to no more
pub comes_to_its_end : (l : Listed) (account : List ℕ) (above : Option (List ℕ)) (es : List (BalanceKey × ℕ)) → es ≡ [] → Walks l account above es → (isin : List ℕ) → HoldsAbove (content_in l) account above isin → ⊥
comes_to_its_end l account above es is walks isin holds = let bad = subst (λ z. has (Position account isin) (keys_of z) ≡ true) is (walks.left isin holds) in absurd (cc)

above_above : (above : Option (List ℕ)) (j isin : List ℕ) → IsAboveText above j → IsLess j isin → IsAboveText above isin
above_above None j isin one two = tt
above_above (Some a) j isin one two = less_less a j isin one two

all_le : (x : BalanceKey) (ts : List BalanceKey) → AllByRecursion (λ y. balance_cmp x y ≡ Less) ts → AllByRecursion (λ y. is_le (balance_cmp x y) ≡ true) ts
all_le x [] all = tt
all_le x (y ∷ ts) all = (subst (λ o. is_le o ≡ true) (sym all.0) refl, all_le x ts all.1)

module _ (l : Listed) (account : List ℕ) (above : Option (List ℕ)) (key : BalanceKey) (amount : ℕ) (es ts : List (BalanceKey × ℕ)) (is : es ≡ (key, amount) ∷ ts)
    (walks : Walks l account above es) where
  -- one that comes to what is no position of the account comes to no more
  pub comes_to_no_more : ((j : List ℕ) → key ≡ Position account j → ⊥) → (isin : List ℕ) → HoldsAbove (content_in l) account above isin → ⊥
  comes_to_no_more = none_past (content_in l) account above key (keys_of es) (keys_of ts) (ap keys_of is) walks.left walks.sorted walks.from

  module _ (j : List ℕ) (at : key ≡ Position account j) where
    as_held : (found : Option Holding) → IsHeldAbove amount above j found → IsHeldAbove ((content_in l).position account j) above j found
    as_held found = subst (λ q. IsHeldAbove q above j found) (held_amount l account j key amount at (first_recorded l.balances key amount es ts is walks.amounts))

    pub comes_to : (holding : Holding) → IsHeldAbove amount above j (Some holding) → IsHoldingAfter (content_in l) account above (Some holding)
    comes_to holding found = first_is_held (content_in l) account above key (keys_of es) (keys_of ts) (ap keys_of is) walks.left walks.sorted walks.from j at holding (as_held (Some holding) found)

    -- it goes past what is not held
    pub goes_past : IsHeldAbove amount above j None → Walks l account above ts
    goes_past none = record {
      left = all_behind (content_in l) account above key (keys_of es) (keys_of ts) (ap keys_of is) walks.left walks.sorted walks.from j at (as_held None none);
      sorted = sorted_behind (content_in l) account above key (keys_of es) (keys_of ts) (ap keys_of is) walks.left walks.sorted walks.from;
      from = from_behind (content_in l) account above key (keys_of es) (keys_of ts) (ap keys_of is) walks.left walks.sorted walks.from;
      amounts = recorded_behind l.balances key amount es ts is walks.amounts;
    }

    -- it goes on behind what is held
    pub goes_on : (holding : Holding) → IsHeldAbove amount above j (Some holding) → Walks l account (Some holding.isin) ts
    goes_on holding found = subst (λ isin. Walks l account (Some isin) ts) (sym found.2) (record {
      left = λ isin holds. first_or_behind (Position account isin) key (keys_of es) (keys_of ts) (ap keys_of is)
          (walks.left isin (holds.0, above_above above j isin found.1 holds.1))
          (λ first. let same : isin ≡ j = let both = first ∙ at in cc in absurd (not_less_itself j isin (sym same) holds.1))
          (λ there. there);
      sorted = sorted_behind (content_in l) account above key (keys_of es) (keys_of ts) (ap keys_of is) walks.left walks.sorted walks.from;
      from = subst (λ k. AllByRecursion (λ y. is_le (balance_cmp k y) ≡ true) (keys_of ts)) at (all_le key (keys_of ts) (sorted_head balance_cmp key (keys_of ts) (subst (IsStrictlySortedBy balance_cmp) (ap keys_of is) walks.sorted)));
      amounts = recorded_behind l.balances key amount es ts is walks.amounts;
    })

-- An account's key, and another's.

pub other_holder : (key : BalanceKey) (holder isin account : List ℕ) → key ≡ Position holder isin → true ≡ not (bytes_eq holder account) → (j : List ℕ) → key ≡ Position account j → ⊥
other_holder key holder isin account is differs j e =
    let same : account ≡ holder = let both = sym e ∙ is in cc in
    let one : bytes_eq holder account ≡ true = subst (λ z. bytes_eq z account ≡ true) same (bytes_refl account) in
    let bad = rw one at differs in cc

pub its_holder : (key : BalanceKey) (holder isin account : List ℕ) → key ≡ Position holder isin → false ≡ not (bytes_eq holder account) → key ≡ Position account isin
its_holder key holder isin account is same =
    by_bool (bytes_eq holder account)
    (λ t. is ∙ ap (λ z. Position z isin) (same_bytes holder account t))
    (λ f. let bad = rw f at same in cc)

-- Rows of a table of amounts, one of which is found, put in or replaced.
use Rattle.std.proofs.Common.{◌≡◌, ◌⊎◌, inl, inr, ℕ, ◌<◌, ◌^◌, ℤ, Bool, true, false, cond, ◌||◌, List, [], ◌∷◌, ◌++◌, filter, None, Some, Option, refl, sym, ap, subst, ◌∙◌}
use Rattle.std.specs.List.{AllByRecursion, list_any}
use Rattle.std.specs.Str.{bytes_eq}
use Rattle.std.specs.declared.cmp.Ordering.{Ordering}
use Rattle.std.specs.declared.cmp.Ordering.TheVariants.{Less, Equal, Greater}
use Rattle.std.specs.Ordering.{is_eq, match_ordering, ordering_reverse}
use Rattle.std.proofs.lemmas.Bool.{cases_Bool, and_parts, and_from, both_ways}
use Rattle.std.proofs.lemmas.Slice.Eq.{bytes_eq-Decides}
use Rattle.sqlite.specs.Order.{Row, value_cmp}
use Rattle.sqlite_value.proofs.OrderLemmas.{value_cmp_total}
use Rattle.sqlite.specs.declared.types.Value.{Value}
use Rattle.sqlite.specs.declared.types.Value.TheVariants.{Int}
use Rattle.sqlite_trees.proofs.ListLemmas.{all-filter, ascending-filter}
use Rattle.sqlite_trees.proofs.TreeLemmas.{IsTable-put_row}
use Rattle.sqlite.specs.Tree.{IsAscending, IsTable, rowid, put_row, without_rowid, has_rowid}
use Rattle.sql_rows.specs.Keys.{Texts, same_texts}
use Rattle.sql_rows.specs.Amounts.{texts_in, amount_on, is_at, recorded, IsStored, AreApart, AreAmountRows, stored}

-- ---- tests of two texts

pub same_is : (a b : Texts) → same_texts a b ≡ true → a ≡ b
same_is a b h =
    let both = and_parts (bytes_eq a.0 b.0) (bytes_eq a.1 b.1) h in
    let one : a.0 ≡ b.0 = (bytes_eq-Decides a.0 b.0).0 both.0 in
    let two : a.1 ≡ b.1 = (bytes_eq-Decides a.1 b.1).0 both.1 in
    ap (λ x. (x, a.1)) one ∙ ap (λ y. (b.0, y)) two

pub same_self : (a : Texts) → same_texts a a ≡ true
same_self a = and_from (bytes_eq a.0 a.0) (bytes_eq a.1 a.1) ((bytes_eq-Decides a.0 a.0).1 refl) ((bytes_eq-Decides a.1 a.1).1 refl)

same_flips : (a b : Texts) → same_texts a b ≡ false → same_texts b a ≡ false
same_flips a b h = elim (cases_Bool (same_texts b a)) [
  | inl here ↦ absurd (both_ways _ h (subst (λ k. same_texts k b ≡ true) (same_is b a here) (same_self b)))
  | inr apart ↦ apart
]

-- ---- tests of two rowids

reversed_eq : (o : Ordering) → is_eq (ordering_reverse o) ≡ is_eq o
reversed_eq Less = refl
reversed_eq Equal = refl
reversed_eq Greater = refl

id_flips : (a b : Value) → is_eq (value_cmp b a) ≡ is_eq (value_cmp a b)
id_flips a b = ap is_eq (value_cmp_total.antisymm b a) ∙ reversed_eq (value_cmp a b)

equal_of : (o : Ordering) → o ≡ ordering_reverse o → o ≡ Equal
equal_of Less h = absurd (cc)
equal_of Equal h = refl
equal_of Greater h = absurd (cc)

self_equal : (v : Value) → is_eq (value_cmp v v) ≡ true
self_equal v = ap is_eq (equal_of (value_cmp v v) (value_cmp_total.antisymm v v))

-- ---- rows that are apart

pub flip_apart : (r s : Row) → AreApart r s → AreApart s r
flip_apart r s h = record { texts = same_flips (texts_in r) (texts_in s) h.texts; rowids = id_flips (rowid r) (rowid s) ∙ h.rowids }

-- a row with the texts and the rowid of another is apart from the same rows
apart_like : (r new s : Row) → texts_in new ≡ texts_in r → rowid new ≡ rowid r → AreApart r s → AreApart new s
apart_like r new s texts id h = record {
  texts = ap (λ t. same_texts t (texts_in s)) texts ∙ h.texts;
  rowids = ap (λ v. is_eq (value_cmp v (rowid s))) id ∙ h.rowids;
}

all_like : (r new : Row) (rows : List Row) → texts_in new ≡ texts_in r → rowid new ≡ rowid r → AllByRecursion (AreApart r) rows → AllByRecursion (AreApart new) rows
all_like r new [] texts id all = tt
all_like r new (s ∷ more) texts id all = (apart_like r new s texts id all.0, all_like r new more texts id all.1)

-- ---- what holds of all rows, with one more or one less

all_without : (P : Row → Type 0) (before after : List Row) (r : Row) → AllByRecursion P (before ++ r ∷ after) → AllByRecursion P (before ++ after)
all_without P [] after r all = all.1
all_without P (x ∷ xs) after r all = (all.0, all_without P xs after r all.1)

at_all : (P : Row → Type 0) (before after : List Row) (r : Row) → AllByRecursion P (before ++ r ∷ after) → P r
at_all P [] after r all = all.0
at_all P (x ∷ xs) after r all = at_all P xs after r all.1

all_with : (P : Row → Type 0) (before after : List Row) (new : Row) → P new → AllByRecursion P (before ++ after) → AllByRecursion P (before ++ new ∷ after)
all_with P [] after new h all = (h, all)
all_with P (x ∷ xs) after new h all = (all.0, all_with P xs after new h all.1)

apart_without : (before after : List Row) (r : Row) → IsAscending AreApart (before ++ r ∷ after) → IsAscending AreApart (before ++ after)
apart_without [] after r up = up.1
apart_without (x ∷ xs) after r up = (all_without (AreApart x) xs after r up.0, apart_without xs after r up.1)

apart_others : (before after : List Row) (r : Row) → IsAscending AreApart (before ++ r ∷ after) → AllByRecursion (AreApart r) (before ++ after)
apart_others [] after r up = up.0
apart_others (x ∷ xs) after r up = (flip_apart x r (at_all (AreApart x) xs after r up.0), apart_others xs after r up.1)

apart_with : (before after : List Row) (new : Row) → AllByRecursion (AreApart new) (before ++ after) → IsAscending AreApart (before ++ after) → IsAscending AreApart (before ++ new ∷ after)
apart_with [] after new free up = (free, up)
apart_with (x ∷ xs) after new free up = (all_with (AreApart x) xs after new (flip_apart new x free.0) up.0, apart_with xs after new free.1 up.1)

-- ---- a row is taken out by its rowid

none_has : (id : ℤ) (r : Row) (rows : List Row) → rowid r ≡ Int id → AllByRecursion (AreApart r) rows → without_rowid id rows ≡ rows
none_has id r [] is all = refl
none_has id r (s ∷ more) is all =
    let other : has_rowid id s ≡ false = ap (λ v. is_eq (value_cmp (rowid s) v)) (sym is) ∙ (flip_apart r s all.0).rowids in
    rw other (ap (λ ys. s ∷ ys) (none_has id r more is all.1))

removed : (id : ℤ) (before after : List Row) (r : Row) → rowid r ≡ Int id → IsAscending AreApart (before ++ r ∷ after) → without_rowid id (before ++ r ∷ after) ≡ before ++ after
removed id [] after r is up =
    let own : has_rowid id r ≡ true = ap (λ v. is_eq (value_cmp (rowid r) v)) (sym is) ∙ self_equal (rowid r) in
    rw own (none_has id r after is up.0)
removed id (x ∷ xs) after r is up =
    let other : has_rowid id x ≡ false = ap (λ v. is_eq (value_cmp (rowid x) v)) (sym is) ∙ (at_all (AreApart x) xs after r up.0).rowids in
    rw other (ap (λ ys. x ∷ ys) (removed id xs after r is up.1))

-- ---- a row is put among others

-- the rows before it and the rows behind it
pub record Between (new : Row) (rows put : List Row) : Type 0 where
  pub before : List Row
  pub after : List Row
  pub whole : rows ≡ before ++ after
  pub is : put ≡ before ++ new ∷ after

put_among : (new : Row) (rows : List Row) → AllByRecursion (AreApart new) rows → Between new rows (put_row new rows)
put_among new [] free = record { before = []; after = []; whole = refl; is = refl }
put_among new (r ∷ rs) free = go (put_among new rs free.1) (value_cmp (rowid r) (rowid new)) refl
  where
    go : Between new rs (put_row new rs) → (o : Ordering) → value_cmp (rowid r) (rowid new) ≡ o → Between new (r ∷ rs) (put_row new (r ∷ rs))
    go it Less is = record {
      before = r ∷ it.before;
      after = it.after;
      whole = ap (λ ys. r ∷ ys) it.whole;
      is = ap (λ o. match_ordering o (r ∷ put_row new rs) (new ∷ rs) (new ∷ r ∷ rs)) is ∙ ap (λ ys. r ∷ ys) it.is;
    }
    go it Equal is = absurd (both_ways _ (flip_apart new r free.0).rowids (ap is_eq is))
    go it Greater is = record { before = []; after = r ∷ rs; whole = refl; is = ap (λ o. match_ordering o (r ∷ put_row new rs) (new ∷ rs) (new ∷ r ∷ rs)) is }

-- what a row records of two texts, before what the others do
abbrev first_recorded : Row → Texts → Option ℕ → Option ℕ
first_recorded row texts others = cond (is_at texts row) (Some (amount_on row)) others

pub recorded_cons : (r : Row) (rows : List Row) (texts : Texts) → recorded (r ∷ rows) texts ≡ first_recorded r texts (recorded rows texts)
recorded_cons r rows texts = elim (cases_Bool (is_at texts r)) [ inl here ↦ rw here refl | inr apart ↦ rw apart refl ]

-- it does so wherever it stands, if it is apart from the others
recorded_among : (before after : List Row) (new : Row) (texts : Texts) → AllByRecursion (AreApart new) (before ++ after)
    → recorded (before ++ new ∷ after) texts ≡ first_recorded new texts (recorded (before ++ after) texts)
recorded_among [] after new texts free = recorded_cons new after texts
recorded_among (x ∷ xs) after new texts free =
    let more = recorded_among xs after new texts free.1 in
    let left = recorded_cons x (xs ++ new ∷ after) texts in
    let right = recorded_cons x (xs ++ after) texts in
    elim (cases_Bool (is_at texts x)) [
      | inl here ↦ (let other : is_at texts new ≡ false = ap (λ t. same_texts (texts_in new) t) (sym (same_is (texts_in x) texts here)) ∙ free.0.texts in
          let one : recorded (x ∷ (xs ++ new ∷ after)) texts ≡ Some (amount_on x) = left ∙ ap (λ b. cond b (Some (amount_on x)) (recorded (xs ++ new ∷ after) texts)) here in
          let two : recorded (x ∷ (xs ++ after)) texts ≡ Some (amount_on x) = right ∙ ap (λ b. cond b (Some (amount_on x)) (recorded (xs ++ after) texts)) here in
          one ∙ sym (ap (first_recorded new texts) two ∙ ap (λ b. cond b (Some (amount_on new)) (Some (amount_on x))) other))
      | inr apart ↦ (let one : recorded (x ∷ (xs ++ new ∷ after)) texts ≡ recorded (xs ++ new ∷ after) texts = left ∙ ap (λ b. cond b (Some (amount_on x)) (recorded (xs ++ new ∷ after) texts)) apart in
          let two : recorded (x ∷ (xs ++ after)) texts ≡ recorded (xs ++ after) texts = right ∙ ap (λ b. cond b (Some (amount_on x)) (recorded (xs ++ after) texts)) apart in
          one ∙ more ∙ sym (ap (first_recorded new texts) two))
    ]

module _ (rest : List Row) (all : AreAmountRows rest) (new : Row) (it : IsStored new) (free : AllByRecursion (AreApart new) rest) where
  goes : Between new rest (put_row new rest)
  goes = put_among new rest free

  pub put_rows : AreAmountRows (put_row new rest)
  put_rows = record {
    stored = subst (AllByRecursion IsStored) (sym goes.is) (all_with IsStored goes.before goes.after new it (subst (AllByRecursion IsStored) goes.whole all.stored));
    apart = subst (IsAscending AreApart) (sym goes.is) (apart_with goes.before goes.after new (subst (AllByRecursion (AreApart new)) goes.whole free) (subst (IsAscending AreApart) goes.whole all.apart));
    order = IsTable-put_row new rest all.order;
  }

  pub put_recorded : (texts : Texts) → recorded (put_row new rest) texts ≡ first_recorded new texts (recorded rest texts)
  put_recorded texts =
      ap (λ rows. recorded rows texts) goes.is ∙ recorded_among goes.before goes.after new texts (subst (AllByRecursion (AreApart new)) goes.whole free)
      ∙ ap (λ rows. first_recorded new texts (recorded rows texts)) (sym goes.whole)

-- ---- a row is found by its texts

split : (p : Row → Bool) (rows : List Row) (r : Row) → filter p rows ≡ r ∷ [] → (before : List Row) × (after : List Row) × (rows ≡ before ++ r ∷ after)
split p [] r h = absurd (cc)
split p (x ∷ xs) r h = elim (cases_Bool (p x)) [
  | inl passes ↦ (let e : x ∷ filter p xs ≡ r ∷ [] = rw passes at h in ([], xs, cc))
  | inr fails ↦ (let e : filter p xs ≡ r ∷ [] = rw fails at h in let it = split p xs r e in (x ∷ it.0, it.1, ap (λ ys. x ∷ ys) it.2))
]

passes : (p : Row → Bool) (rows : List Row) (r : Row) (more : List Row) → filter p rows ≡ r ∷ more → p r ≡ true
passes p [] r more h = absurd (cc)
passes p (x ∷ xs) r more h = elim (cases_Bool (p x)) [
  | inl here ↦ (let e : x ∷ filter p xs ≡ r ∷ more = rw here at h in let same : x ≡ r = cc in rw (← same) here)
  | inr apart ↦ (let e : filter p xs ≡ r ∷ more = rw apart at h in passes p xs r more e)
]

pub none_at : (texts : Texts) (r : Row) (rows : List Row) → texts_in r ≡ texts → AllByRecursion (AreApart r) rows → filter (is_at texts) rows ≡ []
none_at texts r [] is all = refl
none_at texts r (s ∷ more) is all =
    let other : is_at texts s ≡ false = ap (same_texts (texts_in s)) (sym is) ∙ (flip_apart r s all.0).texts in
    rw other (none_at texts r more is all.1)

-- no row has the texts, or one has
pub once : (texts : Texts) (rows : List Row) → IsAscending AreApart rows → (filter (is_at texts) rows ≡ []) ⊎ ((r : Row) × (filter (is_at texts) rows ≡ r ∷ []))
once texts [] up = inl refl
once texts (x ∷ xs) up = elim (cases_Bool (is_at texts x)) [
  | inl here ↦ inr (x, rw (here, none_at texts x xs (same_is (texts_in x) texts here) up.0) refl)
  | inr apart ↦ (let e : filter (is_at texts) (x ∷ xs) ≡ filter (is_at texts) xs = rw apart refl in
      elim (once texts xs up.1) [ inl none ↦ inl (e ∙ none) | inr one ↦ inr (one.0, e ∙ one.1) ])
]

pub recorded_none : (texts : Texts) (rows : List Row) → filter (is_at texts) rows ≡ [] → recorded rows texts ≡ None
recorded_none texts [] h = refl
recorded_none texts (x ∷ xs) h = elim (cases_Bool (is_at texts x)) [
  | inl here ↦ absurd (let e : x ∷ filter (is_at texts) xs ≡ [] = rw here at h in cc)
  | inr apart ↦ (let e : filter (is_at texts) xs ≡ [] = rw apart at h in rw apart (recorded_none texts xs e))
]

pub recorded_one : (texts : Texts) (rows : List Row) (r : Row) (more : List Row) → filter (is_at texts) rows ≡ r ∷ more → recorded rows texts ≡ Some (amount_on r)
recorded_one texts [] r more h = absurd (cc)
recorded_one texts (x ∷ xs) r more h = elim (cases_Bool (is_at texts x)) [
  | inl here ↦ (let e : x ∷ filter (is_at texts) xs ≡ r ∷ more = rw here at h in let same : x ≡ r = cc in rw here (ap (λ s. Some (amount_on s)) same))
  | inr apart ↦ (let e : filter (is_at texts) xs ≡ r ∷ more = rw apart at h in rw apart (recorded_one texts xs r more e))
]

-- each row records its amount under its own texts
pub own_recorded : (rows : List Row) → IsAscending AreApart rows → AllByRecursion (λ row. recorded rows (texts_in row) ≡ Some (amount_on row)) rows
own_recorded [] up = tt
own_recorded (r ∷ rs) up = (recorded_cons r rs (texts_in r) ∙ ap (λ b. cond b (Some (amount_on r)) (recorded rs (texts_in r))) (same_self (texts_in r)), behind rs up.0 (own_recorded rs up.1))
  where
    behind : (ys : List Row) → AllByRecursion (AreApart r) ys → AllByRecursion (λ row. recorded rs (texts_in row) ≡ Some (amount_on row)) ys → AllByRecursion (λ row. recorded (r ∷ rs) (texts_in row) ≡ Some (amount_on row)) ys
    behind [] apart all = tt
    behind (y ∷ ys) apart all = (
      recorded_cons r rs (texts_in y) ∙ ap (λ b. cond b (Some (amount_on r)) (recorded rs (texts_in y))) apart.0.texts ∙ all.0,
      behind ys apart.1 all.1,
    )

pub found_stored : (texts : Texts) (rows : List Row) (r : Row) → AllByRecursion IsStored rows → filter (is_at texts) rows ≡ r ∷ [] → IsStored r
found_stored texts rows r all one = (subst (AllByRecursion IsStored) one (all-filter IsStored (is_at texts) rows all)).0

-- ---- a row gets another amount

cond_twice : {X : Type 0} (b : Bool) (x y z : X) → cond b x (cond b y z) ≡ cond b x z
cond_twice true x y z = refl
cond_twice false x y z = refl

module _ (rows : List Row) (all : AreAmountRows rows) (texts : Texts) (r : Row) (one : filter (is_at texts) rows ≡ r ∷ []) (it : IsStored r) (amount : ℕ) (small : amount < 2 ^ 63) where
  abbrev reset : Row
  reset = stored it.id it.texts amount

  abbrev pub set_rows : List Row
  set_rows = put_row reset (without_rowid it.id rows)

  parts : (before : List Row) × (after : List Row) × (rows ≡ before ++ r ∷ after)
  parts = split (is_at texts) rows r one

  abbrev rest : List Row
  rest = parts.0 ++ parts.1

  own_id : rowid r ≡ Int it.id
  own_id = ap rowid it.is

  pub own_texts : texts_in r ≡ texts
  own_texts = same_is (texts_in r) texts (passes (is_at texts) rows r [] one)

  all_parts : AreAmountRows (parts.0 ++ r ∷ parts.1)
  all_parts = subst AreAmountRows parts.2 all

  rest_is : without_rowid it.id rows ≡ rest
  rest_is = ap (without_rowid it.id) parts.2 ∙ removed it.id parts.0 parts.1 r own_id all_parts.apart

  rest_all : AreAmountRows rest
  rest_all = record {
    stored = all_without IsStored parts.0 parts.1 r all_parts.stored;
    apart = apart_without parts.0 parts.1 r all_parts.apart;
    order = subst IsTable rest_is (ascending-filter _ _ rows all.order);
  }

  others : AllByRecursion (AreApart r) rest
  others = apart_others parts.0 parts.1 r all_parts.apart

  free : AllByRecursion (AreApart reset) rest
  free = all_like r reset rest (sym (ap texts_in it.is)) (sym own_id) others

  own : IsStored reset
  own = record { id = it.id; texts = it.texts; amount = amount; is = refl; small = small }

  pub set_all : AreAmountRows set_rows
  set_all = subst (λ xs. AreAmountRows (put_row reset xs)) (sym rest_is) (put_rows rest rest_all reset own free)

  pub set_recorded : (other : Texts) → recorded set_rows other ≡ cond (same_texts texts other) (Some amount) (recorded rows other)
  set_recorded other =
      let after : recorded set_rows other ≡ first_recorded reset other (recorded rest other) = ap (λ xs. recorded (put_row reset xs) other) rest_is ∙ put_recorded rest rest_all reset own free other in
      let reset_texts : texts_in reset ≡ texts = sym (ap texts_in it.is) ∙ own_texts in
      let before : recorded rows other ≡ first_recorded r other (recorded rest other) = ap (λ xs. recorded xs other) parts.2 ∙ recorded_among parts.0 parts.1 r other others in
      after ∙ ap (λ t. cond (same_texts t other) (Some amount) (recorded rest other)) reset_texts
      ∙ sym (cond_twice (same_texts texts other) (Some amount) (Some (amount_on r)) (recorded rest other))
      ∙ ap (λ t. cond (same_texts texts other) (Some amount) (cond (same_texts t other) (Some (amount_on r)) (recorded rest other))) (sym own_texts)
      ∙ ap (cond (same_texts texts other) (Some amount)) (sym before)

-- ---- the first row of two texts

free_among : (texts : Texts) (id : ℤ) (amount : ℕ) (rows : List Row) → filter (is_at texts) rows ≡ [] → list_any (λ r. is_eq (value_cmp (rowid r) (Int id))) rows ≡ false
    → AllByRecursion (AreApart (stored id texts amount)) rows
free_among texts id amount [] none fresh = tt
free_among texts id amount (x ∷ xs) none fresh = elim (cases_Bool (is_at texts x)) [
  | inl here ↦ absurd (let e : x ∷ filter (is_at texts) xs ≡ [] = rw here at none in cc)
  | inr apart ↦ (let e : filter (is_at texts) xs ≡ [] = rw apart at none in
      elim (cases_Bool (is_eq (value_cmp (rowid x) (Int id)))) [
        | inl taken ↦ absurd (let t : true ≡ false = sym (ap (λ b. b || list_any (λ r. is_eq (value_cmp (rowid r) (Int id))) xs) taken) ∙ fresh in cc)
        | inr free ↦ (
          record { texts = same_flips (texts_in x) texts apart; rowids = id_flips (rowid x) (Int id) ∙ free },
          free_among texts id amount xs e (sym (ap (λ b. b || list_any (λ r. is_eq (value_cmp (rowid r) (Int id))) xs) free) ∙ fresh),
        )
      ])
]

module _ (rows : List Row) (all : AreAmountRows rows) (texts : Texts) (none : filter (is_at texts) rows ≡ []) (id : ℤ) (amount : ℕ) (small : amount < 2 ^ 63)
    (fresh : list_any (λ r. is_eq (value_cmp (rowid r) (Int id))) rows ≡ false) where
  abbrev new : Row
  new = stored id texts amount

  itself : IsStored new
  itself = record { id = id; texts = texts; amount = amount; is = refl; small = small }

  pub first_all : AreAmountRows (put_row new rows)
  first_all = put_rows rows all new itself (free_among texts id amount rows none fresh)

  pub first_recorded_by : (other : Texts) → recorded (put_row new rows) other ≡ cond (same_texts texts other) (Some amount) (recorded rows other)
  first_recorded_by other = put_recorded rows all new itself (free_among texts id amount rows none fresh) other

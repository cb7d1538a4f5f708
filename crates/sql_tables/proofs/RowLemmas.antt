-- When a table of numbered rows is the list that was computed.
use Rattle.std.proofs.Common.{◌≡◌, ℕ, zero, suc, ◌+◌, ◌<◌, List, [], ◌∷◌, length, map, get_or, Bool, true, false, ◌&&◌, not, Some, Option, inl, inr, refl, sym, ap, subst, ◌∙◌, arith}
use Rattle.std.specs.List.{AllByRecursion}
use Rattle.std.specs.List.Sorted.{IsPermutation}
use Rattle.std.specs.Ordering.{ordering_reverse}
use Rattle.std.specs.declared.cmp.Ordering.TheVariants.{Less}
use Rattle.std.proofs.lemmas.Bool.{and_parts, both_ways}
use Rattle.std.proofs.lemmas.List.{ext_get_or, get_or-map, length-map}
use Rattle.std.proofs.lemmas.List.Sorted.{IsPermutation-sym}
use Rattle.sqlite.specs.declared.types.Value.{Value}
use Rattle.sqlite.specs.declared.types.Value.TheVariants.{Null, Int}
use Rattle.sqlite.specs.Order.{Row, column, value_cmp}
use Rattle.sqlite.specs.Table.{Table}
use Rattle.sqlite.specs.Tree.{IsTable, rowid}
use Rattle.sqlite_schema.specs.declared.schema.Column.{Column}
use Rattle.sqlite_schema.specs.Names.{is_key}
use Rattle.sqlite_trees.proofs.ListLemmas.{all-permutation, all_from_map}
use Rattle.sqlite_value.proofs.OrderLemmas.{value_cmp_total}
use Rattle.sqlite_value.specs.declared.value.ValueRef.{ValueRef}
use Rattle.sqlite_value.specs.Value.{owned}
use Rattle.sqlite.specs.Values.{bound, bound_value}
use Rattle.sql_tables.specs.Queries.{Among}
use Rattle.sql_tables.proofs.QueryLemmas.{all_among, among_map, at_among}
use Rattle.sql_tables.specs.Forms.{AreValues, HasForm, MayStand}
use Rattle.sql_tables.specs.Whole.{columns_from, has_last, shown_by, IsWhole}

-- ---- a row, value by value

pub same_values : (row : Row) (given : List ValueRef) → length row ≡ length given → ((k : ℕ) (d : ValueRef) → k < length given → column row k ≡ bound_value (owned (get_or given k d))) → row ≡ bound given
same_values row given size each =
    ext_get_or Null row (bound given) (size ∙ sym (length-map given (λ v. bound_value (owned v))))
    (λ k low. let within : k < length given = omega (arith, low, size) in at k within)
  where
    at : (k : ℕ) → k < length given → get_or row k Null ≡ get_or (bound given) k Null
    at k low = one given k low (each k)
      where
        one : (given : List ValueRef) (k : ℕ) → k < length given → ((d : ValueRef) → k < length given → column row k ≡ bound_value (owned (get_or given k d))) → get_or row k Null ≡ get_or (bound given) k Null
        one [] k low each = absurd (omega (arith, low))
        one (v ∷ vs) k low each = each v low ∙ sym (get_or-map (λ v. bound_value (owned v)) (v ∷ vs) k v Null low)

-- and of a row that says these each value is the one that was given
pub value_at : (row : Row) (given : List ValueRef) → row ≡ bound given → (k : ℕ) (d : ValueRef) → k < length given → column row k ≡ bound_value (owned (get_or given k d))
value_at row given is k d low = ap (λ r. column r k) is ∙ get_or-map (λ v. bound_value (owned v)) given k d Null low

pub as_long : (row : Row) (given : List ValueRef) → row ≡ bound given → length row ≡ length given
as_long row given is = ap length is ∙ length-map given (λ v. bound_value (owned v))

-- ---- two tables with the same rows

less_apart : (a b : Value) → value_cmp a b ≡ Less → value_cmp b a ≡ Less → ⊥
less_apart a b one two = let e : Less ≡ ordering_reverse Less = sym one ∙ value_cmp_total.antisymm a b ∙ ap ordering_reverse two in absurd (cc)

abbrev Above : Row → Row → Type 0
Above x y = value_cmp (rowid x) (rowid y) ≡ Less

first_same : (x y : Row) (xs ys : List Row) → AllByRecursion (Above x) xs → AllByRecursion (Above y) ys → Among (y ∷ ys) x → Among (x ∷ xs) y → x ≡ y
first_same x y xs ys up vp (inl is) other = is
first_same x y xs ys up vp (inr one) (inl is) = sym is
first_same x y xs ys up vp (inr one) (inr two) = absurd (less_apart (rowid x) (rowid y) (at_among (Above x) xs up y two) (at_among (Above y) ys vp x one))

later_same : (x y : Row) (ys zs : List Row) → x ≡ y → AllByRecursion (Above x) zs → AllByRecursion (Among (y ∷ ys)) zs → AllByRecursion (Among ys) zs
later_same x y ys [] same up all = tt
later_same x y ys (z ∷ zs) same up all = (one up.0 all.0, later_same x y ys zs same up.1 all.1)
  where
    one : Above x z → Among (y ∷ ys) z → Among ys z
    one low (inl is) = absurd (let e : z ≡ x = is ∙ sym same in less_apart (rowid x) (rowid z) low (subst (λ r. value_cmp (rowid z) (rowid r) ≡ Less) e (subst (λ r. value_cmp (rowid r) (rowid z) ≡ Less) (sym e) low)))
    one low (inr later) = later

two_same : (x y : Row) (xs ys : List Row) → x ≡ y → xs ≡ ys → (x ∷ xs) ≡ (y ∷ ys)
two_same x y xs ys p q = ap (λ r. r ∷ xs) p ∙ ap (λ rs. y ∷ rs) q

-- tables whose rows are the same, in whatever order they were told, are the same
pub same_rows : (xs ys : List Row) → IsTable xs → IsTable ys → AllByRecursion (Among ys) xs → AllByRecursion (Among xs) ys → xs ≡ ys
same_rows [] [] up vp ax ay = refl
same_rows [] (y ∷ ys) up vp ax ay = absurd ay.0
same_rows (x ∷ xs) [] up vp ax ay = absurd ax.0
same_rows (x ∷ xs) (y ∷ ys) up vp ax ay =
    let same = first_same x y xs ys up.0 vp.0 ax.0 ay.0 in
    two_same x y xs ys same (same_rows xs ys up.1 vp.1 (later_same x y ys xs same up.0 ax.1) (later_same y x xs ys (sym same) vp.0 ay.1))

-- ---- a row from what is shown of it

shift : (v : Value) (vs : Row) (at n : ℕ) → columns_from (suc at) (v ∷ vs) n ≡ columns_from at vs n
shift v vs at zero = refl
shift v vs at (suc n) = ap (λ ys. column vs at ∷ ys) (shift v vs (suc at) n)

all_columns : (vs : Row) → columns_from 0 vs (length vs) ≡ vs
all_columns [] = refl
all_columns (v ∷ vs) = ap (λ ys. v ∷ ys) (shift v vs 0 (length vs) ∙ all_columns vs)

-- of a whole row each value is shown
pub shown_whole : (number : Value) (values : Row) (n : ℕ) → length values ≡ n → shown_by n (number ∷ Null ∷ values) ≡ number ∷ values
shown_whole number values n size =
    ap (λ ys. number ∷ ys) (shift number (Null ∷ values) 1 n ∙ shift Null values 0 n ∙ ap (columns_from 0 values) (sym size) ∙ all_columns values)

no_null : (it : Bool) (c : Column) → (c.not_null && not it) ≡ true → MayStand it c Null → ⊥
no_null true c last may = both_ways false refl (and_parts c.not_null false last).1
no_null false c last may = both_ways c.not_null may (and_parts c.not_null true last).0

lacking : (key : Option ℕ) (at : ℕ) (c : Column) (cs : List Column) → has_last key at (c ∷ cs) ≡ true → AreValues key at (c ∷ cs) [] → ⊥
lacking key at c [] last each = no_null (is_key key at) c last each.0
lacking key at c (d ∷ more) last each = lacking key (at + 1) d more last each.1

full : (key : Option ℕ) (at : ℕ) (cs : List Column) (vs : Row) → has_last key at cs ≡ true → AreValues key at cs vs → length vs ≡ length cs
full key at [] [] last each = refl
full key at [] (v ∷ vs) last each = absurd each
full key at (c ∷ cs) [] last each = absurd (lacking key at c cs last each)
full key at (c ∷ []) (v ∷ vs) last each = ap suc (full key (at + 1) [] vs refl each.1)
full key at (c ∷ (d ∷ more)) (v ∷ vs) last each = ap suc (full key (at + 1) (d ∷ more) vs last each.1)

-- a table with a number for a key, whose last column may not lack
pub record IsNumbered (table : Table) (n : ℕ) : Type 0 where
  pub key : table.key ≡ Some 0
  pub last : has_last (Some 0) 0 table.columns ≡ true
  pub size : length table.columns ≡ suc n

whole_row : (n : ℕ) (cs : List Column) (row : Row) (number : Value) (vs : Row) → has_last (Some 0) 0 cs ≡ true → length cs ≡ suc n → row ≡ number ∷ vs → AreValues (Some 0) 0 cs vs → IsWhole n row
whole_row n [] row number vs last size is each = absurd (omega (arith, size))
whole_row n (c ∷ cs) row number [] last size is each = absurd (lacking (Some 0) 0 c cs last each)
whole_row n (c ∷ cs) row number (v ∷ vs) last size is each = record {
  number = number;
  values = vs;
  is = is ∙ ap (λ w. number ∷ w ∷ vs) each.0;
  size = (let e : suc (length vs) ≡ suc (length cs) = full (Some 0) 0 (c ∷ cs) (v ∷ vs) last each in omega (arith, e, size));
}

-- its rows are whole
pub whole : (table : Table) (n : ℕ) → IsNumbered table n → (row : Row) → HasForm table row → IsWhole n row
whole table n it row form = whole_row n table.columns row (Int form.number) form.values it.last it.size form.is (subst (λ key. AreValues key 0 table.columns form.values) it.key form.each)

-- whole rows that show the same are the same
pub shown_once : (n : ℕ) (r s : Row) → IsWhole n r → IsWhole n s → shown_by n r ≡ shown_by n s → r ≡ s
shown_once n r s one two same =
    let e : one.number ∷ one.values ≡ two.number ∷ two.values =
    sym (shown_whole one.number one.values n one.size) ∙ ap (shown_by n) (sym one.is) ∙ same ∙ ap (shown_by n) two.is ∙ shown_whole two.number two.values n two.size in
    one.is ∙ parted one.number two.number one.values two.values e ∙ sym two.is
  where
    parted : (a b : Value) (vs ws : Row) → a ∷ vs ≡ b ∷ ws → a ∷ Null ∷ vs ≡ b ∷ Null ∷ ws
    parted a b vs ws e = cc

-- ---- a table is the list that was computed, where a query shows what it would show of the list

module _ (n : ℕ) where
  back : (xs ys : List Row) → AllByRecursion (IsWhole n) xs → AllByRecursion (IsWhole n) ys → AllByRecursion (λ x. Among (map (shown_by n) ys) (shown_by n x)) xs → AllByRecursion (Among ys) xs
  back [] ys wx wy all = tt
  back (x ∷ xs) ys wx wy all = (
    (let it = among_map (shown_by n) ys (shown_by n x) all.0 in
        let same = shown_once n x it.0 wx.0 (at_among (IsWhole n) ys wy it.0 it.1) it.2 in
        subst (Among ys) (sym same) it.1),
    back xs ys wx.1 wy all.1,
  )

  pub is_computed : (rows wanted shown : List Row) → IsTable rows → IsTable wanted → AllByRecursion (IsWhole n) rows → AllByRecursion (IsWhole n) wanted
      → IsPermutation (map (shown_by n) rows) shown → shown ≡ map (shown_by n) wanted → rows ≡ wanted
  is_computed rows wanted shown up vp wr ww perm is =
      let same = subst (IsPermutation (map (shown_by n) rows)) is perm in
      let mine = all-permutation (Among (map (shown_by n) wanted)) (map (shown_by n) wanted) (map (shown_by n) rows) (IsPermutation-sym (map (shown_by n) rows) (map (shown_by n) wanted) same) (all_among (map (shown_by n) wanted)) in
      let its = all-permutation (Among (map (shown_by n) rows)) (map (shown_by n) rows) (map (shown_by n) wanted) same (all_among (map (shown_by n) rows)) in
      same_rows rows wanted up vp
      (back rows wanted wr ww (all_from_map (Among (map (shown_by n) wanted)) (shown_by n) rows mine))
      (back wanted rows ww wr (all_from_map (Among (map (shown_by n) rows)) (shown_by n) wanted its))

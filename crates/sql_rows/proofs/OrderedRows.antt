-- What a query shows of all rows of a table, in the order of their numbers: each row in its turn.
use Rattle.std.proofs.Common.{◌≡◌, ℕ, suc, ◌+◌, List, [], ◌∷◌, map, get_or, Bool, true, false, refl, sym, ap, subst, ◌∙◌, arith}
use Rattle.std.specs.List.{AllByRecursion, IsDistinct, flat_map}
use Rattle.std.specs.List.Sorted.{IsPermutation, IsSortedBy}
use Rattle.std.specs.Ordering.{is_eq, is_lt, ordering_reverse}
use Rattle.std.specs.declared.cmp.Ordering.{Ordering}
use Rattle.std.specs.declared.cmp.Ordering.TheVariants.{Less, Equal, Greater}
use Rattle.std.proofs.lemmas.List.Elements.{recursion_from_All}
use Rattle.std.proofs.lemmas.List.MinMax.{ranks_by}
use Rattle.std.proofs.lemmas.List.Sorted.{IsPermutation-sym, IsPermutation-map, sorted_far}
use Rattle.std.proofs.lemmas.Map.Keys.{IsDistinct-head, IsDistinct-tail, IsDistinct-IsPermutation}
use Rattle.sqlite.specs.Order.{Row, column, value_cmp}
use Rattle.sqlite.specs.Query.{Query, IsAnswer, output, Output}
use Rattle.sqlite.specs.Term.{Term, col, eval_all}
use Rattle.sqlite.specs.Tree.{Trees, IsTable, IsAscending, rowid}
use Rattle.sqlite_trees.proofs.ListLemmas.{all-permutation}
use Rattle.sqlite_value.specs.Keys.{by_key}
use Rattle.sqlite_value.proofs.KeyLemmas.{by_key_total}
use Rattle.sqlite_value.proofs.OrderLemmas.{then-Equal, value_cmp_total}
use Rattle.sql_tables.specs.Queries.{plain, rising, Among}
use Rattle.sql_tables.proofs.QueryLemmas.{all_among}
use Rattle.sql_tables.specs.Whole.{shown_by}
use Rattle.sql_tables.proofs.RowLemmas.{same_rows}

abbrev pub in_order : ℕ → List Term → Query
in_order tree shown = record (plain tree [] shown) { order = (col 1 0, rising) ∷ [] }

-- ---- outputs, by the number that each is sorted by

abbrev at_number : Output → Output → Bool
at_number x y = is_eq (value_cmp (rowid x.1) (rowid y.1))

flips : (x y : Output) → at_number x y ≡ at_number y x
flips x y = ap is_eq (value_cmp_total.antisymm (rowid x.1) (rowid y.1)) ∙ turned (value_cmp (rowid y.1) (rowid x.1))
  where
    turned : (o : Ordering) → is_eq (ordering_reverse o) ≡ is_eq o
    turned Less = refl
    turned Equal = refl
    turned Greater = refl

abbrev before : Output → Output → Bool
before x y = is_lt (by_key rising (column x.0 0) (column y.0 0))

abbrev IsNumbered : Output → Type 0
IsNumbered o = column o.0 0 ≡ rowid o.1

apart : (xs : List Output) → IsAscending (λ x y. value_cmp (rowid x.1) (rowid y.1) ≡ Less) xs → IsDistinct at_number xs
unfolding IsDistinct
apart [] up = tt
apart (x ∷ xs) up = (each xs up.0, apart xs up.1)
  where
    each : (ys : List Output) → AllByRecursion (λ y. value_cmp (rowid x.1) (rowid y.1) ≡ Less) ys → AllByRecursion (λ y. at_number x y ≡ false) ys
    each [] all = tt
    each (y ∷ ys) all = (ap is_eq all.0, each ys all.1)

in_turn : (os : List Output) → IsSortedBy before os → IsAscending (λ x y. before y x ≡ false) os
in_turn [] up = tt
in_turn (o ∷ os) up = (
  recursion_from_All (λ y. before y o ≡ false) os (λ j d low. sorted_far before (ranks_by (by_key_total rising) (λ (x : Output). column x.0 0)) (o ∷ os) up 0 (suc j) d (omega arith) (omega (arith, low))),
  in_turn os (λ k d low high. (let next : suc k + 1 ≡ suc (k + 1) = omega arith in subst (λ i. before (get_or (o ∷ os) i d) (get_or os k d) ≡ false) next (up (suc k) d (omega arith) (omega (arith, high))))),
)

less : (o r : Ordering) → r ≡ ordering_reverse o → is_eq o ≡ false → is_lt r ≡ false → o ≡ Less
less Less r is other later = refl
less Equal r is other later = absurd (let e : true ≡ false = other in cc)
less Greater r is other later = absurd (let e : true ≡ false = sym (ap is_lt is) ∙ later in cc)

rises : (os : List Output) → AllByRecursion IsNumbered os → IsDistinct at_number os → IsAscending (λ x y. before y x ≡ false) os → IsTable (map (λ (o : Output). o.1) os)
rises [] own other later = tt
rises (o ∷ os) own other later = (each os own.1 (IsDistinct-head at_number o os other) later.0, rises os own.1 (IsDistinct-tail at_number o os other) later.1)
  where
    each : (ys : List Output) → AllByRecursion IsNumbered ys → AllByRecursion (λ y. at_number o y ≡ false) ys → AllByRecursion (λ y. before y o ≡ false) ys
        → AllByRecursion (λ r. value_cmp (rowid o.1) (rowid r) ≡ Less) (map (λ (y : Output). y.1) ys)
    each [] numbered others laters = tt
    each (y ∷ ys) numbered others laters = (
      less (value_cmp (rowid o.1) (rowid y.1)) (value_cmp (rowid y.1) (rowid o.1)) (value_cmp_total.antisymm (rowid y.1) (rowid o.1)) others.0
          (ap (λ v. is_lt (value_cmp v (rowid o.1))) (sym numbered.0) ∙ ap (λ v. is_lt (value_cmp (column y.0 0) v)) (sym own.0) ∙ laters.0),
      each ys numbered.1 others.1 laters.1,
    )

-- ---- the query

module _ (tree size : ℕ) (shown : List Term) (db : Trees) (params : Row) (rows : List Row) (shows : (row : Row) → eval_all shown (params ∷ row ∷ []) ≡ shown_by size row) where
  abbrev q : Query
  q = in_order tree shown

  abbrev held : List Row
  held = db tree

  abbrev out : Row → Output
  out row = output q (params ∷ row ∷ [])

  abbrev wanted : List Row
  wanted = map (shown_by size) held

  numbered : (xs : List Row) → AllByRecursion IsNumbered (map out xs)
  numbered [] = tt
  numbered (x ∷ xs) = (ap rowid (sym (shows x)), numbered xs)

  ascend : (xs : List Row) → IsTable xs → IsAscending (λ x y. value_cmp (rowid x.1) (rowid y.1) ≡ Less) (map out xs)
  ascend [] up = tt
  ascend (x ∷ xs) up = (each xs up.0, ascend xs up.1)
    where
      each : (ys : List Row) → AllByRecursion (λ y. value_cmp (rowid x) (rowid y) ≡ Less) ys → AllByRecursion (λ y. value_cmp (rowid (out x).1) (rowid y.1) ≡ Less) (map out ys)
      each [] all = tt
      each (y ∷ ys) all = (ap (λ r. value_cmp (rowid r) (rowid (out y).1)) (shows x) ∙ ap (λ r. value_cmp (rowid x) (rowid r)) (shows y) ∙ all.0, each ys all.1)

  shown_rise : (xs : List Row) → IsTable xs → IsTable (map (shown_by size) xs)
  shown_rise [] up = tt
  shown_rise (x ∷ xs) up = (each xs up.0, shown_rise xs up.1)
    where
      each : (ys : List Row) → AllByRecursion (λ y. value_cmp (rowid x) (rowid y) ≡ Less) ys → AllByRecursion (λ y. value_cmp (rowid x) (rowid y) ≡ Less) (map (shown_by size) ys)
      each [] all = tt
      each (y ∷ ys) all = (all.0, each ys all.1)

  shown_each : (xs : List Row) → map (λ (o : Output). o.1) (map out xs) ≡ map (shown_by size) xs
  shown_each [] = refl
  shown_each (x ∷ xs) = ap (λ r. r ∷ map (λ (o : Output). o.1) (map out xs)) (shows x) ∙ ap (λ rs. shown_by size x ∷ rs) (shown_each xs)

  one_each : (xs : List Row) → flat_map (λ row. (params ∷ row ∷ []) ∷ []) xs ≡ map (λ row. params ∷ row ∷ []) xs
  one_each [] = refl
  one_each (x ∷ xs) = ap (λ ys. (params ∷ x ∷ []) ∷ ys) (one_each xs)

  out_each : (xs : List Row) → map (output q) (map (λ (row : Row). params ∷ row ∷ []) xs) ≡ map out xs
  out_each [] = refl
  out_each (x ∷ xs) = ap (λ ys. out x ∷ ys) (out_each xs)

  pub ordered_rows : IsTable held → IsAnswer q db params rows → rows ≡ map (shown_by size) held
  ordered_rows up a =
      let kept : a.kept ≡ map out held = a.distinct ∙ ap (map (output q)) (a.grouped ∙ one_each held) ∙ out_each held in
      let same : IsPermutation (map out held) a.ordered = subst (λ xs. IsPermutation xs a.ordered) kept a.same in
      let own = all-permutation IsNumbered (map out held) a.ordered same (numbered held) in
      let other = IsDistinct-IsPermutation at_number flips (map out held) a.ordered same (apart (map out held) (ascend held up)) in
      let sorted : IsSortedBy before a.ordered = λ k d low high. ap is_lt (sym (then-Equal (by_key rising (column (get_or a.ordered (k + 1) d).0 0) (column (get_or a.ordered k d).0 0)))) ∙ a.sorted k d low high in
      let told : List Row = map (λ (o : Output). o.1) a.ordered in
      let moved : IsPermutation wanted told = subst (λ xs. IsPermutation xs told) (shown_each held) (IsPermutation-map (λ (o : Output). o.1) (map out held) a.ordered same) in
      a.shown ∙ same_rows told wanted (rises a.ordered own other (in_turn a.ordered sorted)) (shown_rise held up)
      (all-permutation (Among wanted) wanted told moved (all_among wanted))
      (all-permutation (Among told) told wanted (IsPermutation-sym wanted told moved) (all_among told))

-- Rows that obey the desk's schema have its forms, and no key comes twice.
use Rattle.std.proofs.Common.{◌≡◌, ℕ, suc, ◌+◌, ℤ, Bool, true, false, not, ◌&&◌, ◌||◌, if◌then◌else◌, List, [], ◌∷◌, Option, Some, drop, IsTrue, refl, sym, ap, subst, subst₂, inl, inr, ◌∙◌, arith}
use Rattle.std.specs.List.{AllByRecursion, list_any, list_all}
use Rattle.std.specs.declared.cmp.Ordering.TheVariants.{Less}
use Rattle.std.proofs.lemmas.Bool.{and_parts}
use Rattle.sqlite.specs.declared.types.Value.{Value}
use Rattle.sqlite.specs.declared.types.Value.TheVariants.{Null, Int, Real, Text as Words, Blob}
use Rattle.sqlite.specs.Order.{Row, column, value_cmp}
use Rattle.sqlite.specs.Ops.{binary}
use Rattle.sqlite.specs.Schema.{Schema}
use Rattle.sqlite.specs.State.{State, IsLive}
use Rattle.sqlite.specs.Table.{Table}
use Rattle.sqlite.specs.Tree.{Trees, IsAscending, IsTable, rowid}
use Rattle.sqlite_trees.specs.View.{is_int}
use Rattle.sqlite_rules.specs.Lists.{Has}
use Rattle.sqlite_schema.specs.declared.schema.Column.{Column}
use Rattle.sqlite_schema.specs.declared.schema.Constraint.TheVariants.{Datatype, NotNull, Unique}
use Rattle.sqlite_schema.specs.declared.schema.Index.{Index}
use Rattle.sqlite_schema.specs.declared.schema.Kind.{Kind}
use Rattle.sqlite_schema.specs.declared.schema.Kind.TheVariants as kind
use Rattle.sqlite_schema.specs.Names.{is_key}
use Rattle.sqlite_schema.specs.Rules.{agree, are_present, are_typed, clashes, differ, guards, has_computed, is_of, passes, suits, Obeys}
use Rattle.sqlite_sql.specs.Ops.{is_null, is_true, from_truth, test}
use Rattle.sqlite_sql.specs.declared.ops.CompareOp.TheVariants.{Ne}
use Rattle.sql_tables.specs.Schema.{desk_schema, desk_tables, first_register_table, first_schema, first_version_table, balance_table, cash_table, total_table, register_table, state_table, sent_table, version_table}
use Rattle.sql_tables.specs.Forms.{AreAllFormed, AreValues, HasForm, MayStand}
use Rattle.sql_tables.specs.Order.{AreInOrder}
use Rattle.sql_tables.specs.Versions.{schema_in, AreAllFormedIn}
use Rattle.sql_tables.specs.declared.versions.Version.{Version}
use Rattle.sql_tables.specs.declared.versions.Version.TheVariants.{First, Second, Third}

-- ---- one value

abbrev is_wanted : Kind → Bool
is_wanted kind.Integer = true
is_wanted kind.Text = true
is_wanted _ = false

abbrev is_plain : Column → Bool
is_plain c = c.is_strict && is_wanted c.kind

is_integer : (k : Kind) (n : ℤ) → is_wanted k ≡ true → is_of k (Int n) ≡ true → k ≡ kind.Integer
is_integer kind.Integer n wanted h = refl
is_integer kind.Real n wanted h = absurd (cc)
is_integer kind.Text n wanted h = absurd (cc)
is_integer kind.Blob n wanted h = absurd (cc)
is_integer kind.Any n wanted h = absurd (cc)

is_text : (k : Kind) (t : List ℕ) → is_wanted k ≡ true → is_of k (Words t) ≡ true → k ≡ kind.Text
is_text kind.Integer t wanted h = absurd (cc)
is_text kind.Real t wanted h = absurd (cc)
is_text kind.Text t wanted h = refl
is_text kind.Blob t wanted h = absurd (cc)
is_text kind.Any t wanted h = absurd (cc)

no_real : (k : Kind) (x : _) → is_wanted k ≡ true → is_of k (Real x) ≡ true → ⊥
no_real kind.Integer x wanted h = absurd (cc)
no_real kind.Real x wanted h = absurd (cc)
no_real kind.Text x wanted h = absurd (cc)
no_real kind.Blob x wanted h = absurd (cc)
no_real kind.Any x wanted h = absurd (cc)

no_blob : (k : Kind) (b : List ℕ) → is_wanted k ≡ true → is_of k (Blob b) ≡ true → ⊥
no_blob kind.Integer b wanted h = absurd (cc)
no_blob kind.Real b wanted h = absurd (cc)
no_blob kind.Text b wanted h = absurd (cc)
no_blob kind.Blob b wanted h = absurd (cc)
no_blob kind.Any b wanted h = absurd (cc)

when : (b x y : Bool) → b ≡ true → (if b then x else y) ≡ true → x ≡ true
when true x y is h = h
when false x y is h = absurd (cc)

null_of : (v : Value) → is_null v ≡ true → v ≡ Null
null_of Null h = refl
null_of (Int n) h = absurd (cc)
null_of (Real x) h = absurd (cc)
null_of (Words t) h = absurd (cc)
null_of (Blob b) h = absurd (cc)

optional : (b : Bool) → (false || not b || false) ≡ true → b ≡ false
optional true h = absurd (cc)
optional false h = refl

value : (c : Column) (v : Value) → is_plain c ≡ true → suits c v ≡ true → (false || not c.not_null || not (is_null v)) ≡ true → MayStand false c v
value c Null plain suit present = optional c.not_null present
value c (Int n) plain suit present = let both = and_parts c.is_strict (is_wanted c.kind) plain in is_integer c.kind n both.1 (when c.is_strict _ _ both.0 suit)
value c (Real x) plain suit present = let both = and_parts c.is_strict (is_wanted c.kind) plain in no_real c.kind x both.1 (when c.is_strict _ _ both.0 suit)
value c (Words t) plain suit present = let both = and_parts c.is_strict (is_wanted c.kind) plain in is_text c.kind t both.1 (when c.is_strict _ _ both.0 suit)
value c (Blob b) plain suit present = let both = and_parts c.is_strict (is_wanted c.kind) plain in no_blob c.kind b both.1 (when c.is_strict _ _ both.0 suit)

stands : (is_it : Bool) (c : Column) (v : Value) → is_plain c ≡ true → (if is_it then is_null v else suits c v) ≡ true → (is_it || not c.not_null || not (is_null v)) ≡ true → MayStand is_it c v
stands true c v plain typed present = null_of v typed
stands false c v plain typed present = value c v plain typed present

lacks : (is_it : Bool) (c : Column) → (is_it || not c.not_null || false) ≡ true → MayStand is_it c Null
lacks true c present = refl
lacks false c present = optional c.not_null present

-- ---- one row

abbrev Reads : Row → ℕ → Row → Type 0
Reads row at vs = (k : ℕ) → column row (at + 1 + k) ≡ column vs k

module _ (row : Row) (key : Option ℕ) where
  abbrev present_at : ℕ → Column → Value → Bool
  present_at at c v = is_key key at || not c.not_null || not (is_null v)

  values : (at : ℕ) (cs : List Column) (vs : Row) → list_all is_plain cs ≡ true → Reads row at vs → are_typed key at cs vs ≡ true → are_present key at cs row ≡ true → AreValues key at cs vs
  values at [] [] plain reads typed present = tt
  values at [] (v ∷ vs) plain reads typed present = absurd (cc)
  values at (c ∷ cs) [] plain reads typed present =
      let here = and_parts (present_at at c (column row (at + 1))) _ present in
      let first : column row (at + 1) ≡ Null = ap (column row) (omega arith) ∙ reads 0 in (
        lacks (is_key key at) c (subst (λ v. present_at at c v ≡ true) first here.0),
        values (at + 1) cs [] (and_parts (is_plain c) _ plain).1 (λ k. ap (column row) (omega arith) ∙ reads (suc k)) (and_parts (is_null c.default) _ typed).1 here.1,
      )
  values at (c ∷ cs) (v ∷ vs) plain reads typed present =
      let here = and_parts (present_at at c (column row (at + 1))) _ present in
      let first : column row (at + 1) ≡ v = ap (column row) (omega arith) ∙ reads 0 in
      let plains = and_parts (is_plain c) (list_all is_plain cs) plain in
      let types = and_parts (if is_key key at then is_null v else suits c v) _ typed in (
        stands (is_key key at) c v plains.0 types.0 (subst (λ v. present_at at c v ≡ true) first here.0),
        values (at + 1) cs vs plains.1 (λ k. ap (column row) (omega arith) ∙ reads (suc k)) types.1 here.1,
      )

numbered : (v : Value) → IsTrue (is_int v) → (z : ℤ) × (v ≡ Int z)
numbered Null h = absurd (cc)
numbered (Int z) h = (z, refl)
numbered (Real x) h = absurd (cc)
numbered (Words t) h = absurd (cc)
numbered (Blob b) h = absurd (cc)

behind : (k : ℕ) → 0 + 1 + k ≡ suc k
behind k = omega arith

formed : (table : Table) (row : Row) → list_all is_plain table.columns ≡ true → are_typed table.key 0 table.columns (drop 1 row) ≡ true → are_present table.key 0 table.columns row ≡ true
    → IsTrue (is_int (rowid row)) → HasForm table row
formed table [] plain typed present id = absurd (cc)
formed table (v ∷ vs) plain typed present id =
    let number = numbered v id in
    record { number = number.0; values = vs; is = ap (λ n. n ∷ vs) number.1; each = values (v ∷ vs) table.key 0 table.columns vs plain (λ k. ap (column (v ∷ vs)) (behind k)) typed present }

all_formed : (schema : Schema) (trees : Trees) (table : Table) → list_all is_plain table.columns ≡ true → (rows : List Row) → AllByRecursion (λ row. passes Datatype schema trees table row ≡ true) rows
    → AllByRecursion (λ row. passes NotNull schema trees table row ≡ true) rows → AllByRecursion (λ row. IsTrue (is_int (rowid row))) rows → AllByRecursion (HasForm table) rows
all_formed schema trees table plain [] typed present ids = tt
all_formed schema trees table plain (row ∷ rows) typed present ids = (
  formed table row plain (and_parts (are_typed table.key 0 table.columns (drop 1 row)) (has_computed table row) typed.0).0 present.0 ids.0,
  all_formed schema trees table plain rows typed.1 present.1 ids.1,
)

-- ---- two rows

abbrev clash : Index → Row → Row → Bool
clash i row other = agree i.order i.columns other i.columns row && differ (rowid other) (rowid row)

abbrev Unclashed : Index → List Row → List Row → Type 0
Unclashed i others rows = AllByRecursion (λ row. AllByRecursion (λ other. clash i row other ≡ false) others) rows

none_any : {X : Type 0} (p : X → Bool) (xs : List X) → list_any p xs ≡ false → AllByRecursion (λ x. p x ≡ false) xs
none_any p [] h = tt
none_any p (x ∷ xs) h = let both = neither (p x) (list_any p xs) h in (both.0, none_any p xs both.1)
  where
    neither : (a b : Bool) → (a || b) ≡ false → (a ≡ false) × (b ≡ false)
    neither false false e = (refl, refl)
    neither false true e = absurd (cc)
    neither true b e = absurd (cc)

of_all : {X : Type 0} (p : X → Bool) (xs : List X) (x : X) → Has xs x → list_all p xs ≡ true → p x ≡ true
of_all p [] x has h = absurd (has)
of_all p (y ∷ ys) x (inl is) h = subst (λ y. p y ≡ true) (sym is) (and_parts (p y) (list_all p ys) h).0
of_all p (y ∷ ys) x (inr has) h = of_all p ys x has (and_parts (p y) (list_all p ys) h).1

guarded : (a b : Bool) → a ≡ true → not (a && b) ≡ true → b ≡ false
guarded true false is h = refl
guarded true true is h = absurd (cc)
guarded false b is h = absurd (cc)

no_and : (a b : Bool) → (a && b) ≡ false → b ≡ true → a ≡ false
no_and true b h is = absurd (cc)
no_and false b h is = refl

module _ (schema : Schema) (trees : Trees) (table : Table) (i : Index) (has : Has schema.indexes i) (guard : guards i table ≡ true) where
  abbrev others : List Row
  others = trees table.tree

  unclashed : (rows : List Row) → AllByRecursion (λ row. passes Unique schema trees table row ≡ true) rows → Unclashed i others rows
  unclashed [] all = tt
  unclashed (row ∷ rows) all =
      let free = guarded (guards i table) (list_any (clash i row) others) guard (of_all (λ i. not (guards i table && clashes i.order i.columns (trees table.tree) row)) schema.indexes i has all.0) in
      (none_any (clash i row) others free, unclashed rows all.1)

heads : (i : Index) (x : Row) (xs ys : List Row) → Unclashed i (x ∷ xs) ys → AllByRecursion (λ y. clash i y x ≡ false) ys
heads i x xs [] all = tt
heads i x xs (y ∷ ys) all = (all.0.0, heads i x xs ys all.1)

tails : (i : Index) (x : Row) (xs ys : List Row) → Unclashed i (x ∷ xs) ys → Unclashed i xs ys
tails i x xs [] all = tt
tails i x xs (y ∷ ys) all = (all.0.1, tails i x xs ys all.1)

different : (x y : ℤ) → value_cmp (Int x) (Int y) ≡ Less → differ (Int x) (Int y) ≡ true
unfolding binary
different x y less = ap (λ o. is_true (from_truth (Some (test Ne o)))) less

differing : (v w : Value) → IsTrue (is_int v) → IsTrue (is_int w) → value_cmp v w ≡ Less → differ v w ≡ true
differing v w one two less =
    let x = numbered v one in
    let y = numbered w two in
    subst₂ (λ v w. value_cmp v w ≡ Less → differ v w ≡ true) (sym x.1) (sym y.1) (different x.0 y.0) less

each_apart : (i : Index) (x : Row) (xs : List Row) → IsTrue (is_int (rowid x)) → AllByRecursion (λ row. IsTrue (is_int (rowid row))) xs → AllByRecursion (λ y. value_cmp (rowid x) (rowid y) ≡ Less) xs
    → AllByRecursion (λ y. clash i y x ≡ false) xs → AllByRecursion (λ y. agree i.order i.columns x i.columns y ≡ false) xs
each_apart i x [] one all less free = tt
each_apart i x (y ∷ ys) one all less free =
    (no_and (agree i.order i.columns x i.columns y) (differ (rowid x) (rowid y)) free.0 (differing (rowid x) (rowid y) one all.0 less.0), each_apart i x ys one all.1 less.1 free.1)

apart : (i : Index) (rows : List Row) → IsTable rows → AllByRecursion (λ row. IsTrue (is_int (rowid row))) rows → Unclashed i rows rows → IsAscending (λ r s. agree i.order i.columns r i.columns s ≡ false) rows
apart i [] rise ids free = tt
apart i (x ∷ xs) rise ids free = (each_apart i x xs ids.0 ids.1 rise.0 (heads i x xs xs free.1), apart i xs rise.1 ids.1 (tails i x xs xs free.1))

-- ---- the tables

module _ (schema : Schema) (trees : Trees) (order : AreInOrder schema trees) where
  abbrev Formed : Table → Type 0
  Formed table = AllByRecursion (HasForm table) (trees table.tree)

  rows_formed : (table : Table) → Has schema.tables table → list_all is_plain table.columns ≡ true → AllByRecursion (λ row. passes Datatype schema trees table row ≡ true) (trees table.tree)
      → AllByRecursion (λ row. passes NotNull schema trees table row ≡ true) (trees table.tree) → Formed table
  rows_formed table has plain typed present = all_formed schema trees table plain (trees table.tree) typed present (order table has).1

  rows_apart : (table : Table) → Has schema.tables table → (i : Index) → Has schema.indexes i → guards i table ≡ true → AllByRecursion (λ row. passes Unique schema trees table row ≡ true) (trees table.tree)
      → IsAscending (λ r s. agree i.order i.columns r i.columns s ≡ false) (trees table.tree)
  rows_apart table has i listed guard unique = apart i (trees table.tree) (order table has).0 (order table has).1 (unclashed schema trees table i listed guard (trees table.tree) unique)

module _ (trees : Trees) (obeys : Obeys first_schema trees) (order : AreInOrder first_schema trees) where
  first_formed : AreAllFormedIn First trees
  first_formed =
      let typed = obeys.rules Datatype in
      let present = obeys.rules NotNull in
      let unique = obeys.rules Unique in
      let rows = rows_formed first_schema trees order in (
        record { each = rows first_register_table (inl refl) refl typed.0 present.0; keyed = (rows_apart first_schema trees order first_register_table (inl refl) _ (inl refl) refl unique.0, tt) },
        (record { each = rows first_version_table (inr (inl refl)) refl typed.1.0 present.1.0; keyed = tt }, tt),
      )

module _ (trees : Trees) (obeys : Obeys desk_schema trees) (order : AreInOrder desk_schema trees) where
  rows_of : (table : Table) → Has desk_tables table → list_all is_plain table.columns ≡ true → AllByRecursion (λ row. passes Datatype desk_schema trees table row ≡ true) (trees table.tree)
      → AllByRecursion (λ row. passes NotNull desk_schema trees table row ≡ true) (trees table.tree) → Formed desk_schema trees order table
  rows_of = rows_formed desk_schema trees order

  pub all_tables_formed : AreAllFormed trees
  all_tables_formed =
      let typed = obeys.rules Datatype in
      let present = obeys.rules NotNull in
      let unique = obeys.rules Unique in (
        record { each = rows_of balance_table (inl refl) refl typed.0 present.0; keyed = (rows_apart desk_schema trees order balance_table (inl refl) _ (inl refl) refl unique.0, tt) },
        (
          record { each = rows_of cash_table (inr (inl refl)) refl typed.1.0 present.1.0; keyed = (rows_apart desk_schema trees order cash_table (inr (inl refl)) _ (inr (inl refl)) refl unique.1.0, tt) },
          (
            record { each = rows_of total_table (inr (inr (inl refl))) refl typed.1.1.0 present.1.1.0; keyed = (rows_apart desk_schema trees order total_table (inr (inr (inl refl))) _ (inr (inr (inl refl))) refl unique.1.1.0, tt) },
            (
              record { each = rows_of register_table (inr (inr (inr (inl refl)))) refl typed.1.1.1.0 present.1.1.1.0; keyed = (rows_apart desk_schema trees order register_table (inr (inr (inr (inl refl)))) _ (inr (inr (inr (inl refl)))) refl unique.1.1.1.0, tt) },
              (
                record { each = rows_of state_table (inr (inr (inr (inr (inl refl))))) refl typed.1.1.1.1.0 present.1.1.1.1.0; keyed = tt },
                (
                  record { each = rows_of sent_table (inr (inr (inr (inr (inr (inl refl)))))) refl typed.1.1.1.1.1.0 present.1.1.1.1.1.0; keyed = tt },
                  (
                    record { each = rows_of version_table (inr (inr (inr (inr (inr (inr (inl refl))))))) refl typed.1.1.1.1.1.1.0 present.1.1.1.1.1.1.0; keyed = tt },
                    tt,
                  ),
                ),
              ),
            ),
          ),
        ),
      )

-- ---- in the form of a call's clause

formed_by : (version : Version) (trees : Trees) → Obeys (schema_in version) trees → AreInOrder (schema_in version) trees → AreAllFormedIn version trees
formed_by First = first_formed
formed_by Second = all_tables_formed
formed_by Third = all_tables_formed

pub formed_in : (version : Version) (s : State) → IsLive s → s.now.schema ≡ schema_in version → IsTrue s.is_open → AreInOrder (schema_in version) s.now.trees → AreAllFormedIn version s.now.trees
formed_in version s live has is_open order = formed_by version s.now.trees (subst (λ schema. Obeys schema s.now.trees) has (live is_open).0.obeys) order

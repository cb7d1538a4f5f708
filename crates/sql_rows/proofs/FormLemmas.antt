-- A table of amounts of the desk: two texts and a number behind each rowid, and no two rows with the same texts.
use Rattle.std.proofs.Common.{◌≡◌, inl, inr, ℕ, ℤ, false, ◌&&◌, List, [], ◌∷◌, codes, None, refl, sym, ap, subst₂, ◌∙◌}
use Rattle.std.specs.List.{AllByRecursion}
use Rattle.std.specs.Ordering.{is_eq}
use Rattle.std.specs.Str.{bytes_eq}
use Rattle.std.specs.declared.cmp.Ordering.TheVariants.{Less}
use Rattle.sqlite.specs.declared.types.Value.{Value}
use Rattle.sqlite.specs.declared.types.Value.TheVariants.{Null, Int, Real, Text as Words, Blob}
use Rattle.sqlite.specs.Kind.TheVariants.{Integer, Text}
use Rattle.sqlite.specs.Order.{Row, value_cmp}
use Rattle.sqlite.specs.Ops.{binary}
use Rattle.sqlite.specs.Tree.{IsAscending, IsTable, Trees, rowid}
use Rattle.sqlite_value.specs.Keys.{first_key}
use Rattle.sqlite_schema.specs.Rules.{agree}
use Rattle.sql_tables.specs.Schema.{ascending, desk_schema, needed, balance_table, cash_table, total_table}
use Rattle.sql_tables.proofs.ValueLemmas.{text_test, and_true}
use Rattle.sql_rows.specs.declared.amounts.key.Ledger.{Ledger}
use Rattle.sql_rows.specs.declared.amounts.key.Ledger.TheVariants.{Balance, Cash, Total}
use Rattle.sql_rows.specs.Keys.{Texts, same_texts, tree_of}
use Rattle.sql_rows.specs.Amounts.{AreApart}
use Rattle.sql_tables.specs.Forms.{AreAllFormed, AreValues, HasForm, MayStand}
use Rattle.sql_tables.specs.Order.{AreInOrder}

pub record IsFormed (row : Row) : Type 0 where
  pub id : ℤ
  pub texts : Texts
  pub amount : ℤ
  pub is : row ≡ Int id ∷ Words texts.0 ∷ Words texts.1 ∷ Int amount ∷ []

-- ---- one row

text_is : (name : List ℕ) (v : Value) → MayStand false (needed name Text) v → (t : List ℕ) × (v ≡ Words t)
text_is name Null may = absurd (cc)
text_is name (Int n) may = absurd (cc)
text_is name (Real x) may = absurd may
text_is name (Words t) may = (t, refl)
text_is name (Blob b) may = absurd may

number_is : (name : List ℕ) (v : Value) → MayStand false (needed name Integer) v → (z : ℤ) × (v ≡ Int z)
number_is name Null may = absurd (cc)
number_is name (Int n) may = (n, refl)
number_is name (Real x) may = absurd may
number_is name (Words t) may = absurd (cc)
number_is name (Blob b) may = absurd may

three : (a b c a' b' c' : Value) → a ≡ a' → b ≡ b' → c ≡ c' → (a ∷ b ∷ c ∷ []) ≡ (a' ∷ b' ∷ c' ∷ [])
three a b c a' b' c' p q r = rw (p, q, r) refl

module _ (one two last : List ℕ) (row : Row) (id : ℤ) where
  formed_row : (values : Row) → row ≡ Int id ∷ values → AreValues None 0 (needed one Text ∷ needed two Text ∷ needed last Integer ∷ []) values → IsFormed row
  formed_row [] is each = absurd (let e = each.0 in cc)
  formed_row (a ∷ []) is each = absurd (let e = each.1.0 in cc)
  formed_row (a ∷ (b ∷ [])) is each = absurd (let e = each.1.1.0 in cc)
  formed_row (a ∷ (b ∷ (c ∷ []))) is each =
      let first = text_is one a each.0 in
      let second = text_is two b each.1.0 in
      let third = number_is last c each.1.1.0 in
      record { id = id; texts = (first.0, second.0); amount = third.0; is = is ∙ ap (λ vs. Int id ∷ vs) (three a b c (Words first.0) (Words second.0) (Int third.0) first.1 second.1 third.1) }
  formed_row (a ∷ (b ∷ (c ∷ (d ∷ more)))) is each = absurd each.1.1.1

balance_rows : (rows : List Row) → AllByRecursion (HasForm balance_table) rows → AllByRecursion IsFormed rows
balance_rows [] all = tt
balance_rows (row ∷ rows) all = (formed_row (codes "account") (codes "isin") (codes "quantity") row all.0.number all.0.values all.0.is all.0.each, balance_rows rows all.1)

cash_rows : (rows : List Row) → AllByRecursion (HasForm cash_table) rows → AllByRecursion IsFormed rows
cash_rows [] all = tt
cash_rows (row ∷ rows) all = (formed_row (codes "bic") (codes "currency") (codes "amount") row all.0.number all.0.values all.0.is all.0.each, cash_rows rows all.1)

total_rows : (rows : List Row) → AllByRecursion (HasForm total_table) rows → AllByRecursion IsFormed rows
total_rows [] all = tt
total_rows (row ∷ rows) all = (formed_row (codes "subject") (codes "code") (codes "amount") row all.0.number all.0.values all.0.is all.0.each, total_rows rows all.1)

-- ---- two rows

-- the texts of two rows are not the same
abbrev Differ : Row → Row → Type 0
Differ r s = agree ascending (1 ∷ 2 ∷ []) r (1 ∷ 2 ∷ []) s ≡ false

abbrev literal : ℤ → Texts → ℤ → Row
literal id texts amount = Int id ∷ Words texts.0 ∷ Words texts.1 ∷ Int amount ∷ []

agreeing : (i j : ℤ) (t u : Texts) (m n : ℤ) → agree ascending (1 ∷ 2 ∷ []) (literal i t m) (1 ∷ 2 ∷ []) (literal j u n) ≡ same_texts t u
unfolding binary first_key
agreeing i j t u m n = rw (text_test t.0 u.0, text_test t.1 u.1) (ap (λ b. bytes_eq t.0 u.0 && b) (and_true (bytes_eq t.1 u.1)))

apart_literal : (i j : ℤ) (t u : Texts) (m n : ℤ) → value_cmp (Int i) (Int j) ≡ Less → Differ (literal i t m) (literal j u n) → AreApart (literal i t m) (literal j u n)
apart_literal i j t u m n less differ = record { texts = sym (agreeing i j t u m n) ∙ differ; rowids = ap is_eq less }

apart_pair : (r s : Row) → IsFormed r → IsFormed s → value_cmp (rowid r) (rowid s) ≡ Less → Differ r s → AreApart r s
apart_pair r s one two =
    subst₂ (λ r s. value_cmp (rowid r) (rowid s) ≡ Less → Differ r s → AreApart r s) (sym one.is) (sym two.is)
    (apart_literal one.id two.id one.texts two.texts one.amount two.amount)

each_apart : (x : Row) (xs : List Row) → IsFormed x → AllByRecursion IsFormed xs → AllByRecursion (λ y. value_cmp (rowid x) (rowid y) ≡ Less) xs → AllByRecursion (Differ x) xs → AllByRecursion (AreApart x) xs
each_apart x [] one all less differ = tt
each_apart x (y ∷ ys) one all less differ = (apart_pair x y one all.0 less.0 differ.0, each_apart x ys one all.1 less.1 differ.1)

all_apart : (rows : List Row) → AllByRecursion IsFormed rows → IsTable rows → IsAscending Differ rows → IsAscending AreApart rows
all_apart [] all up keyed = tt
all_apart (x ∷ xs) all up keyed = (each_apart x xs all.0 all.1 up.0 keyed.0, all_apart xs all.1 up.1 keyed.1)

-- ---- the tables

pub record IsFormedTable (rows : List Row) : Type 0 where
  pub formed : AllByRecursion IsFormed rows
  pub apart : IsAscending AreApart rows
  pub order : IsTable rows

both : (rows : List Row) → AllByRecursion IsFormed rows → IsTable rows → IsAscending Differ rows → IsFormedTable rows
both rows all up keyed = record { formed = all; apart = all_apart rows all up keyed; order = up }

pub formed_table : (trees : Trees) → AreInOrder desk_schema trees → AreAllFormed trees → (ledger : Ledger) → IsFormedTable (trees (tree_of ledger))
formed_table trees order formed Balance = both (trees 0) (balance_rows (trees 0) formed.0.each) (order balance_table (inl refl)).0 formed.0.keyed.0
formed_table trees order formed Cash = both (trees 2) (cash_rows (trees 2) formed.1.0.each) (order cash_table (inr (inl refl))).0 formed.1.0.keyed.0
formed_table trees order formed Total = both (trees 4) (total_rows (trees 4) formed.1.1.0.each) (order total_table (inr (inr (inl refl)))).0 formed.1.1.0.keyed.0

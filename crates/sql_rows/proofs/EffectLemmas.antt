-- What the statements do to the tables of amounts, and what they show.
use Rattle.std.proofs.Common.{◌≡◌, ◌≢◌, ◌⊎◌, inl, inr, ℕ, ◌+◌, ◌-◌, ◌<◌, ◌≤◌, ◌^◌, ℤ, pos, ◌+ℤ◌, ◌-ℤ◌, nat_le, ◌==◌, List, [], ◌∷◌, length, map, filter, Bool, true, false, cond, not, ◌&&◌, None, Some, Ok, unwrap_or, slice_get, codes, refl, sym, ap, subst, ◌∙◌, arith}
use Rattle.std.specs.List.{AllByRecursion, list_any}
use Rattle.std.specs.List.Sorted.{IsPermutation}
use Rattle.std.specs.Str.{bytes_eq}
use Rattle.std.specs.Ordering.{is_eq}
use Rattle.std.proofs.lemmas.Bool.{cases_Bool, lt-ltb, leb-true, leb-false, not-true, and_parts}
use Rattle.std.proofs.lemmas.Bool.Decides.{eqb_tells}
use Rattle.std.proofs.lemmas.Int.{ints}
use Rattle.std.proofs.lemmas.List.{nil_from_length}
use Rattle.std.proofs.lemmas.List.Sorted.{length_permutation}
use Rattle.sqlite.specs.Order.{Row, column, value_cmp}
use Rattle.sqlite.specs.declared.types.Value.{Value}
use Rattle.sqlite.specs.declared.types.Value.TheVariants.{Null, Int, Text as Words}
use Rattle.sqlite.specs.Cast.{cast_row}
use Rattle.sqlite.specs.Edit.{Edit, IsNoIndex, edit_of, edited, next_rowid, put_all, are_fresh}
use Rattle.sqlite.specs.Effect.{Database, value_rows}
use Rattle.sqlite.specs.Rows.{stamped}
use Rattle.sqlite_rules.specs.Calls.{ids_of}
use Rattle.sqlite.specs.Kind.TheVariants.{Integer, Text}
use Rattle.sqlite.specs.Ops.{binary}
use Rattle.sqlite.specs.Program.{overlay}
use Rattle.sqlite.specs.Query.{IsAnswer}
use Rattle.sqlite.specs.Rowids.TheVariants.{Given, Chosen}
use Rattle.sqlite.specs.State.{State, Executes, Shown}
use Rattle.sqlite.specs.Table.{Table}
use Rattle.sqlite.specs.Term.{Term, col, eval_all}
use Rattle.sqlite.specs.Tree.{Trees, put_row, rowid, without_rowid}
use Rattle.sqlite_sql.specs.declared.ops.BinaryOp.TheVariants.{Arith}
use Rattle.sqlite_sql.specs.declared.ops.ArithOp.TheVariants.{Sub, Add}
use Rattle.sqlite.proofs.Callers.{reads_as, one_permutation}
use Rattle.sqlite_trees.proofs.ListLemmas.{all-filter}
use Rattle.sqlite_trees.proofs.TreeLemmas.{all-put_row}
use Rattle.sql_tables.specs.Schema.{desk_schema, needed, not_below_nought, ascending, unstamped}
use Rattle.sql_tables.specs.Queries.{passes_all, plain}
use Rattle.sql_tables.proofs.QueryLemmas.{plain_rows, same_found}
use Rattle.sql_tables.proofs.ValueLemmas.{and_true, text_test, at_least_test, cast_int, cast_null}
use Rattle.sql_tables.proofs.EditLemmas.{inserts, updates, IsEdited}
use Rattle.sql_rows.specs.declared.amounts.key.Ledger.{Ledger}
use Rattle.sql_rows.specs.declared.amounts.key.Ledger.TheVariants.{Balance, Cash, Total}
use Rattle.sql_rows.specs.declared.amounts.key.AmountKey.{AmountKey}
use Rattle.sql_rows.specs.Keys.{Texts, same_texts, same_ledger, ledger_of, texts_of, tree_of}
use Rattle.sql_rows.specs.AmountStatements.{amount_text, take_text, put_text, first_text}
use Rattle.sql_rows.specs.Amounts.{AreAmounts, AreAmountRows, IsAmountTable, IsKeyed, IsStored, amount_at, amount_in, amount_on, is_at, recorded, stored, texts_in}
use Rattle.sql_tables.specs.Rows.{number_rows}
use Rattle.sql_rows.specs.Changes.{IsShort, Raises, SetsAmount, Takes, had}
use Rattle.sql_tables.specs.Ends.{SparesOthers}
use Rattle.sql_rows.proofs.AmountMeanings.{less_shown, more_shown, key_terms, take_terms, first_terms, place_of, amount_is, amount_query, take_is, take_edit, put_is, put_edit, first_is, first_edit}
use Rattle.sql_rows.proofs.AmountRowLemmas.{once, recorded_none, recorded_one, found_stored, own_texts, set_rows, set_all, set_recorded, first_all, first_recorded_by}

-- ---- the three tables are of one form

abbrev amount_table : List ℕ → ℕ → List ℕ → List ℕ → List ℕ → Table
amount_table name tree first second third = record {
  name = name;
  tree = tree;
  columns = needed first Text ∷ needed second Text ∷ needed third Integer ∷ [];
  key = None;
  primary = 1 ∷ 2 ∷ [];
  uniques = (1 ∷ 2 ∷ []) ∷ [];
  orders = ascending ∷ [];
  checks = not_below_nought 3 ∷ [];
  references = [];
  computed = [];
  stamps = unstamped;
  is_counted = false;
}

abbrev name_of : Ledger → List ℕ
name_of Balance = codes "balance"
name_of Cash = codes "cash"
name_of Total = codes "total"

abbrev first_name : Ledger → List ℕ
first_name Balance = codes "account"
first_name Cash = codes "bic"
first_name Total = codes "subject"

abbrev second_name : Ledger → List ℕ
second_name Balance = codes "isin"
second_name Cash = codes "currency"
second_name Total = codes "code"

abbrev third_name : Ledger → List ℕ
third_name Balance = codes "quantity"
third_name Cash = codes "amount"
third_name Total = codes "amount"

abbrev pub table_of : Ledger → Table
table_of ledger = amount_table (name_of ledger) (tree_of ledger) (first_name ledger) (second_name ledger) (third_name ledger)

pub table_at : (ledger : Ledger) → slice_get desk_schema.tables (place_of ledger) ≡ Some (table_of ledger)
table_at Balance = refl
table_at Cash = refl
table_at Total = refl

pub no_index : (ledger : Ledger) → IsNoIndex desk_schema (tree_of ledger)
no_index Balance = (λ e. absurd (cc), (λ e. absurd (cc), (λ e. absurd (cc), (λ e. absurd (cc), tt))))
no_index Cash = (λ e. absurd (cc), (λ e. absurd (cc), (λ e. absurd (cc), (λ e. absurd (cc), tt))))
no_index Total = (λ e. absurd (cc), (λ e. absurd (cc), (λ e. absurd (cc), (λ e. absurd (cc), tt))))

below_six : (ledger : Ledger) → tree_of ledger < 6
below_six Balance = omega arith
below_six Cash = omega arith
below_six Total = omega arith

ledger_is : (a b : Ledger) → same_ledger a b ≡ true → a ≡ b
ledger_is Balance Balance h = refl
ledger_is Cash Cash h = refl
ledger_is Total Total h = refl
ledger_is Balance Cash h = absurd (cc)
ledger_is Balance Total h = absurd (cc)
ledger_is Cash Balance h = absurd (cc)
ledger_is Cash Total h = absurd (cc)
ledger_is Total Balance h = absurd (cc)
ledger_is Total Cash h = absurd (cc)

tree_apart : (a b : Ledger) → same_ledger a b ≡ false → tree_of b ≢ tree_of a
tree_apart Balance Balance h e = absurd (cc)
tree_apart Cash Cash h e = absurd (cc)
tree_apart Total Total h e = absurd (cc)
tree_apart Balance Cash h e = absurd (omega arith)
tree_apart Balance Total h e = absurd (omega arith)
tree_apart Cash Balance h e = absurd (omega arith)
tree_apart Cash Total h e = absurd (omega arith)
tree_apart Total Balance h e = absurd (omega arith)
tree_apart Total Cash h e = absurd (omega arith)

-- ---- which rows pass

abbrev pub of_texts : Texts → Row → Row
of_texts texts more = Words texts.0 ∷ Words texts.1 ∷ more

key_test : (texts : Texts) (more : Row) (row : Row) → IsStored row → passes_all key_terms (of_texts texts more) row ≡ is_at texts row
unfolding binary
key_test texts more row it =
    subst (λ r. passes_all key_terms (of_texts texts more) r ≡ is_at texts r) (sym it.is)
    (rw (text_test it.texts.0 texts.0, text_test it.texts.1 texts.1) (ap (λ b. bytes_eq it.texts.0 texts.0 && b) (and_true (bytes_eq it.texts.1 texts.1))))

-- the row of the two texts, where it has enough
take_test : (texts : Texts) (d : ℕ) (row : Row) → IsStored row → passes_all take_terms (of_texts texts (Int (pos d) ∷ [])) row ≡ (is_at texts row && nat_le d (amount_on row))
unfolding binary
take_test texts d row it =
    subst (λ r. passes_all take_terms (of_texts texts (Int (pos d) ∷ [])) r ≡ (is_at texts r && nat_le d (amount_on r))) (sym it.is)
    (rw (text_test it.texts.0 texts.0, text_test it.texts.1 texts.1, at_least_test it.amount d)
    (three (bytes_eq it.texts.0 texts.0) (bytes_eq it.texts.1 texts.1) (nat_le d it.amount)))
  where
    three : (a b c : Bool) → (a && (b && (c && true))) ≡ ((a && b) && c)
    three true true c = and_true c
    three true false c = refl
    three false b c = refl

narrow : (p q : Row → Bool) (rows : List Row) → filter (λ row. p row && q row) rows ≡ filter q (filter p rows)
narrow p q [] = refl
narrow p q (x ∷ xs) = elim (cases_Bool (p x)) [
  | inl here ↦ ap (λ b. cond (b && q x) (x ∷ filter (λ row. p row && q row) xs) (filter (λ row. p row && q row) xs)) here
      ∙ ap (λ ys. cond (q x) (x ∷ ys) ys) (narrow p q xs) ∙ ap (λ b. filter q (cond b (x ∷ filter p xs) (filter p xs))) (sym here)
  | inr apart ↦ ap (λ b. cond (b && q x) (x ∷ filter (λ row. p row && q row) xs) (filter (λ row. p row && q row) xs)) apart
      ∙ narrow p q xs ∙ ap (λ b. filter q (cond b (x ∷ filter p xs) (filter p xs))) (sym apart)
]

-- ---- looking an amount up

overlaid : (db : Trees) (ledger : Ledger) → overlay db [] (tree_of ledger) ≡ db (tree_of ledger)
overlaid db Balance = refl
overlaid db Cash = refl
overlaid db Total = refl

-- the rows that a query of one table shows
pub table_rows : (ledger : Ledger) (terms shown : List Term) (db : Trees) (params : Row) (rows : List Row) → IsAnswer (plain (tree_of ledger) terms shown) (overlay db []) params rows
    → IsPermutation (map (λ row. eval_all shown (params ∷ row ∷ [])) (filter (passes_all terms params) (db (tree_of ledger)))) rows
table_rows ledger terms shown db params rows answer =
    subst (λ xs. IsPermutation (map (λ row. eval_all shown (params ∷ row ∷ [])) (filter (passes_all terms params) xs)) rows) (overlaid db ledger) (plain_rows (tree_of ledger) terms shown (overlay db []) params rows answer)

one_amount : (texts : Texts) (held rows : List Row) → AreAmountRows held → (filter (is_at texts) held ≡ []) ⊎ ((r : Row) × (filter (is_at texts) held ≡ r ∷ []))
    → IsPermutation (map (λ row. column row 3 ∷ []) (filter (is_at texts) held)) rows → rows ≡ number_rows (recorded held texts)
one_amount texts held rows all (inl none) same =
    let empty : IsPermutation [] rows = subst (λ xs. IsPermutation (map (λ (row : Row). column row 3 ∷ []) xs) rows) none same in
    subst (λ found. rows ≡ number_rows found) (sym (recorded_none texts held none)) (nil_from_length rows (length_permutation [] rows empty))
one_amount texts held rows all (inr one) same =
    let it = found_stored texts held one.0 all.stored one.1 in
    let single : IsPermutation ((column one.0 3 ∷ []) ∷ []) rows = subst (λ xs. IsPermutation (map (λ (row : Row). column row 3 ∷ []) xs) rows) one.1 same in
    let shows : column one.0 3 ≡ Int (pos it.amount) = ap (λ (row : Row). column row 3) it.is in
    let worth : recorded held texts ≡ Some it.amount = recorded_one texts held one.0 [] one.1 ∙ ap (λ row. Some (amount_on row)) it.is in
    subst (λ found. rows ≡ number_rows found) (sym worth) (one_permutation _ rows single ∙ ap (λ (v : Value). (v ∷ []) ∷ []) shows)

pub shows_amount : (old new : State) (key : AmountKey) (rows : List Row) → old.now.schema ≡ desk_schema → AreAmounts old.now → Shown (amount_text (ledger_of key)) (of_texts (texts_of key) []) old new rows
    → rows ≡ number_rows (amount_at old.now key)
shows_amount old new key rows has amounts h =
    let ledger = ledger_of key in
    let texts = texts_of key in
    let all = (amounts ledger).are in
    let held = old.now.trees (tree_of ledger) in
    let query = amount_query ledger in
    let answers = reads_as (amount_text ledger) (of_texts texts []) old new desk_schema has _ (amount_is ledger) query.plain query.unlisted rows h in
    let some = table_rows ledger key_terms (col 1 3 ∷ []) old.now.trees (of_texts texts []) rows (answers.answer Null) in
    let same = same_found IsStored (passes_all key_terms (of_texts texts [])) (is_at texts) held (λ row it. key_test texts [] row it) all.stored in
    one_amount texts held rows all (once texts held all.apart) (subst (λ xs. IsPermutation (map (λ (row : Row). column row 3 ∷ []) xs) rows) same some)

-- ---- a change of one table

-- the table has these rows, and every other table is as it was
pub record LeavesRows (old new : Database) (ledger : Ledger) (rows : List Row) : Type 0 where
  pub are : new.trees (tree_of ledger) ≡ rows
  pub others : (tree : ℕ) → tree ≢ tree_of ledger → IsNoIndex desk_schema tree → new.trees tree ≡ old.trees tree

module _ (old new : Database) (key : AmountKey) (amount : ℕ) (rows : List Row) where
  abbrev mine : Ledger
  mine = ledger_of key

  outside_not : (tree : ℕ) → tree ≡ tree_of mine → (tree < 0) ⊎ (6 ≤ tree) → ⊥
  outside_not tree e (inl low) = omega arith
  outside_not tree e (inr high) = let low = below_six mine in omega arith

  sets_amount : AreAmounts old → LeavesRows old new mine rows → IsAmountTable mine rows
      → ((other : Texts) → recorded rows other ≡ cond (same_texts (texts_of key) other) (Some amount) (recorded (old.trees (tree_of mine)) other)) → SetsAmount old new key amount
  sets_amount amounts left all now = record {
    kept = λ ledger. elim (cases_Bool (same_ledger mine ledger)) [
      | inl here ↦ subst (λ l. IsAmountTable l (new.trees (tree_of l))) (ledger_is mine ledger here) (subst (IsAmountTable mine) (sym left.are) all)
      | inr apart ↦ subst (IsAmountTable ledger) (sym (left.others (tree_of ledger) (tree_apart mine ledger apart) (no_index ledger))) (amounts ledger)
    ];
    recorded = λ ledger first second. elim (cases_Bool (same_ledger mine ledger)) [
      | inl here ↦ subst (λ l. amount_in new l first second ≡ cond (same_ledger mine ledger && same_texts (texts_of key) (first, second)) (Some amount) (amount_in old l first second)) (ledger_is mine ledger here)
          (ap (λ xs. recorded xs (first, second)) left.are ∙ now (first, second)
          ∙ ap (λ b. cond (b && same_texts (texts_of key) (first, second)) (Some amount) (amount_in old mine first second)) (sym here))
      | inr apart ↦ ap (λ xs. recorded xs (first, second)) (left.others (tree_of ledger) (tree_apart mine ledger apart) (no_index ledger))
          ∙ ap (λ b. cond (b && same_texts (texts_of key) (first, second)) (Some amount) (amount_in old ledger first second)) (sym apart)
    ];
    spares = λ tree outside none. left.others tree (λ e. outside_not tree e outside) none;
  }

-- where the rows are as they were, every table is
spares_all : (old new : Database) (ledger : Ledger) → LeavesRows old new ledger (old.trees (tree_of ledger)) → SparesOthers 0 0 old new
spares_all old new ledger left tree outside none = elim (eqb_tells tree (tree_of ledger)) [
  | inl here ↦ ap new.trees here.1 ∙ left.are ∙ ap old.trees (sym here.1)
  | inr apart ↦ left.others tree apart.1 none
]

-- ---- an UPDATE

-- an UPDATE of some of the columns
abbrev pub update_edit : Trees → Ledger → List Row → Edit
update_edit db ledger rows = edit_of db (table_of ledger) (ids_of rows) Given 1 rows

-- the row that UPDATE shows, as it is written
pub cast_stored : (ledger : Ledger) (id : ℤ) (texts : Texts) (n : ℕ) → cast_row (table_of ledger) (Int id ∷ Words texts.0 ∷ Words texts.1 ∷ Int (pos n) ∷ []) ≡ stored id texts n
cast_stored ledger id texts n = rw (cast_int id, cast_int (pos n)) refl

-- what UPDATE shows of one row
abbrev pub shown_row : ℤ → Texts → ℕ → Row
shown_row id texts n = Int id ∷ Int id ∷ Words texts.0 ∷ Words texts.1 ∷ Int (pos n) ∷ []

pub one_edit : (db : Trees) (ledger : Ledger) (id : ℤ) (texts : Texts) (n : ℕ) → edited db (update_edit db ledger (shown_row id texts n ∷ [])) ≡ put_row (stored id texts n) (without_rowid id (db (tree_of ledger)))
one_edit db ledger id texts n = ap (λ r. put_row r (without_rowid id (db (tree_of ledger)))) (cast_stored ledger id texts n)

module _ (old new : Database) (ledger : Ledger) (found : List Row) (count : ℕ) (counted : count ≡ length found) (up : IsEdited old new (update_edit old.trees ledger found)) where
  left_none : found ≡ [] → LeavesRows old new ledger (old.trees (tree_of ledger)) × (count ≡ 0)
  left_none none = (record { are = up.rows ∙ ap (λ f. edited old.trees (update_edit old.trees ledger f)) none; others = up.others }, counted ∙ ap length none)

  left_one : (id : ℤ) (texts : Texts) (n : ℕ) → found ≡ shown_row id texts n ∷ []
      → LeavesRows old new ledger (put_row (stored id texts n) (without_rowid id (old.trees (tree_of ledger)))) × (count ≡ 1)
  left_one id texts n one = (
    record { are = up.rows ∙ ap (λ f. edited old.trees (update_edit old.trees ledger f)) one ∙ one_edit old.trees ledger id texts n; others = up.others },
    counted ∙ ap length one,
  )

-- ---- taking off

less : (q d : ℕ) → d ≤ q → q < 2 ^ 63 → binary (Arith Sub) (Int (pos q)) (Int (pos d)) ≡ Int (pos (q - d))
unfolding binary
less q d enough' small =
    let diff : pos q -ℤ pos d ≡ pos (q - d) = omega (arith, ints) in
    rw (diff, lt-ltb (q - d) (2 ^ 63) (omega arith)) refl

more : (q d : ℕ) → q + d < 2 ^ 63 → binary (Arith Add) (Int (pos q)) (Int (pos d)) ≡ Int (pos (q + d))
unfolding binary
more q d small =
    let total : pos q +ℤ pos d ≡ pos (q + d) = omega (arith, ints) in
    rw (total, lt-ltb (q + d) (2 ^ 63) small) refl

less_row : (texts : Texts) (d : ℕ) (row : Row) (it : IsStored row) → d ≤ it.amount → eval_all less_shown (of_texts texts (Int (pos d) ∷ []) ∷ row ∷ []) ≡ shown_row it.id it.texts (it.amount - d)
less_row texts d row it enough' =
    subst (λ r. eval_all less_shown (of_texts texts (Int (pos d) ∷ []) ∷ r ∷ []) ≡ shown_row it.id it.texts (it.amount - d)) (sym it.is)
    (rw (less it.amount d enough' it.small) refl)

more_row : (texts : Texts) (d : ℕ) (row : Row) (it : IsStored row) → it.amount + d < 2 ^ 63 → eval_all more_shown (of_texts texts (Int (pos d) ∷ []) ∷ row ∷ []) ≡ shown_row it.id it.texts (it.amount + d)
more_row texts d row it small =
    subst (λ r. eval_all more_shown (of_texts texts (Int (pos d) ∷ []) ∷ r ∷ []) ≡ shown_row it.id it.texts (it.amount + d)) (sym it.is)
    (rw (more it.amount d small) refl)

module _ (old : State) (key : AmountKey) (d : ℕ) (has : old.now.schema ≡ desk_schema) (amounts : AreAmounts old.now) where
  abbrev own : Ledger
  own = ledger_of key

  abbrev texts : Texts
  texts = texts_of key

  abbrev held : List Row
  held = old.now.trees (tree_of own)

  abbrev params : Row
  params = of_texts texts (Int (pos d) ∷ [])

  all : AreAmountRows held
  all = (amounts own).are

  -- what UPDATE shows: no row, for this reason, or the row of the two texts with its new amount
  abbrev pub Finds : Type 0 → (ℕ → Type 0) → (ℕ → ℕ) → List Row → Type 0
  Finds Lacks Has change found = ((found ≡ []) × Lacks) ⊎ ((r : Row) × (it : IsStored r) × (filter (is_at texts) held ≡ r ∷ []) × Has it.amount × (found ≡ shown_row it.id it.texts (change it.amount) ∷ []))

  abbrev pub FindsToTake : List Row → Type 0
  FindsToTake = Finds (IsShort (amount_at old.now key) d) (λ amount. d ≤ amount) (λ amount. amount - d)

  abbrev pub FindsToPut : List Row → Type 0
  FindsToPut = Finds (amount_at old.now key ≡ None) (λ amount. amount + d < 2 ^ 63) (λ amount. amount + d)

  shows : Row → Row
  shows row = eval_all less_shown (params ∷ row ∷ [])

  module _ (found : List Row) (answer : IsAnswer (plain (tree_of own) take_terms less_shown) (overlay old.now.trees []) params found) where
    taken_are : IsPermutation (map shows (filter (λ row. nat_le d (amount_on row)) (filter (is_at texts) held))) found
    unfolding shows
    taken_are =
        subst (λ xs. IsPermutation (map shows xs) found)
        (same_found IsStored (passes_all take_terms params) (λ row. is_at texts row && nat_le d (amount_on row)) held (take_test texts d) all.stored ∙ narrow (is_at texts) (λ row. nat_le d (amount_on row)) held)
        (table_rows own take_terms less_shown old.now.trees params found answer)

    finds_none : IsShort (amount_at old.now key) d → filter (λ row. nat_le d (amount_on row)) (filter (is_at texts) held) ≡ [] → FindsToTake found
    finds_none short none = inl (nil_from_length found (length_permutation [] found (subst (λ xs. IsPermutation (map shows xs) found) none taken_are)), short)

    finds_row : (r : Row) → filter (is_at texts) held ≡ r ∷ [] → d ≤ amount_on r → filter (λ row. nat_le d (amount_on row)) (filter (is_at texts) held) ≡ r ∷ [] → FindsToTake found
    unfolding shows
    finds_row r one enough' passes' =
        let it = found_stored texts held r all.stored one in
        let worth : amount_on r ≡ it.amount = ap amount_on it.is in
        let high : d ≤ it.amount = omega (arith, worth, enough') in
        inr (r, it, one, high, one_permutation _ found (subst (λ xs. IsPermutation (map shows xs) found) passes' taken_are) ∙ ap (λ (x : Row). x ∷ []) (less_row texts d r it high))

    pub take_finds : FindsToTake found
    take_finds = elim (once texts held all.apart) [
      | inl none ↦ finds_none (subst (λ o. IsShort o d) (sym (recorded_none texts held none)) tt) (ap (filter (λ row. nat_le d (amount_on row))) none)
      | inr one ↦ elim (cases_Bool (nat_le d (amount_on one.0))) [
        | inl high ↦ finds_row one.0 one.1 (leb-true d (amount_on one.0) high) (ap (filter (λ row. nat_le d (amount_on row))) one.1 ∙ ap (λ b. cond b (one.0 ∷ []) []) high)
        | inr low ↦ finds_none (subst (λ o. IsShort o d) (sym (recorded_one texts held one.0 [] one.1)) (omega (arith, leb-false d (amount_on one.0) low)))
            (ap (filter (λ row. nat_le d (amount_on row))) one.1 ∙ ap (λ b. cond b (one.0 ∷ []) []) low)
      ]
    ]

  shown_more : Row → Row
  shown_more row = eval_all more_shown (params ∷ row ∷ [])

  module _ (small : had old.now key + d < 2 ^ 63) (found : List Row) (answer : IsAnswer (plain (tree_of own) key_terms more_shown) (overlay old.now.trees []) params found) where
    raised_are : IsPermutation (map shown_more (filter (is_at texts) held)) found
    unfolding shown_more
    raised_are =
        subst (λ xs. IsPermutation (map shown_more xs) found) (same_found IsStored (passes_all key_terms params) (is_at texts) held (λ row it. key_test texts (Int (pos d) ∷ []) row it) all.stored)
        (table_rows own key_terms more_shown old.now.trees params found answer)

    pub put_finds : FindsToPut found
    unfolding shown_more
    put_finds = elim (once texts held all.apart) [
      | inl none ↦ inl (nil_from_length found (length_permutation [] found (subst (λ xs. IsPermutation (map shown_more xs) found) none raised_are)), recorded_none texts held none)
      | inr one ↦ (
          let it = found_stored texts held one.0 all.stored one.1 in
          let had_is : it.amount ≡ had old.now key = sym (ap (λ o. unwrap_or o 0) (recorded_one texts held one.0 [] one.1 ∙ ap (λ row. Some (amount_on row)) it.is)) in
          let fits : it.amount + d < 2 ^ 63 = omega (arith, had_is, small) in
          inr (one.0, it, one.1, fits, one_permutation _ found (subst (λ xs. IsPermutation (map shown_more xs) found) one.1 raised_are) ∙ ap (λ (x : Row). x ∷ []) (more_row texts d one.0 it fits)))
    ]

  -- the rows once the row has another amount
  module _ (r : Row) (it : IsStored r) (one : filter (is_at texts) held ≡ r ∷ []) (amount : ℕ) (small : amount < 2 ^ 63) where
    pub row_set : AreAmountRows (put_row (stored it.id it.texts amount) (without_rowid it.id held))
    row_set = set_all held all texts r one it amount small

    set_keyed : AllByRecursion (IsKeyed own) (put_row (stored it.id it.texts amount) (without_rowid it.id held))
    set_keyed =
        let is : texts_of key ≡ it.texts = sym (sym (ap texts_in it.is) ∙ own_texts held all texts r one it amount small) in
        all-put_row (IsKeyed own) (stored it.id it.texts amount) (without_rowid it.id held) (inr (record { key = key; ledger_is = refl; texts_are = is })) (all-filter (IsKeyed own) _ held (amounts own).keyed)

    pub amount_set : (new : Database) → LeavesRows old.now new own (put_row (stored it.id it.texts amount) (without_rowid it.id held)) → SetsAmount old.now new key amount
    amount_set new left = sets_amount old.now new key amount (set_rows held all texts r one it amount small) amounts left (record { are = row_set; keyed = set_keyed }) (set_recorded held all texts r one it amount small)

  pub had_one : (r : Row) (it : IsStored r) → filter (is_at texts) held ≡ r ∷ [] → it.amount ≡ had old.now key
  had_one r it one = sym (ap (λ o. unwrap_or o 0) (recorded_one texts held r [] one ∙ ap (λ row. Some (amount_on row)) it.is))

  -- ---- the first row of a key

  pub first_news : (rows : List Row) → rows ≡ value_rows (stamped (table_of own) params) 4 1 first_terms → (edit_of old.now.trees (table_of own) [] Chosen 0 rows).news ≡ stored (next_rowid held) texts d ∷ []
  first_news rows is = ap (λ rows. (edit_of old.now.trees (table_of own) [] Chosen 0 rows).news) is ∙ rw (cast_null, cast_int (pos d)) refl

  module _ (absent : amount_at old.now key ≡ None) (small : d < 2 ^ 63) where
    none_found : filter (is_at texts) held ≡ []
    none_found = elim (once texts held all.apart) [
      | inl none ↦ none
      | inr one ↦ absurd (let e : None ≡ Some (amount_on one.0) = sym absent ∙ recorded_one texts held one.0 [] one.1 in cc)
    ]

    pub first_set : list_any (λ r. is_eq (value_cmp (rowid r) (Int (next_rowid held)))) held ≡ false → AreAmountRows (put_row (stored (next_rowid held) texts d) held)
    first_set fresh = first_all held all texts none_found (next_rowid held) d small fresh

  first_keyed : AllByRecursion (IsKeyed own) (put_row (stored (next_rowid held) texts d) held)
  first_keyed = all-put_row (IsKeyed own) (stored (next_rowid held) texts d) held (inr (record { key = key; ledger_is = refl; texts_are = refl })) (amounts own).keyed

  -- ---- what is done

  module _ (new : State) (count : ℕ) where
    pub takes : Executes (take_text own) params old new (Ok count) → Takes old.now new.now key d (count == 1)
    takes h =
        let done = updates old new has (take_text own) params count (place_of own) (table_of own) (table_at own) (take_edit own).plain h (plain (tree_of own) take_terms less_shown) (take_is own) in
        elim (take_finds done.0 done.1) [
          | inl lacks ↦ (
              let left = left_none old.now new.now own done.0 count done.2 done.3 lacks.0 in
              subst (λ n. Takes old.now new.now key d (n == 1)) (sym left.1) (lacks.1, spares_all old.now new.now own left.0))
          | inr (r, it, one, high, found) ↦ (
              let left = left_one old.now new.now own done.0 count done.2 done.3 it.id it.texts (it.amount - d) found in
              let set = amount_set r it one (it.amount - d) (omega (arith, it.small)) new.now left.0 in
              subst (λ n. Takes old.now new.now key d (n == 1)) (sym left.1) (subst (λ n. (d ≤ n) × SetsAmount old.now new.now key (n - d)) (had_one r it one) (high, set)))
        ]

    pub puts : had old.now key + d < 2 ^ 63 → Executes (put_text own) params old new (Ok count) → Raises old.now new.now key d (count == 1)
    puts small h =
        let done = updates old new has (put_text own) params count (place_of own) (table_of own) (table_at own) (put_edit own).plain h (plain (tree_of own) key_terms more_shown) (put_is own) in
        elim (put_finds small done.0 done.1) [
          | inl lacks ↦ (
              let left = left_none old.now new.now own done.0 count done.2 done.3 lacks.0 in
              subst (λ n. Raises old.now new.now key d (n == 1)) (sym left.1) (lacks.1, spares_all old.now new.now own left.0))
          | inr (r, it, one, fits, found) ↦ (
              let left = left_one old.now new.now own done.0 count done.2 done.3 it.id it.texts (it.amount + d) found in
              let set = amount_set r it one (it.amount + d) fits new.now left.0 in
              subst (λ n. Raises old.now new.now key d (n == 1)) (sym left.1) (subst (λ n. SetsAmount old.now new.now key (n + d)) (had_one r it one) set))
        ]

    pub sets_first : (absent : amount_at old.now key ≡ None) (small : d < 2 ^ 63) → Executes (first_text own) params old new (Ok count) → SetsAmount old.now new.now key d
    sets_first absent small h =
        let made = inserts old new has (first_text own) params count (place_of own) (table_of own) (table_at own) (first_edit own).plain h first_terms 4 refl (first_is own) in
        let id = next_rowid held in
        let news = first_news made.0 made.1 in
        let free : not (list_any (λ r. is_eq (value_cmp (rowid r) (Int id))) held) && true ≡ true = ap (are_fresh held) (sym news) ∙ made.2.fresh in
        let fresh : list_any (λ r. is_eq (value_cmp (rowid r) (Int id))) held ≡ false = not-true _ (and_parts _ _ free).0 in
        let left : LeavesRows old.now new.now own (put_row (stored id texts d) held) = record { are = made.2.rows ∙ ap (put_all held) news; others = made.2.others } in
        sets_amount old.now new.now key d (put_row (stored id texts d) held) amounts left (record { are = first_set absent small fresh; keyed = first_keyed }) (first_recorded_by held all texts (none_found absent small) id d small fresh)

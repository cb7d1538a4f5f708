-- Why a statement on the tables of amounts fails.
use Rattle.std.proofs.Common.{◌≡◌, ◌⊎◌, inl, inr, ℕ, ◌+◌, ◌-◌, ◌<◌, ◌^◌, ℤ, pos, List, [], ◌∷◌, filter, Bool, true, false, not, ◌&&◌, None, Option, Ok, Err, Result, IfErr, IsTrue, Vec, refl, sym, ap, subst, ◌∙◌, arith}
use Rattle.std.specs.List.{AllByRecursion, list_any}
use Rattle.std.specs.Ordering.{is_eq, is_ge, is_ne}
use Rattle.std.specs.declared.alloc.Global.{Global}
use Rattle.std.specs.Str.{bytes_eq}
use Rattle.std.proofs.lemmas.Bool.{le-leb}
use Rattle.std.proofs.lemmas.Cmp.{tied_itself}
use Rattle.sqlite.specs.Order.{Row, value_cmp}
use Rattle.sqlite_value.specs.Keys.{first_key}
use Rattle.sqlite_value.proofs.OrderLemmas.{value_cmp_total}
use Rattle.sqlite.specs.declared.types.Value.TheVariants.{Int, Text as Words}
use Rattle.sqlite.specs.declared.error.Error.{Error}
use Rattle.sqlite.specs.Effect.{IsDatabase}
use Rattle.sqlite.specs.Edit.{next_rowid, without_all}
use Rattle.sqlite.specs.Rowids.TheVariants.{Chosen}
use Rattle.sqlite.specs.Ops.{binary, is_false, from_truth}
use Rattle.sqlite.specs.State.{State, Executes, FailsToQuery}
use Rattle.sqlite.specs.Tree.{Trees, IsAscending, put_row, rowid, with_tree}
use Rattle.sqlite_rules.proofs.PlaceLemmas.{next_is_free}
use Rattle.sqlite_schema.specs.Rules.{Keeps, agree, clashes, differ, passes}
use Rattle.sqlite_schema.specs.declared.schema.Constraint.TheVariants.{Unique}
use Rattle.sqlite_trees.specs.View.{is_int}
use Rattle.sqlite_trees.proofs.ListLemmas.{all_weaker}
use Rattle.sql_tables.specs.Schema.{desk_schema, ascending, balance_table, cash_table, total_table}
use Rattle.sql_tables.specs.Ends.{ForCause}
use Rattle.sql_tables.specs.Queries.{Among}
use Rattle.sql_tables.proofs.QueryLemmas.{all_among, at_among}
use Rattle.sql_tables.proofs.ValueLemmas.{and_true, at_least_test, text_test, truth_of}
use Rattle.sql_tables.proofs.BlameLemmas.{IsAllowed, insert_caused, query_caused, update_caused}
use Rattle.sql_rows.specs.declared.amounts.key.Ledger.{Ledger}
use Rattle.sql_rows.specs.declared.amounts.key.Ledger.TheVariants.{Balance, Cash, Total}
use Rattle.sql_rows.specs.declared.amounts.key.AmountKey.{AmountKey}
use Rattle.sql_rows.specs.Keys.{Texts, same_texts, ledger_of, texts_of, tree_of}
use Rattle.sql_rows.specs.AmountStatements.{amount_text, take_text, put_text, first_text, next_text, held_text, held_cash_text}
use Rattle.sql_rows.specs.Amounts.{AreAmounts, AreAmountRows, AreApart, IsStored, amount_at, is_at, stored, texts_in}
use Rattle.sql_rows.specs.Changes.{had}
use Rattle.sql_rows.proofs.CauseLemmas.{left_free}
use Rattle.sql_rows.proofs.AmountMeanings.{first_terms, place_of, amount_is, amount_query, amount_whole, amount_typed, take_is, take_whole, take_typed, put_is, put_whole, put_typed, first_is, first_whole, next_is, next_query, next_whole, next_typed, held_is, held_query, held_whole, held_cash_is, held_cash_query, held_cash_whole, code_typed}
use Rattle.sql_rows.proofs.AmountRowLemmas.{flip_apart}
use Rattle.sql_rows.proofs.EffectLemmas.{FindsToPut, FindsToTake, cast_stored, first_news, first_set, of_texts, put_finds, row_set, shown_row, table_at, table_of, take_finds, update_edit}

-- ---- no two rows have the same texts, as the rules of the tables see it

-- each row is this one, or apart from it
among_apart : (rows : List Row) (r : Row) → IsAscending AreApart rows → Among rows r → AllByRecursion (λ s. (s ≡ r) ⊎ AreApart s r) rows
among_apart [] r up at = tt
among_apart (x ∷ xs) r up (inl here) = (inl (sym here), all_weaker (AreApart x) (λ s. (s ≡ r) ⊎ AreApart s r) (λ s apart. inr (subst (AreApart s) (sym here) (flip_apart x s apart))) xs up.0)
among_apart (x ∷ xs) r up (inr later) = (inr (at_among (AreApart x) xs up.0 r later), among_apart xs r up.1 later)

agree_texts : (s r : Row) → IsStored s → IsStored r → agree ascending (1 ∷ 2 ∷ []) s (1 ∷ 2 ∷ []) r ≡ same_texts (texts_in s) (texts_in r)
unfolding binary first_key
agree_texts s r a b =
    subst (λ x. agree ascending (1 ∷ 2 ∷ []) x (1 ∷ 2 ∷ []) r ≡ same_texts (texts_in x) (texts_in r)) (sym a.is)
    (subst (λ y. agree ascending (1 ∷ 2 ∷ []) (stored a.id a.texts a.amount) (1 ∷ 2 ∷ []) y ≡ same_texts a.texts (texts_in y)) (sym b.is)
    (rw (text_test a.texts.0 b.texts.0, text_test a.texts.1 b.texts.1, and_true (bytes_eq a.texts.1 b.texts.1)) refl))

differ_not : (r : Row) → IsStored r → differ (rowid r) (rowid r) ≡ false
unfolding binary
differ_not r it = subst (λ x. differ (rowid x) (rowid x) ≡ false) (sym it.is) (truth_of (is_ne (value_cmp (Int it.id) (Int it.id))) ∙ ap is_ne (tied_itself value_cmp_total (Int it.id)))

and_false : (a b : Bool) → b ≡ false → (a && b) ≡ false
and_false true b h = h
and_false false b h = refl

-- another row does not clash
abbrev meets : Row → Row → Bool
meets r s = agree ascending (1 ∷ 2 ∷ []) s (1 ∷ 2 ∷ []) r && differ (rowid s) (rowid r)

meets_not : (r s : Row) → IsStored s → IsStored r → (s ≡ r) ⊎ AreApart s r → meets r s ≡ false
meets_not r s a b (inl same) = and_false _ _ (subst (λ x. differ (rowid x) (rowid r) ≡ false) (sym same) (differ_not r b))
meets_not r s a b (inr apart) = ap (λ x. x && differ (rowid s) (rowid r)) (agree_texts s r a b ∙ apart.texts)

none_of : (r : Row) (rows : List Row) → IsStored r → AllByRecursion IsStored rows → AllByRecursion (λ s. (s ≡ r) ⊎ AreApart s r) rows → list_any (meets r) rows ≡ false
none_of r [] it all apart = refl
none_of r (s ∷ more) it all apart = rw (meets_not r s all.0 it apart.0) (none_of r more it all.1 apart.1)

no_clash : (rows : List Row) → AreAmountRows rows → AllByRecursion (λ r. clashes ascending (1 ∷ 2 ∷ []) rows r ≡ false) rows
no_clash rows all = all_weaker (Among rows) (λ r. clashes ascending (1 ∷ 2 ∷ []) rows r ≡ false)
    (λ r at. none_of r rows (at_among IsStored rows all.stored r at) all.stored (among_apart rows r all.apart at)) rows (all_among rows)

unique_of : (ledger : Ledger) (db : Trees) (rows : List Row) → AreAmountRows rows → Keeps Unique desk_schema db → Keeps Unique desk_schema (with_tree db (tree_of ledger) rows)
unique_of Balance db rows all kept = (
  all_weaker _ (λ row. passes Unique desk_schema (with_tree db 0 rows) balance_table row ≡ true) (λ row free. ap (λ b. not b && true) free) rows (no_clash rows all),
  kept.1,
)
unique_of Cash db rows all kept = (
  kept.0,
  (all_weaker _ (λ row. passes Unique desk_schema (with_tree db 2 rows) cash_table row ≡ true) (λ row free. ap (λ b. not b && true) free) rows (no_clash rows all), kept.1.1),
)
unique_of Total db rows all kept = (
  kept.0,
  (kept.1.0, (all_weaker _ (λ row. passes Unique desk_schema (with_tree db 4 rows) total_table row ≡ true) (λ row free. ap (λ b. not b && true) free) rows (no_clash rows all), kept.1.1.1)),
)

-- ---- what an edit puts in obeys the tables

-- no amount is below 0
not_below : (n : ℕ) → not (is_false (from_truth (Option.Some (is_ge (value_cmp (Int (pos n)) (Int (pos 0))))))) ≡ true
not_below n =
    let b = is_ge (value_cmp (Int (pos n)) (Int (pos 0))) in
    let high : b ≡ true = sym (truth_of b) ∙ at_least_test n 0 ∙ le-leb 0 n (omega arith) in
    ap (λ x. not (is_false (from_truth (Option.Some x)))) high

module _ (db : Trees) (ledger : Ledger) (kept : Keeps Unique desk_schema db) where
  -- nothing is put in
  none_allowed : AreAmountRows (db (tree_of ledger)) → IsAllowed db (update_edit db ledger [])
  none_allowed all = record { rowids = refl; typed = refl; present = refl; checked = refl; fresh = refl; unique = unique_of ledger db (db (tree_of ledger)) all kept }

  -- one row is, at a number that is free
  one_allowed : (gone : List ℤ) (news : List Row) (id : ℤ) (texts : Texts) (n : ℕ) → news ≡ stored id texts n ∷ [] → list_any (λ r. is_eq (value_cmp (rowid r) (Int id))) (without_all (db (tree_of ledger)) gone) ≡ false
      → AreAmountRows (put_row (stored id texts n) (without_all (db (tree_of ledger)) gone)) → IsAllowed db (record { table = table_of ledger; gone = gone; news = news })
  unfolding binary
  one_allowed gone news id texts n is free set = subst (λ news. IsAllowed db (record { table = table_of ledger; gone = gone; news = news })) (sym is) (record {
    rowids = refl;
    typed = refl;
    present = refl;
    checked = ap (λ b. (b && true) && true) (not_below n);
    fresh = ap (λ b. not b && true) free;
    unique = unique_of ledger db (put_row (stored id texts n) (without_all (db (tree_of ledger)) gone)) set kept;
  })

keyed : (rows : List Row) → AllByRecursion IsStored rows → AllByRecursion (λ r. IsTrue (is_int (rowid r))) rows
keyed rows all = all_weaker IsStored (λ r. IsTrue (is_int (rowid r))) (λ r it. subst (λ x. IsTrue (is_int (rowid x))) (sym it.is) refl) rows all

-- ---- each statement

module _ (old new : State) (has : old.now.schema ≡ desk_schema) (open' : IsTrue old.is_open) where
  pub look_caused : (key : AmountKey) (r : Result (Vec Row Global) Error) → IfErr r (FailsToQuery (amount_text (ledger_of key)) (of_texts (texts_of key) []) old new) → IfErr r (ForCause old new)
  look_caused key r h =
      let ledger = ledger_of key in
      query_caused old new has open' (amount_text ledger) (of_texts (texts_of key) []) (amount_whole ledger) _ _ (amount_is ledger) (amount_query ledger).unlisted (amount_typed ledger (texts_of key).0 (texts_of key).1) refl refl r h

  pub walk_caused : (account from : List ℕ) (r : Result (Vec Row Global) Error) → IfErr r (FailsToQuery next_text (of_texts (account, from) []) old new) → IfErr r (ForCause old new)
  walk_caused account from r h =
      query_caused old new has open' next_text (of_texts (account, from) []) next_whole _ _ next_is next_query.unlisted (next_typed account from) refl refl r h

  pub held_caused : (isin : List ℕ) (r : Result (Vec Row Global) Error) → IfErr r (FailsToQuery held_text (Words isin ∷ []) old new) → IfErr r (ForCause old new)
  held_caused isin r h = query_caused old new has open' held_text (Words isin ∷ []) held_whole _ _ held_is held_query.unlisted (code_typed Balance isin) refl refl r h

  pub held_cash_caused : (letters : List ℕ) (r : Result (Vec Row Global) Error) → IfErr r (FailsToQuery held_cash_text (Words letters ∷ []) old new) → IfErr r (ForCause old new)
  held_cash_caused letters r h = query_caused old new has open' held_cash_text (Words letters ∷ []) held_cash_whole _ _ held_cash_is held_cash_query.unlisted (code_typed Cash letters) refl refl r h

  module _ (obeyed : IsDatabase old.now) (key : AmountKey) (d : ℕ) (amounts : AreAmounts old.now) where
    abbrev ledger : Ledger
    ledger = ledger_of key

    abbrev db : Trees
    db = old.now.trees

    abbrev params : Row
    params = of_texts (texts_of key) (Int (pos d) ∷ [])

    kept : Keeps Unique desk_schema db
    kept = subst (λ s. Keeps Unique s db) has (obeyed.obeys.rules Unique)

    -- an UPDATE of the row that was found
    set_allowed : (r : Row) (it : IsStored r) → filter (is_at (texts_of key)) (db (tree_of ledger)) ≡ r ∷ [] → (amount : ℕ) → amount < 2 ^ 63 → IsAllowed db (update_edit db ledger (shown_row it.id it.texts amount ∷ []))
    set_allowed r it one amount small =
        one_allowed db ledger kept (it.id ∷ []) (update_edit db ledger (shown_row it.id it.texts amount ∷ [])).news it.id it.texts amount (ap (λ x. x ∷ []) (cast_stored ledger it.id it.texts amount))
        (left_free it.id (db (tree_of ledger))) (row_set old key d has amounts r it one amount small)

    pub take_caused : (r : Result ℕ Error) → Executes (take_text ledger) params old new r → IfErr r (ForCause old new)
    take_caused (Ok count) h = tt
    take_caused (Err e) h = λ unlimited.
        update_caused old new has open' unlimited (take_text ledger) params (take_whole ledger) (place_of ledger) (table_of ledger) (table_at ledger) refl _ (take_is ledger) (take_typed ledger (texts_of key).0 (texts_of key).1 d)
        refl refl (λ found answer. allowed found (take_finds old key d has amounts found answer)) e h
      where
        allowed : (found : List Row) → FindsToTake old key d has amounts found → IsAllowed db (update_edit db ledger found)
        allowed found (inl lacks) = subst (λ rows. IsAllowed db (update_edit db ledger rows)) (sym lacks.0) (none_allowed db ledger kept (amounts ledger).are)
        allowed found (inr (r, it, one, high, is)) = subst (λ rows. IsAllowed db (update_edit db ledger rows)) (sym is) (set_allowed r it one (it.amount - d) (omega (arith, it.small)))

    pub put_caused : had old.now key + d < 2 ^ 63 → (r : Result ℕ Error) → Executes (put_text ledger) params old new r → IfErr r (ForCause old new)
    put_caused small (Ok count) h = tt
    put_caused small (Err e) h = λ unlimited.
        update_caused old new has open' unlimited (put_text ledger) params (put_whole ledger) (place_of ledger) (table_of ledger) (table_at ledger) refl _ (put_is ledger) (put_typed ledger (texts_of key).0 (texts_of key).1 d)
        refl refl (λ found answer. allowed found (put_finds old key d has amounts small found answer)) e h
      where
        allowed : (found : List Row) → FindsToPut old key d has amounts found → IsAllowed db (update_edit db ledger found)
        allowed found (inl lacks) = subst (λ rows. IsAllowed db (update_edit db ledger rows)) (sym lacks.0) (none_allowed db ledger kept (amounts ledger).are)
        allowed found (inr (r, it, one, fits, is)) = subst (λ rows. IsAllowed db (update_edit db ledger rows)) (sym is) (set_allowed r it one (it.amount + d) fits)

    pub first_caused : amount_at old.now key ≡ None → d < 2 ^ 63 → (r : Result ℕ Error) → Executes (first_text ledger) params old new r → IfErr r (ForCause old new)
    first_caused absent small (Ok count) h = tt
    first_caused absent small (Err e) h = λ unlimited.
        insert_caused old new has open' unlimited (first_text ledger) params (first_whole ledger) (place_of ledger) (table_of ledger) (table_at ledger) refl first_terms 4 refl (first_is ledger) refl
        (λ rows is. one_allowed db ledger kept [] _ (next_rowid (db (tree_of ledger))) (texts_of key) d (first_news old key d has amounts rows is) fresh (first_set old key d has amounts absent small fresh)) e h
      where
        fresh : list_any (λ r. is_eq (value_cmp (rowid r) (Int (next_rowid (db (tree_of ledger)))))) (db (tree_of ledger)) ≡ false
        fresh = next_is_free Chosen (db (tree_of ledger)) [] (amounts ledger).are.order (keyed (db (tree_of ledger)) (amounts ledger).are.stored)

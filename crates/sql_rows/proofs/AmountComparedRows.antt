-- Rows that are shown, and the rows of a table of amounts.
use Rattle.std.proofs.Common.{◌≡◌, ◌⊎◌, inl, inr, ℕ, ◌<◌, ℤ, pos, List, [], ◌∷◌, All, length, map, bytes_eq, codes, Option, Some, unwrap_or, IsSome, refl, sym, ap, subst, ◌∙◌, arith}
use Rattle.std.specs.List.{AllByRecursion}
use Rattle.std.specs.List.Sorted.{IsPermutation}
use Rattle.std.proofs.lemmas.Bool.{both_ways, cases_Bool, cases_lt}
use Rattle.std.proofs.lemmas.List.Elements.{recursion_from_All, All-from_recursion}
use Rattle.std.proofs.lemmas.List.Sorted.{All-permutation, IsPermutation-sym}
use Rattle.std.proofs.lemmas.Slice.Eq.{bytes_eq-Decides}
use Rattle.sqlite.specs.declared.types.Value.{Value}
use Rattle.sqlite.specs.declared.types.Value.TheVariants.{Int, Text as Words}
use Rattle.sqlite.specs.Effect.{Database}
use Rattle.sqlite.specs.Order.{Row, column}
use Rattle.desk_codes.specs.Account.{IsAccount}
use Rattle.desk_codes.specs.Bic.{IsBic}
use Rattle.desk_codes.specs.CheckDigit.{IsIsin}
use Rattle.desk_codes.specs.Currency.{letters_of}
use Rattle.desk_codes.specs.declared.currency.Ccy.{Ccy}
use Rattle.desk_codes.proofs.CurrencyLemmas.{known_by_letters}
use Rattle.desk_rules.specs.Content.{Content}
use Rattle.sql_rows.specs.declared.amounts.key.Ledger.{Ledger}
use Rattle.sql_rows.specs.declared.amounts.key.Ledger.TheVariants as ledgers
use Rattle.sql_rows.specs.declared.amounts.key.AmountKey.{AmountKey}
use Rattle.sql_rows.specs.declared.amounts.key.AmountKey.TheVariants.{Balance, Cash, Security, Currency}
use Rattle.sql_rows.specs.Keys.{Texts, ledger_of, texts_of, tree_of}
use Rattle.sql_rows.specs.Amounts.{IsStored, amount_on, is_at, number_in, recorded, text_in, texts_in}
use Rattle.sql_rows.proofs.AmountRowLemmas.{same_is}
use Rattle.sql_tables.specs.Schema.{desk_schema}
use Rattle.sql_tables.specs.Forms.{AreAllFormed}
use Rattle.sql_tables.specs.Order.{AreInOrder}
use Rattle.sql_rows.specs.Said.{HasReadable, IsReadable, IsSaid, IsTrueOf, IsTrueRow}
use Rattle.sql_rows.specs.Shown.{IsTrueTable, ShowsKey, ShowsReadable, ShowsTrue, shown}
use Rattle.sql_rows.proofs.FormLemmas.{IsFormed, IsFormedTable, formed_table}

abbrev signed_in : Value → ℤ
signed_in (Int z) = z
signed_in _ = pos 0

-- ---- a row of the table, by what is shown of it

stored_row : (content : Content) (ledger : Ledger) (row : Row) → IsFormed row → ShowsTrue content ledger (shown row) → IsStored row
stored_row content ledger row form shows =
    let amount : form.amount ≡ pos shows.amount = ap (λ (r : Row). signed_in (column r 3)) (sym form.is) ∙ ap signed_in shows.amount_is in
    record { id = form.id; texts = form.texts; amount = shows.amount; is = form.is ∙ ap (λ z. Int form.id ∷ Words form.texts.0 ∷ Words form.texts.1 ∷ Int z ∷ []) amount; small = shows.small }

true_row : (content : Content) (ledger : Ledger) (row : Row) → ShowsTrue content ledger (shown row) → IsTrueRow content ledger row
true_row content ledger row shows = subst (IsTrueOf content ledger (texts_in row)) (sym (ap number_in shows.amount_is)) shows.is_true

module _ (content : Content) (ledger : Ledger) where
  abbrev Shows : Row → Type 0
  Shows row = ShowsTrue content ledger (shown row)

  all_stored : (rows : List Row) → AllByRecursion IsFormed rows → AllByRecursion Shows rows → AllByRecursion IsStored rows
  all_stored [] forms shows = tt
  all_stored (row ∷ rows) forms shows = (stored_row content ledger row forms.0 shows.0, all_stored rows forms.1 shows.1)

  all_true : (rows : List Row) → AllByRecursion Shows rows → AllByRecursion (IsTrueRow content ledger) rows
  all_true [] shows = tt
  all_true (row ∷ rows) shows = (true_row content ledger row shows.0, all_true rows shows.1)

  unmapped : (rows : List Row) → AllByRecursion (ShowsTrue content ledger) (map shown rows) → AllByRecursion Shows rows
  unmapped [] all = tt
  unmapped (row ∷ rows) all = (all.0, unmapped rows all.1)

  true_table : (db : Database) (rows : List Row) → IsFormedTable (db.trees (tree_of ledger)) → IsPermutation (map shown (db.trees (tree_of ledger))) rows → All (ShowsTrue content ledger) rows → IsTrueTable db content ledger
  true_table db rows form same all =
      let mine = db.trees (tree_of ledger) in
      let shows = unmapped mine (recursion_from_All (ShowsTrue content ledger) (map shown mine) (All-permutation (ShowsTrue content ledger) rows (map shown mine) (IsPermutation-sym (map shown mine) rows same) all)) in
      record { rows = record { stored = all_stored mine form.formed shows; apart = form.apart; order = form.order }; each = all_true mine shows }

-- in the form of the calls' clauses
pub table_told : (db : Database) (content : Content) (ledger : Ledger) (rows given : List Row) → AreInOrder desk_schema db.trees → AreAllFormed db.trees → IsPermutation (map shown (db.trees (tree_of ledger))) rows → given ≡ rows
    → All (ShowsTrue content ledger) given → IsTrueTable db content ledger
table_told db content ledger rows given order formed same is all = true_table content ledger db rows (formed_table db.trees order formed ledger) same (subst (All (ShowsTrue content ledger)) is all)

-- ---- the keys of two texts

no_subject : codes "security" ≡ codes "currency" → ⊥
no_subject is = both_ways (bytes_eq (codes "security") (codes "currency")) refl ((bytes_eq-Decides (codes "security") (codes "currency")).1 is)

one_key : (a b : AmountKey) → ledger_of a ≡ ledger_of b → texts_of a ≡ texts_of b → a ≡ b
one_key (Balance x i) (Balance y j) of is = (let p : x ≡ y = ap (λ (t : Texts). t.0) is in let q : i ≡ j = ap (λ (t : Texts). t.1) is in cc)
one_key (Balance x i) (Cash b c) of is = absurd (cc)
one_key (Balance x i) (Security j) of is = absurd (cc)
one_key (Balance x i) (Currency c) of is = absurd (cc)
one_key (Cash b c) (Balance x i) of is = absurd (cc)
one_key (Cash b c) (Cash d e) of is = (let p : b ≡ d = ap (λ (t : Texts). t.0) is in let q : c ≡ e = known_by_letters c e (ap (λ (t : Texts). t.1) is) in cc)
one_key (Cash b c) (Security j) of is = absurd (cc)
one_key (Cash b c) (Currency e) of is = absurd (cc)
one_key (Security i) (Balance x j) of is = absurd (cc)
one_key (Security i) (Cash b c) of is = absurd (cc)
one_key (Security i) (Security j) of is = (let q : i ≡ j = ap (λ (t : Texts). t.1) is in cc)
one_key (Security i) (Currency c) of is = absurd (no_subject (ap (λ (t : Texts). t.0) is))
one_key (Currency c) (Balance x j) of is = absurd (cc)
one_key (Currency c) (Cash b e) of is = absurd (cc)
one_key (Currency c) (Security j) of is = absurd (no_subject (sym (ap (λ (t : Texts). t.0) is)))
one_key (Currency c) (Currency e) of is = (let q : c ≡ e = known_by_letters c e (ap (λ (t : Texts). t.1) is) in cc)

-- ---- what is recorded under a key is 0, or what the content has

abbrev pub IsSaidOrNought : Content → AmountKey → Option ℕ → Type 0
IsSaidOrNought content key found = (unwrap_or found 0 ≡ 0) ⊎ IsSaid content key found

module _ (content : Content) (key : AmountKey) where
  had : (texts : Texts) (amount : ℕ) → texts ≡ texts_of key → IsTrueOf content (ledger_of key) texts amount → IsSaidOrNought content key (Some amount)
  had texts amount here (inl none) = inl none
  had texts amount here (inr it) = inr (subst (λ k. IsSaid content k (Some amount)) (one_key it.key key it.ledger_is (it.texts_are ∙ here)) it.said)

  pub said_or_nought : (rows : List Row) → AllByRecursion (IsTrueRow content (ledger_of key)) rows → IsSaidOrNought content key (recorded rows (texts_of key))
  said_or_nought [] all = inl refl
  said_or_nought (row ∷ rows) all = elim (cases_Bool (is_at (texts_of key) row)) [
    | inl here ↦ rw here (had (texts_in row) (amount_on row) (same_is (texts_in row) (texts_of key) here) all.0)
    | inr apart ↦ rw apart (said_or_nought rows all.1)
  ]

-- ---- a row with the texts of a key that can be read shows the key

module _ {X : Type 0} (row : Row) (result : Option X) where
  pub by_balance : ((account isin : List ℕ) → 1 < length row → column row 0 ≡ Words account → column row 1 ≡ Words isin → IsAccount account → IsIsin isin → IsSome result)
      → (key : AmountKey) → 1 < length row → ShowsKey ledgers.Balance row key → IsReadable key → IsSome result
  by_balance all (Balance x i) low shows can = all x i low shows.first shows.second can.0 can.1
  by_balance all (Cash b c) low shows can = absurd (let e = shows.ledger_is in cc)
  by_balance all (Security i) low shows can = absurd (let e = shows.ledger_is in cc)
  by_balance all (Currency c) low shows can = absurd (let e = shows.ledger_is in cc)

  pub by_cash : ((bic : List ℕ) (ccy : Ccy) → 1 < length row → column row 0 ≡ Words bic → column row 1 ≡ Words (letters_of ccy) → IsBic bic → IsSome result)
      → (key : AmountKey) → 1 < length row → ShowsKey ledgers.Cash row key → IsReadable key → IsSome result
  by_cash all (Balance x i) low shows can = absurd (let e = shows.ledger_is in cc)
  by_cash all (Cash b c) low shows can = all b c low shows.first shows.second can
  by_cash all (Security i) low shows can = absurd (let e = shows.ledger_is in cc)
  by_cash all (Currency c) low shows can = absurd (let e = shows.ledger_is in cc)

  pub by_total : ((isin : List ℕ) → 1 < length row → column row 0 ≡ Words (codes "security") → column row 1 ≡ Words isin → IsIsin isin → IsSome result)
      → ((ccy : Ccy) → 1 < length row → column row 0 ≡ Words (codes "currency") → column row 1 ≡ Words (letters_of ccy) → IsSome result)
      → (key : AmountKey) → 1 < length row → ShowsKey ledgers.Total row key → IsReadable key → IsSome result
  by_total securities currencies (Balance x i) low shows can = absurd (let e = shows.ledger_is in cc)
  by_total securities currencies (Cash b c) low shows can = absurd (let e = shows.ledger_is in cc)
  by_total securities currencies (Security i) low shows can = securities i low shows.first shows.second can
  by_total securities currencies (Currency c) low shows can = currencies c low shows.first shows.second

-- ---- and a table that says what a content has is found to

same_texts_are : (t u : Texts) → t.0 ≡ u.0 → t.1 ≡ u.1 → t ≡ u
same_texts_are t u p q = ap (λ (a : List ℕ). (a, t.1)) p ∙ ap (λ (b : List ℕ). (u.0, b)) q

-- what a row shows under a key is what the content has there
pub said_under : (content : Content) (ledger : Ledger) (row : Row) (amount : ℕ) (key : AmountKey) → ShowsKey ledger row key → column row 2 ≡ Int (pos amount) → (amount ≡ 0 → ⊥) → ShowsReadable content ledger row
    → IsSaid content key (Some amount)
said_under content ledger row amount key mine at some shows = elim shows.is_true [
  | inl none ↦ absurd (some (same ∙ none))
  | inr had ↦
      let first = ap text_in (sym had.1.first ∙ mine.first) in
      let second = ap text_in (sym had.1.second ∙ mine.second) in
      let is = one_key had.0 key (had.1.ledger_is ∙ sym mine.ledger_is) (same_texts_are _ _ first second) in
      subst (λ n. IsSaid content key (Some n)) (sym same) (subst (λ k. IsSaid content k (Some shows.amount)) is had.3)
]
  where
    same : amount ≡ shows.amount
    same = ap number_in (sym at ∙ shows.amount_is)

module _ (content : Content) (ledger : Ledger) (can : HasReadable content) where
  readable_of : (texts : Texts) (amount : ℕ) (row : Row) → column row 0 ≡ Words texts.0 → column row 1 ≡ Words texts.1 → IsTrueOf content ledger texts amount
      → (amount ≡ 0) ⊎ ((key : AmountKey) × ShowsKey ledger row key × IsReadable key × IsSaid content key (Some amount))
  readable_of texts amount row one two (inl none) = inl none
  readable_of texts amount row one two (inr had) = elim (cases_lt 0 amount) [
    | inl some ↦ inr (
      had.key,
      record { ledger_is = had.ledger_is; first = one ∙ ap (λ (t : Texts). Words t.0) (sym had.texts_are); second = two ∙ ap (λ (t : Texts). Words t.1) (sym had.texts_are) },
      can.key had.key amount some had.said,
      had.said,
    )
    | inr none ↦ inl (omega (arith, none))
  ]

  readable_row : (row : Row) → IsStored row → IsTrueRow content ledger row → ShowsReadable content ledger (shown row)
  readable_row row is so =
      let here = subst (λ (r : Row). IsTrueOf content ledger (texts_in r) (amount_on r)) is.is so in
      record {
        amount = is.amount;
        amount_is = ap (λ (r : Row). column r 3) is.is;
        size = refl;
        is_true = readable_of is.texts is.amount (shown row) (ap (λ (r : Row). column r 1) is.is) (ap (λ (r : Row). column r 2) is.is) here;
      }

  all_readable : (rows : List Row) → AllByRecursion IsStored rows → AllByRecursion (IsTrueRow content ledger) rows → AllByRecursion (ShowsReadable content ledger) (map shown rows)
  all_readable [] are so = tt
  all_readable (row ∷ rows) are so = (readable_row row are.0 so.0, all_readable rows are.1 so.1)

  pub table_shown : (db : Database) (rows given : List Row) → IsTrueTable db content ledger → IsPermutation (map shown (db.trees (tree_of ledger))) rows → given ≡ rows → All (ShowsReadable content ledger) given
  table_shown db rows given so same is =
      let mine = db.trees (tree_of ledger) in
      let P = ShowsReadable content ledger in
      subst (All P) (sym is) (All-permutation P (map shown mine) rows same (All-from_recursion P (map shown mine) (all_readable mine so.rows.stored so.each)))

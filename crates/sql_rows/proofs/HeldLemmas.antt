-- What all accounts together hold, and all participants together have.
use Rattle.std.proofs.Common.{◌≡◌, inl, inr, ℕ, ◌+◌, ◌*◌, ◌<◌, ◌^◌, List, [], ◌∷◌, map, filter, sum_by, Bool, true, false, cond, ◌&&◌, None, Some, unwrap_or, refl, sym, ap, subst, ◌∙◌, arith}
use Rattle.std.specs.List.{AllByRecursion}
use Rattle.std.specs.List.Sorted.{IsPermutation}
use Rattle.std.specs.Str.{bytes_eq}
use Rattle.std.proofs.lemmas.Bool.{cases_Bool}
use Rattle.std.proofs.lemmas.Slice.Eq.{bytes_eq-Decides}
use Rattle.std.proofs.lemmas.List.Elements.{All-from_recursion}
use Rattle.std.proofs.lemmas.List.Sorted.{All-permutation, sum_by-IsPermutation}
use Rattle.std.proofs.lemmas.List.Sums.{sum_by-cons}
use Rattle.desk_codes.specs.Currency.{letters_of}
use Rattle.desk_codes.specs.declared.currency.Ccy.{Ccy}
use Rattle.sqlite.specs.Order.{Row, column}
use Rattle.sqlite.specs.declared.types.Value.TheVariants.{Null, Text as Words}
use Rattle.sqlite.specs.Command.TheVariants.{Select}
use Rattle.sqlite.specs.Effect.{Database}
use Rattle.sqlite.specs.Listing.{understood}
use Rattle.sqlite.specs.Ops.{binary}
use Rattle.sqlite.specs.State.{State, Shown}
use Rattle.sqlite.specs.Term.{col}
use Rattle.sqlite.specs.Tree.{IsAscending}
use Rattle.sqlite.proofs.Callers.{command_of, reads_as}
use Rattle.sqlite_trees.proofs.ListLemmas.{all-filter}
use Rattle.sql_tables.specs.Schema.{desk_schema}
use Rattle.sql_tables.specs.Statements.{IsQuery}
use Rattle.sql_tables.specs.Queries.{passes_all, plain}
use Rattle.sql_tables.proofs.QueryLemmas.{same_found}
use Rattle.sql_tables.proofs.ValueLemmas.{and_true, text_test}
use Rattle.sql_rows.specs.declared.amounts.key.Ledger.{Ledger}
use Rattle.sql_rows.specs.declared.amounts.key.Ledger.TheVariants.{Balance, Cash}
use Rattle.sql_rows.specs.Keys.{Texts, tree_of}
use Rattle.sql_rows.specs.AmountStatements.{held_text, held_cash_text}
use Rattle.sql_rows.specs.Amounts.{AreAmounts, AreApart, IsStored, amount_in, amount_on, is_at, recorded, text_in, texts_in}
use Rattle.sql_rows.specs.Held.{ShowSum, ShowsNumber, is_in, number_shown, sum_in, total_cash, total_held}
use Rattle.sql_rows.proofs.AmountMeanings.{amount_name, code_terms, held_is, held_query, held_cash_is, held_cash_query}
use Rattle.sql_rows.proofs.AmountRowLemmas.{none_at, recorded_cons, recorded_none, same_is}
use Rattle.sql_rows.proofs.EffectLemmas.{table_rows}

-- ---- the rows that are shown

code_test : (code : List ℕ) (row : Row) → IsStored row → passes_all code_terms (Words code ∷ []) row ≡ is_in code row
unfolding binary
code_test code row it =
    subst (λ r. passes_all code_terms (Words code ∷ []) r ≡ is_in code r) (sym it.is)
    (rw (text_test it.texts.1 code) (and_true (bytes_eq it.texts.1 code)))

abbrev amount_row : Row → Row
amount_row row = column row 3 ∷ []

number_rows : (rows : List Row) → AllByRecursion IsStored rows → AllByRecursion ShowsNumber (map amount_row rows)
number_rows [] all = tt
number_rows (row ∷ rows) all = (record { number = all.0.amount; is = ap amount_row all.0.is }, number_rows rows all.1)

same_sum : (rows : List Row) → sum_by number_shown (map amount_row rows) ≡ sum_by amount_on rows
same_sum [] = refl
same_sum (row ∷ rows) =
    let shown = sum_by-cons number_shown (amount_row row) (map amount_row rows) in
    let stored = sum_by-cons amount_on row rows in
    let more = same_sum rows in
    omega (arith, shown, stored, more)

module _ (old new : State) (has : old.now.schema ≡ desk_schema) (amounts : AreAmounts old.now) where
  -- a query of one second text
  module _ (ledger : Ledger) (text : List ℕ) (is : command_of (understood desk_schema text) ≡ Select (record { lets = []; body = plain (tree_of ledger) code_terms (col 1 3 ∷ []) }) (amount_name ledger ∷ []))
      (query : IsQuery text) (code : List ℕ) where
    abbrev held : List Row
    held = old.now.trees (tree_of ledger)

    shows_sum : (rows : List Row) → Shown text (Words code ∷ []) old new rows → ShowSum rows (sum_in held code)
    shows_sum rows h =
        let answers = reads_as text (Words code ∷ []) old new desk_schema has _ is query.plain query.unlisted rows h in
        let passing = table_rows ledger code_terms (col 1 3 ∷ []) old.now.trees (Words code ∷ []) rows (answers.answer Null) in
        let same = same_found IsStored (passes_all code_terms (Words code ∷ [])) (is_in code) held (code_test code) (amounts ledger).are.stored in
        let found : IsPermutation (map amount_row (filter (is_in code) held)) rows = subst (λ xs. IsPermutation (map amount_row xs) rows) same passing in
        let numbers = number_rows (filter (is_in code) held) (all-filter IsStored (is_in code) held (amounts ledger).are.stored) in
        record {
          numbers = All-permutation ShowsNumber (map amount_row (filter (is_in code) held)) rows found (All-from_recursion ShowsNumber (map amount_row (filter (is_in code) held)) numbers);
          adds_up = sum_by-IsPermutation number_shown (map amount_row (filter (is_in code) held)) rows found ∙ same_sum (filter (is_in code) held);
        }

  pub shows_held : (isin : List ℕ) (rows : List Row) → Shown held_text (Words isin ∷ []) old new rows → ShowSum rows (total_held old.now isin)
  shows_held isin rows h = shows_sum Balance held_text held_is held_query isin rows h

  pub shows_cash : (ccy : Ccy) (rows : List Row) → Shown held_cash_text (Words (letters_of ccy) ∷ []) old new rows → ShowSum rows (total_cash old.now ccy)
  shows_cash ccy rows h = shows_sum Cash held_cash_text held_cash_is held_cash_query (letters_of ccy) rows h

-- ---- the sum over first texts that are listed once each

-- the amount counts as often as the test passes
counted : (p : List ℕ → Bool) (b : Bool) (n : ℕ) (xs : List (List ℕ)) → sum_by (λ x. cond (p x && b) n 0) xs ≡ sum_by (λ x. cond (p x) 1 0) xs * cond b n 0
counted p b n [] = omega arith
counted p b n (x ∷ xs) = sum_by-cons (λ x. cond (p x && b) n 0) x xs ∙ ap (λ m. cond (p x && b) n 0 + m) (counted p b n xs) ∙ one (p x) (sum_by (λ x. cond (p x) 1 0) xs)
    ∙ ap (λ m. m * cond b n 0) (sym (sum_by-cons (λ x. cond (p x) 1 0) x xs))
  where
    one : (c : Bool) (m : ℕ) → cond (c && b) n 0 + m * cond b n 0 ≡ (cond c 1 0 + m) * cond b n 0
    one true m = omega arith
    one false m = omega arith

nought_each : (xs : List (List ℕ)) → sum_by (λ x. 0) xs ≡ 0
nought_each [] = refl
nought_each (x ∷ xs) = let all = sum_by-cons (λ x. 0) x xs in let more = nought_each xs in omega (arith, all, more)

module _ (code : List ℕ) where
  -- what rows record of a first text, where nothing counts as 0
  abbrev had_by : List Row → List ℕ → ℕ
  had_by rows first = unwrap_or (recorded rows (first, code)) 0

  -- what one row has of it
  abbrev share : Row → List ℕ → ℕ
  share row first = cond (is_at (first, code) row) (amount_on row) 0

  with_row : (row : Row) (rows : List Row) → AllByRecursion (AreApart row) rows → (first : List ℕ) → had_by (row ∷ rows) first ≡ share row first + had_by rows first
  with_row row rows apart first =
      let texts : Texts = (first, code) in
      let others = recorded rows texts in
      let whole : had_by (row ∷ rows) first ≡ unwrap_or (cond (is_at texts row) (Some (amount_on row)) others) 0 = ap (λ o. unwrap_or o 0) (recorded_cons row rows texts) in
      elim (cases_Bool (is_at texts row)) [
        | inl here ↦ (let none : others ≡ None = recorded_none texts rows (none_at texts row rows (same_is (texts_in row) texts here) apart) in
            let left : had_by (row ∷ rows) first ≡ amount_on row = whole ∙ ap (λ b. unwrap_or (cond b (Some (amount_on row)) others) 0) here in
            let right : share row first ≡ amount_on row = ap (λ b. cond b (amount_on row) 0) here in
            let rest : had_by rows first ≡ 0 = ap (λ o. unwrap_or o 0) none in
            omega (arith, left, right, rest))
        | inr other ↦ (let left : had_by (row ∷ rows) first ≡ had_by rows first = whole ∙ ap (λ b. unwrap_or (cond b (Some (amount_on row)) others) 0) other in
            let right : share row first ≡ 0 = ap (λ b. cond b (amount_on row) 0) other in
            omega (arith, left, right))
      ]

  with_row_all : (row : Row) (rows : List Row) → AllByRecursion (AreApart row) rows → (firsts : List (List ℕ)) → sum_by (had_by (row ∷ rows)) firsts ≡ sum_by (share row) firsts + sum_by (had_by rows) firsts
  with_row_all row rows apart [] = refl
  with_row_all row rows apart (first ∷ firsts) =
      let own = with_row row rows apart first in
      let more = with_row_all row rows apart firsts in
      let all = sum_by-cons (had_by (row ∷ rows)) first firsts in
      let shares = sum_by-cons (share row) first firsts in
      let others = sum_by-cons (had_by rows) first firsts in
      omega (arith, own, more, all, shares, others)

  sum_with : (row : Row) (rows : List Row) → sum_in (row ∷ rows) code ≡ cond (is_in code row) (amount_on row) 0 + sum_in rows code
  sum_with row rows = by (is_in code row)
    where
      by : (b : Bool) → sum_by amount_on (cond b (row ∷ filter (is_in code) rows) (filter (is_in code) rows)) ≡ cond b (amount_on row) 0 + sum_in rows code
      by true = sum_by-cons amount_on row (filter (is_in code) rows)
      by false = omega arith

  module _ (firsts : List (List ℕ)) (is_listed : List ℕ → Bool) (once : (first : List ℕ) → sum_by (λ other. cond (bytes_eq first other) 1 0) firsts ≡ cond (is_listed first) 1 0) where
    -- a row's amount is in the sum, where its first text is listed or it has nothing of the code
    share_listed : (row : Row) → (is_listed (text_in (column row 1)) ≡ false → share row (text_in (column row 1)) ≡ 0) → sum_by (share row) firsts ≡ cond (is_in code row) (amount_on row) 0
    share_listed row nothing =
        let first = text_in (column row 1) in
        let own = cond (is_in code row) (amount_on row) 0 in
        let times : sum_by (share row) firsts ≡ cond (is_listed first) 1 0 * own = counted (bytes_eq first) (is_in code row) (amount_on row) firsts ∙ ap (λ n. n * own) (once first) in
        elim (cases_Bool (is_listed first)) [
          | inl listed ↦ times ∙ ap (λ b. cond b 1 0 * own) listed ∙ omega arith
          | inr none ↦ (let itself : bytes_eq first first ≡ true = (bytes_eq-Decides first first).1 refl in
              let worth : own ≡ 0 = ap (λ b. cond (b && is_in code row) (amount_on row) 0) (sym itself) ∙ nothing none in
              let shared : sum_by (share row) firsts ≡ 0 * own = times ∙ ap (λ b. cond b 1 0 * own) none in
              omega (arith, worth, shared))
        ]

    sum_listed : (rows : List Row) → IsAscending AreApart rows → ((first : List ℕ) → is_listed first ≡ false → had_by rows first ≡ 0) → sum_by (had_by rows) firsts ≡ sum_in rows code
    sum_listed [] up nothing = nought_each firsts
    sum_listed (row ∷ rows) up nothing =
        let own = share_listed row (λ none. let all = nothing (text_in (column row 1)) none in let parts = with_row row rows up.0 (text_in (column row 1)) in omega (arith, all, parts)) in
        let more = sum_listed rows up.1 (λ first none. let all = nothing first none in let parts = with_row row rows up.0 first in omega (arith, all, parts)) in
        let both = with_row_all row rows up.0 firsts in
        let split = sum_with row rows in
        omega (arith, own, more, both, split)

module _ (db : Database) (amounts : AreAmounts db) where
  -- What all accounts together hold is what those of a list hold, where each of them is listed once and no other holds any.
  pub held_listed : (isin : List ℕ) (accounts : List (List ℕ)) (is_listed : List ℕ → Bool)
      → ((account : List ℕ) → sum_by (λ other. cond (bytes_eq account other) 1 0) accounts ≡ cond (is_listed account) 1 0)
      → ((account : List ℕ) → is_listed account ≡ false → unwrap_or (amount_in db Balance account isin) 0 ≡ 0)
      → sum_by (λ account. unwrap_or (amount_in db Balance account isin) 0) accounts ≡ total_held db isin
  held_listed isin accounts is_listed once nothing = sum_listed isin accounts is_listed once (db.trees (tree_of Balance)) (amounts Balance).are.apart nothing

  pub cash_listed : (ccy : Ccy) (bics : List (List ℕ)) (is_listed : List ℕ → Bool)
      → ((bic : List ℕ) → sum_by (λ other. cond (bytes_eq bic other) 1 0) bics ≡ cond (is_listed bic) 1 0)
      → ((bic : List ℕ) → is_listed bic ≡ false → unwrap_or (amount_in db Cash bic (letters_of ccy)) 0 ≡ 0)
      → sum_by (λ bic. unwrap_or (amount_in db Cash bic (letters_of ccy)) 0) bics ≡ total_cash db ccy
  cash_listed ccy bics is_listed once nothing = sum_listed (letters_of ccy) bics is_listed once (db.trees (tree_of Cash)) (amounts Cash).are.apart nothing

  -- what is recorded is below 2^63
  pub small_amount : (ledger : Ledger) (first second : List ℕ) → unwrap_or (amount_in db ledger first second) 0 < 2 ^ 63
  small_amount ledger first second = each (db.trees (tree_of ledger)) (amounts ledger).are.stored
    where
      each : (rows : List Row) → AllByRecursion IsStored rows → unwrap_or (recorded rows (first, second)) 0 < 2 ^ 63
      each [] all = omega arith
      each (row ∷ rows) all = elim (cases_Bool (is_at (first, second) row)) [
        | inl here ↦ rw here (subst (λ r. amount_on r < 2 ^ 63) (sym all.0.is) all.0.small)
        | inr other ↦ rw other (each rows all.1)
      ]

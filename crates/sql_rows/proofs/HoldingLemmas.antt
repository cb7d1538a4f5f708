-- The next security that an account holds.
use Rattle.std.proofs.Common.{◌≡◌, inl, inr, ℕ, ◌<◌, pos, nat_lt, List, [], ◌∷◌, filter, Bool, true, false, cond, ◌&&◌, Some, Option, Result, IsOk, unwrap_or, refl, sym, ap, subst, ◌∙◌, arith}
use Rattle.std.specs.Str.{bytes_eq}
use Rattle.std.specs.Cmp.Lexicographic.{slice_cmp}
use Rattle.std.specs.Ordering.{is_gt, is_lt, nat_cmp, int_cmp, ordering_reverse}
use Rattle.std.specs.declared.cmp.Ordering.{Ordering}
use Rattle.std.specs.declared.cmp.Ordering.TheVariants.{Less, Equal, Greater}
use Rattle.std.proofs.Math.Dec.{ltb}
use Rattle.std.proofs.lemmas.Bool.{cases_Bool, cases_lt, lt-ltb, le-ltb, ltb-true, both_ways, and_parts, and_from}
use Rattle.std.proofs.lemmas.Cmp.{nat_list_cmp_total}
use Rattle.std.proofs.lemmas.Slice.Eq.{bytes_eq-Decides}
use Rattle.desk_codes.specs.CheckDigit.{IsIsin}
use Rattle.sqlite.specs.Order.{Row, column, value_cmp}
use Rattle.sqlite_value.proofs.OrderLemmas.{value_cmp-Text, value_cmp-Int}
use Rattle.sqlite.specs.declared.types.Value.{Value}
use Rattle.sqlite.specs.declared.types.Value.TheVariants.{Null, Int, Text as Words}
use Rattle.sqlite.specs.Effect.{Database}
use Rattle.sqlite.specs.Ops.{binary, is_true, from_truth}
use Rattle.sqlite.specs.Program.{overlay}
use Rattle.sqlite.specs.State.{State, Shown}
use Rattle.sqlite.specs.Term.{col}
use Rattle.sqlite.proofs.Callers.{reads_as}
use Rattle.sql_tables.specs.Schema.{desk_schema}
use Rattle.sql_tables.specs.Queries.{passes_all, rising, Among, IsFirst}
use Rattle.sql_tables.proofs.QueryLemmas.{among_filter, at_among, filter_among, first_row, none_among, only_one, same_found}
use Rattle.sql_tables.proofs.ValueLemmas.{and_true, text_above_test, text_test, truth_of}
use Rattle.sql_rows.specs.declared.amounts.key.Ledger.TheVariants.{Balance}
use Rattle.sql_rows.specs.Keys.{Texts, same_texts}
use Rattle.sql_rows.specs.AmountStatements.{next_text}
use Rattle.sql_rows.specs.Amounts.{AreAmounts, AreAmountRows, IsStored, amount_on, is_at, recorded, text_in, texts_in}
use Rattle.sql_rows.specs.Holdings.{HoldsIsins, IsHeldAbove, IsFirstAbove, IsLess, ShowsNext, held}
use Rattle.sql_rows.proofs.AmountMeanings.{next_terms, next_is, next_query}
use Rattle.sql_rows.proofs.AmountRowLemmas.{once, recorded_one, same_is, same_self}
use Rattle.sql_rows.proofs.EffectLemmas.{of_texts}

-- ---- which rows pass

-- a row of the account with a greater ISIN, and something held
abbrev is_next : Texts → Row → Bool
is_next texts row = bytes_eq (text_in (column row 1)) texts.0 && (is_gt (slice_cmp nat_cmp (text_in (column row 2)) texts.1) && nat_lt 0 (amount_on row))

nat_some : (n : ℕ) → is_gt (int_cmp (pos n) (pos 0)) ≡ nat_lt 0 n
nat_some n = elim (cases_lt 0 n) [
  | inl low ↦ ap (λ b. is_gt (cond b Less (cond (ltb 0 n) Greater Equal))) (le-ltb n 0 (omega arith)) ∙ ap (λ b. is_gt (cond b Greater Equal)) (lt-ltb 0 n low) ∙ sym (lt-ltb 0 n low)
  | inr high ↦ ap (λ b. is_gt (cond b Less (cond (ltb 0 n) Greater Equal))) (le-ltb n 0 (omega arith)) ∙ ap (λ b. is_gt (cond b Greater Equal)) (le-ltb 0 n high) ∙ sym (le-ltb 0 n high)
]

some_test : (n : ℕ) → is_true (from_truth (Some (is_gt (value_cmp (Int (pos n)) (Int (pos 0)))))) ≡ nat_lt 0 n
some_test n = truth_of (is_gt (value_cmp (Int (pos n)) (Int (pos 0)))) ∙ ap is_gt (value_cmp-Int (pos n) (pos 0)) ∙ nat_some n

next_test : (texts : Texts) (row : Row) → IsStored row → passes_all next_terms (of_texts texts []) row ≡ is_next texts row
unfolding binary
next_test texts row it =
    subst (λ r. passes_all next_terms (of_texts texts []) r ≡ is_next texts r) (sym it.is)
    (rw (text_test it.texts.0 texts.0, text_above_test it.texts.1 texts.1, some_test it.amount)
    (ap (λ b. bytes_eq it.texts.0 texts.0 && (is_gt (slice_cmp nat_cmp it.texts.1 texts.1) && b)) (and_true (nat_lt 0 it.amount))))

greater : (s t : List ℕ) → IsLess t s → is_gt (slice_cmp nat_cmp s t) ≡ true
greater s t h = ap is_gt (nat_list_cmp_total.antisymm s t ∙ ap ordering_reverse h)

less_of : (o : Ordering) → is_gt (ordering_reverse o) ≡ true → o ≡ Less
less_of Less h = refl
less_of Equal h = absurd (cc)
less_of Greater h = absurd (cc)

lesser : (s t : List ℕ) → is_gt (slice_cmp nat_cmp s t) ≡ true → IsLess t s
lesser s t h = less_of (slice_cmp nat_cmp t s) (ap is_gt (sym (nat_list_cmp_total.antisymm s t)) ∙ h)

-- ---- a row that is held

held_row : (rows : List Row) (texts : Texts) → 0 < unwrap_or (recorded rows texts) 0 → (r : Row) × Among rows r × (is_at texts r ≡ true) × (0 < amount_on r)
held_row [] texts some = absurd (omega arith)
held_row (x ∷ xs) texts some = elim (cases_Bool (is_at texts x)) [
  | inl here ↦ (let own : 0 < amount_on x = rw here at some in (x, inl refl, here, own))
  | inr apart ↦ (let rest : 0 < unwrap_or (recorded xs texts) 0 = rw apart at some in let it = held_row xs texts rest in (it.0, inr it.1, it.2, it.3))
]

module _ (db : Database) (account above : List ℕ) (all : AreAmountRows (db.trees 0)) where
  abbrev rows : List Row
  rows = db.trees 0

  abbrev mine : List Row
  mine = filter (is_next (account, above)) rows

  -- what is held above the text stands in a row that passes
  stands : (isin : List ℕ) → IsHeldAbove db account above isin → (r : Row) × Among mine r × (column r 2 ≡ Words isin)
  stands isin h =
      let it = held_row rows (account, isin) h.0 in
      let form = at_among IsStored rows all.stored it.0 it.1 in
      let texts : texts_in it.0 ≡ (account, isin) = same_is (texts_in it.0) (account, isin) it.2 in
      let one : bytes_eq (text_in (column it.0 1)) account ≡ true = (bytes_eq-Decides (text_in (column it.0 1)) account).1 (ap (λ (t : Texts). t.0) texts) in
      let two : is_gt (slice_cmp nat_cmp (text_in (column it.0 2)) above) ≡ true = ap (λ (t : Texts). is_gt (slice_cmp nat_cmp t.1 above)) texts ∙ greater isin above h.1 in
      let three : nat_lt 0 (amount_on it.0) ≡ true = lt-ltb 0 (amount_on it.0) it.3 in
      let second : column it.0 2 ≡ Words (text_in (column it.0 2)) = subst (λ (r : Row). column r 2 ≡ Words (text_in (column r 2))) (sym form.is) refl in (
        it.0,
        filter_among (is_next (account, above)) rows it.0 it.1 (and_from _ _ one (and_from _ _ two three)),
        second ∙ ap (λ (t : Texts). Words t.1) texts,
      )

  first_of : (r : Row) → Among mine r → ((s : Row) → Among mine s → is_lt (value_cmp (column s 2) (column r 2)) ≡ false)
      → (isin : List ℕ) × (quantity : ℕ) × (column r 2 ≡ Words isin) × (column r 3 ≡ Int (pos quantity)) × IsFirstAbove db account above isin quantity
  first_of r here least =
      let at = among_filter (is_next (account, above)) rows r here in
      let it = at_among IsStored rows all.stored r at.0 in
      let isin = it.texts.1 in
      let tests = and_parts (bytes_eq (text_in (column r 1)) account) (is_gt (slice_cmp nat_cmp (text_in (column r 2)) above) && nat_lt 0 (amount_on r)) at.1 in
      let two = and_parts (is_gt (slice_cmp nat_cmp (text_in (column r 2)) above)) (nat_lt 0 (amount_on r)) tests.1 in
      let first : text_in (column r 1) ≡ account = (bytes_eq-Decides (text_in (column r 1)) account).0 tests.0 in
      let second : column r 2 ≡ Words isin = ap (λ (row : Row). column row 2) it.is in
      let texts : texts_in r ≡ (account, isin) = ap (λ t. (t, text_in (column r 2))) first ∙ ap (λ v. (account, text_in v)) second in
      let own : is_at (account, isin) r ≡ true = ap (λ t. same_texts t (account, isin)) texts ∙ same_self (account, isin) in
      let found = filter_among (is_at (account, isin)) rows r at.0 own in
      let worth : held db account isin ≡ amount_on r = elim (once (account, isin) rows all.apart) [
        | inl none ↦ absurd (none_among (filter (is_at (account, isin)) rows) r none found)
        | inr one ↦ ap (λ o. unwrap_or o 0) (recorded_one (account, isin) rows one.0 [] one.1) ∙ ap amount_on (sym (only_one (filter (is_at (account, isin)) rows) one.0 r one.1 found))
      ] in
      let some : 0 < amount_on r = ltb-true 0 (amount_on r) two.1 in
      let amount : amount_on r ≡ it.amount = ap amount_on it.is in
      let low : IsLess above isin = lesser isin above (ap (λ v. is_gt (slice_cmp nat_cmp (text_in v) above)) (sym second) ∙ two.0) in (
        isin,
        it.amount,
        second,
        ap (λ (row : Row). column row 3) it.is,
        record {
          is_held = (omega (arith, worth, some), low);
          worth = sym amount ∙ sym worth;
          is_first = λ other is_held less.
              let there = stands other is_held in
              let lower : is_lt (value_cmp (column there.0 2) (column r 2)) ≡ true =
              ap (λ v. is_lt (value_cmp v (column r 2))) there.2 ∙ ap (λ v. is_lt (value_cmp (Words other) v)) second ∙ ap is_lt (value_cmp-Text other isin ∙ less) in
              both_ways _ (least there.0 there.1) lower;
        },
      )

pub shows_next : (old new : State) (account : List ℕ) (above : Option (List ℕ)) (rows : List Row) → old.now.schema ≡ desk_schema → AreAmounts old.now
    → Shown next_text (of_texts (account, unwrap_or above []) []) old new rows → ShowsNext old.now account above rows
shows_next old new account above rows has amounts h =
    let all = (amounts Balance).are in
    let from = unwrap_or above [] in
    let texts : Texts = (account, from) in
    let answers = reads_as next_text (of_texts texts []) old new desk_schema has _ next_is next_query.plain next_query.unlisted rows h in
    let first = first_row 0 next_terms (col 1 2 ∷ col 1 3 ∷ []) (col 1 2) rising (overlay old.now.trees []) (of_texts texts []) rows (answers.answer Null) in
    let same = same_found IsStored (passes_all next_terms (of_texts texts [])) (is_next texts) (old.now.trees 0) (next_test texts) all.stored in
    let it : IsFirst (filter (is_next texts) (old.now.trees 0)) (of_texts texts []) (col 1 2 ∷ col 1 3 ∷ []) (col 1 2) rising rows = subst (λ mine. IsFirst mine (of_texts texts []) (col 1 2 ∷ col 1 3 ∷ []) (col 1 2) rising rows) same first in
    elim it [
      | inl none ↦ inl (none.0, λ isin is_held. let there = stands old.now account from all isin is_held in none_among (filter (is_next texts) (old.now.trees 0)) there.0 none.1 there.1)
      | inr one ↦ (let found = first_of old.now account from all one.0 one.1 one.3 in
          inr (found.0, found.1, one.2 ∙ ap (λ (v : Value). (v ∷ column one.0 3 ∷ []) ∷ []) found.2 ∙ ap (λ (v : Value). (Words found.0 ∷ v ∷ []) ∷ []) found.3, found.4))
    ]

-- what the rows show reads, where what is held is of ISINs
pub shown_reads : {X E : Type 0} (db : Database) (account : List ℕ) (above : Option (List ℕ)) (shown : List Row) (r : Result X E) → HoldsIsins db account → (shown ≡ [] → IsOk r)
    → ((isin : List ℕ) (quantity : ℕ) → shown ≡ (Words isin ∷ Int (pos quantity) ∷ []) ∷ [] → IsIsin isin → IsOk r) → ShowsNext db account above shown → IsOk r
shown_reads db account above shown r isins none one (inl empty) = none empty.0
shown_reads db account above shown r isins none one (inr (isin, quantity, is, first)) = one isin quantity is (isins isin first.is_held.0)

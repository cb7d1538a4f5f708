-- What the texts on the table of messages show, and what the row does that is put in.
use Rattle.std.proofs.Common.{◌≡◌, inl, inr, ℕ, ◌<◌, ◌≤◌, ◌==◌, ◌^◌, pos, nat_le, List, [], ◌∷◌, length, map, filter, Bool, true, false, cond, ◌&&◌, None, Some, Option, refl, sym, ap, subst, ◌∙◌, arith}
use Rattle.std.specs.List.{AllByRecursion, find}
use Rattle.std.specs.List.Sorted.{IsPermutation}
use Rattle.std.specs.Str.{bytes_eq}
use Rattle.std.specs.Int.{w64, cast_signed, cast_unsigned}
use Rattle.std.specs.Ordering.{is_eq, is_gt, is_le, is_lt, int_cmp, int_eq}
use Rattle.std.specs.declared.cmp.Ordering.TheVariants.{Less, Equal, Greater}
use Rattle.std.proofs.Math.Bool.{and-false}
use Rattle.std.proofs.Math.Dec.{ltb}
use Rattle.std.proofs.lemmas.Bool.{cases_lt, lt-ltb, le-ltb, lt-leb, le-leb}
use Rattle.std.proofs.lemmas.Bool.Decides.{Decides-eqb, Decides-int_eq, same_from_decides}
use Rattle.std.proofs.lemmas.Int.{of_z-to_z, to_z_pos}
use Rattle.std.proofs.lemmas.List.{nil_from_length}
use Rattle.std.proofs.lemmas.List.Sorted.{length_permutation}
use Rattle.sqlite.specs.Order.{Row, value_cmp}
use Rattle.sqlite_value.proofs.OrderLemmas.{value_cmp-Int}
use Rattle.sqlite.specs.declared.types.Value.TheVariants.{Null, Int, Text as Words}
use Rattle.sqlite.specs.Ops.{binary, is_true, from_truth}
use Rattle.sqlite.specs.Term.{Term, col, eval_all}
use Rattle.sqlite.specs.Tree.{rowid, IsTable}
use Rattle.sqlite_trees.proofs.ListLemmas.{ascending-filter}
use Rattle.sqlite.specs.Program.{overlay}
use Rattle.sqlite.specs.State.{State, Shown}
use Rattle.sqlite.proofs.Callers.{reads_as, one_permutation}
use Rattle.desk_rules.specs.declared.answers.reply.Sent.{Sent}
use Rattle.desk_rules.specs.Questions.{sent_at, confirms_it}
use Rattle.sql_tables.specs.Schema.{desk_schema}
use Rattle.sql_tables.specs.Queries.{passes_all, rising, falling, Among, IsFirst}
use Rattle.sql_tables.specs.Rows.{number_rows}
use Rattle.sql_tables.proofs.QueryLemmas.{at_among, all_kept, plain_rows, first_row}
use Rattle.sql_tables.proofs.ValueLemmas.{number_less, number_equal, number_greater, three_ways, truth_of, and_true, text_test, at_least_test}
use Rattle.sql_rows.specs.Messages.{stored, rows_from, AreSent, IsMessage, IsLast, ShowsNext}
use Rattle.sql_rows.proofs.SentMeanings.{number_text, number_is, number_query, next_text, next_is, next_query, message_text, message_is, message_query, confirmation_text, confirmation_is, confirmation_query, by_bic, past, by_number, by_about, from_544, to_547, message_columns}
use Rattle.sql_rows.proofs.SentRowLemmas.{IsUpTo, HasLast, numbers_up_to, has_last_number, rows_rise, AreRowsOf, found_at, BeginsWith, found_first}
use Rattle.sql_rows.proofs.SentWalkLemmas.{BeginsAt, next_row}

-- ---- tests of numbers

not_less : (p n : ℕ) → is_lt (value_cmp (Int (pos p)) (Int (pos n))) ≡ false → n ≤ p
not_less p n is = elim (cases_lt p n) [
  | inl low ↦ absurd (let e = ap is_lt (number_less p n low) in let f : true ≡ false = sym e ∙ is in cc)
  | inr high ↦ high
]

int_test : (m n : _) → is_true (from_truth (Some (is_eq (value_cmp (Int m) (Int n))))) ≡ int_eq m n
int_test m n = truth_of (is_eq (value_cmp (Int m) (Int n))) ∙ ap is_eq (value_cmp-Int m n)

-- two numbers are the same where SQL sees the same
signed_test : (m n : ℕ) → m < 2 ^ 64 → n < 2 ^ 64 → int_eq (cast_signed w64 m) (cast_signed w64 n) ≡ (m == n)
signed_test m n low high = same_from_decides (int_eq (cast_signed w64 m) (cast_signed w64 n)) (m == n)
    (λ is. sym (of_z-to_z w64 m low) ∙ ap (cast_unsigned w64) ((Decides-int_eq (cast_signed w64 m) (cast_signed w64 n)).0 is) ∙ of_z-to_z w64 n high, λ same. (Decides-int_eq (cast_signed w64 m) (cast_signed w64 n)).1 (ap (cast_signed w64) same))
    (Decides-eqb m n)

pos_test : (m n : ℕ) → m < 2 ^ 63 → n < 2 ^ 64 → int_eq (pos m) (cast_signed w64 n) ≡ (m == n)
pos_test m n low high = ap (λ z. int_eq z (cast_signed w64 n)) (sym (to_z_pos w64 m low)) ∙ signed_test m n (omega arith) high

nat_at_most : (m n : ℕ) → is_le (int_cmp (pos m) (pos n)) ≡ nat_le m n
nat_at_most m n = elim (cases_lt n m) [
  | inl low ↦ ap (λ b. is_le (cond b Less (cond (ltb n m) Greater Equal))) (le-ltb m n (omega arith)) ∙ ap (λ b. is_le (cond b Greater Equal)) (lt-ltb n m low) ∙ sym (lt-leb m n low)
  | inr high ↦ elim (cases_lt m n) [
    | inl low ↦ ap (λ b. is_le (cond b Less (cond (ltb n m) Greater Equal))) (lt-ltb m n low) ∙ sym (le-leb m n high)
    | inr same ↦ ap (λ b. is_le (cond b Less (cond (ltb n m) Greater Equal))) (le-ltb m n same) ∙ ap (λ b. is_le (cond b Greater Equal)) (le-ltb n m high) ∙ sym (le-leb m n high)
  ]
]

at_most : (m n : ℕ) → is_true (from_truth (Some (is_le (value_cmp (Int (pos m)) (Int (pos n)))))) ≡ nat_le m n
at_most m n = truth_of (is_le (value_cmp (Int (pos m)) (Int (pos n)))) ∙ ap is_le (value_cmp-Int (pos m) (pos n)) ∙ nat_at_most m n

past_test : (after number : ℕ) → after < number → is_true (from_truth (Some (is_gt (value_cmp (Int (pos number)) (Int (pos after)))))) ≡ true
past_test after number high = truth_of (is_gt (value_cmp (Int (pos number)) (Int (pos after)))) ∙ ap is_gt (number_greater number after high)

passed_test : (after number : ℕ) → number ≤ after → is_true (from_truth (Some (is_gt (value_cmp (Int (pos number)) (Int (pos after)))))) ≡ false
passed_test after number low = truth_of (is_gt (value_cmp (Int (pos number)) (Int (pos after)))) ∙ elim (three_ways number after) [
  | inl less ↦ ap is_gt (number_less number after less)
  | inr (inl same) ↦ subst (λ n. is_gt (value_cmp (Int (pos number)) (Int (pos n))) ≡ false) same (ap is_gt (number_equal number))
  | inr (inr more) ↦ absurd (omega (arith, low, more))
]

-- ---- tests of rows

next_past : (bic : List ℕ) (after number : ℕ) (m : Sent) → after < number → passes_all (by_bic ∷ past ∷ []) (Words bic ∷ Int (pos after) ∷ []) (stored number m) ≡ bytes_eq m.bic bic
unfolding binary
next_past bic after number m high = rw (text_test m.bic bic, past_test after number high) (and_true (bytes_eq m.bic bic))

next_passed : (bic : List ℕ) (after number : ℕ) (m : Sent) → number ≤ after → passes_all (by_bic ∷ past ∷ []) (Words bic ∷ Int (pos after) ∷ []) (stored number m) ≡ false
unfolding binary
next_passed bic after number m low = rw (text_test m.bic bic, passed_test after number low) (and-false (bytes_eq m.bic bic))

number_test : (at : ℕ) → at < 2 ^ 64 → (number : ℕ) (m : Sent) → number < 2 ^ 63 → passes_all (by_number ∷ []) (Int (cast_signed w64 at) ∷ []) (stored number m) ≡ (number == at)
unfolding binary
number_test at fits number m low = rw (int_test (pos number) (cast_signed w64 at), pos_test number at low fits) (and_true (number == at))

confirming : (a b c : Bool) → (a && (b && (c && true))) ≡ ((b && c) && a)
confirming true true c = and_true c ∙ sym (and_true c)
confirming true false c = refl
confirming false true true = refl
confirming false true false = refl
confirming false false c = refl

confirms_test : (n : ℕ) → n < 2 ^ 64 → (number : ℕ) (m : Sent) → m.about < 2 ^ 64
    → passes_all (by_about ∷ from_544 ∷ to_547 ∷ []) (Int (cast_signed w64 n) ∷ []) (stored number m) ≡ confirms_it n m
unfolding binary
confirms_test n fits number m low =
    rw (int_test (cast_signed w64 m.about) (cast_signed w64 n), signed_test m.about n low fits, at_least_test m.mt 544, at_most m.mt 547)
    (confirming (m.about == n) (nat_le 544 m.mt) (nat_le m.mt 547))

-- ---- the last of some rows

greatest : (last : ℕ) (mine rows : List Row) → IsFirst mine [] (col 1 0 ∷ []) (col 1 0) falling rows → HasLast last mine → AllByRecursion (IsUpTo last) mine → IsLast rows last
greatest last mine rows (inl none) (inl empty) all = record { found = None; shown = none.0; is = sym empty.1 }
greatest last mine rows (inl none) (inr some) all = absurd (subst (λ xs. Among xs some.0) none.1 some.1)
greatest last mine rows (inr one) (inl empty) all = absurd (subst (λ xs. Among xs one.0) empty.0 one.1)
greatest last mine rows (inr one) (inr some) all =
    let it = at_among (IsUpTo last) mine all one.0 one.1 in
    let least = one.3 some.0 some.1 in
    let high = not_less it.0 last (rw (it.1, some.2) at least) in
    record { found = Some last; shown = one.2 ∙ ap (λ v. (v ∷ []) ∷ []) (it.1 ∙ ap (λ n. Int (pos n)) (omega (arith, high, it.2))); is = refl }

-- ---- the first of some rows

-- some columns of the first row
abbrev first_shown : List Term → Row → List Row → List Row
first_shown shown params [] = []
first_shown shown params (r ∷ rest) = eval_all shown (params ∷ r ∷ []) ∷ []

least_shown : (shown : List Term) (mine : List Row) (params : Row) (rows : List Row) → IsTable mine → IsFirst mine params shown (col 1 0) rising rows → rows ≡ first_shown shown params mine
least_shown shown [] params rows rise (inl none) = none.0
least_shown shown [] params rows rise (inr one) = absurd one.1
least_shown shown (r ∷ rest) params rows rise (inl none) = absurd (let e = none.1 in cc)
least_shown shown (r ∷ rest) params rows rise (inr one) = elim one.1 [
  | inl here ↦ one.2 ∙ ap (λ x. eval_all shown (params ∷ x ∷ []) ∷ []) here
  | inr later ↦ absurd (
      let less = ap is_lt (at_among (λ x. value_cmp (rowid r) (rowid x) ≡ Less) rest rise.0 one.0 later) in
      let not_less' = one.3 r (inl refl) in
      let f : true ≡ false = sym less ∙ not_less' in cc)
]

message_first : (mine : List Row) (params : Row) (rows : List Row) (o : Option Sent) → rows ≡ first_shown message_columns params mine → BeginsWith mine o → IsMessage rows o
message_first mine params rows None is empty = is ∙ ap (first_shown message_columns params) empty
message_first mine params rows (Some m) is it = (is ∙ ap (first_shown message_columns params) it.1.2 ∙ ap (λ r. eval_all message_columns (params ∷ r ∷ []) ∷ []) it.1.3.1, it.0)

number_first : (mine : List Row) (params : Row) (rows : List Row) (o : Option ℕ) → rows ≡ first_shown (col 1 0 ∷ []) params mine → BeginsAt mine o → rows ≡ number_rows o
number_first mine params rows None is empty = is ∙ ap (first_shown (col 1 0 ∷ []) params) empty
number_first mine params rows (Some n) is it = is ∙ ap (first_shown (col 1 0 ∷ []) params) it.2

one_shown : (mine : List Row) (params : Row) (rows : List Row) (o : Option Sent) → AreRowsOf mine o → IsPermutation (map (λ row. eval_all message_columns (params ∷ row ∷ [])) mine) rows → IsMessage rows o
one_shown mine params rows None empty same =
    let none : IsPermutation [] rows = subst (λ xs. IsPermutation (map (λ (row : Row). eval_all message_columns (params ∷ row ∷ [])) xs) rows) empty same in
    nil_from_length rows (length_permutation [] rows none)
one_shown mine params rows (Some m) it same =
    let one : IsPermutation (eval_all message_columns (params ∷ it.1.0 ∷ []) ∷ []) rows = subst (λ xs. IsPermutation (map (λ (row : Row). eval_all message_columns (params ∷ row ∷ [])) xs) rows) it.1.1 same in
    (one_permutation _ rows one ∙ ap (λ r. eval_all message_columns (params ∷ r ∷ []) ∷ []) it.1.2.1, it.0)

module _ (old new : State) (has : old.now.schema ≡ desk_schema) (messages : List Sent) (are : AreSent old.now messages) where
  rising_mine : (test : Row → Bool) → IsTable (filter test (rows_from 1 messages))
  rising_mine test = ascending-filter (λ a b. value_cmp (rowid a) (rowid b) ≡ Less) test (rows_from 1 messages) (rows_rise 1 messages)

  pub numbers_shown : (rows : List Row) → Shown number_text [] old new rows → IsLast rows (length messages)
  numbers_shown rows h =
      let answers = reads_as number_text [] old new desk_schema has _ number_is number_query.plain number_query.unlisted rows h in
      let first = first_row 9 [] (col 1 0 ∷ []) (col 1 0) falling (overlay old.now.trees []) [] rows (answers.answer Null) in
      let mine = all_kept (old.now.trees 9) ∙ are.rows in
      greatest (length messages) (rows_from 1 messages) rows (subst (λ xs. IsFirst xs [] (col 1 0 ∷ []) (col 1 0) falling rows) mine first) (has_last_number messages) (numbers_up_to (length messages) 0 messages (omega arith))

  pub next_shown : (bic : List ℕ) (after : ℕ) → after < 2 ^ 63 → (rows : List Row) → Shown next_text (Words bic ∷ Int (cast_signed w64 after) ∷ []) old new rows → ShowsNext messages bic after rows
  next_shown bic after low rows h =
      let params : Row = Words bic ∷ Int (pos after) ∷ [] in
      let shown : Shown next_text params old new rows = subst (λ z. Shown next_text (Words bic ∷ Int z ∷ []) old new rows) (to_z_pos w64 after low) h in
      let answers = reads_as next_text params old new desk_schema has _ next_is next_query.plain next_query.unlisted rows shown in
      let test = passes_all (by_bic ∷ past ∷ []) params in
      let first = first_row 9 (by_bic ∷ past ∷ []) (col 1 0 ∷ []) (col 1 0) rising (overlay old.now.trees []) params rows (answers.answer Null) in
      let mine = filter test (rows_from 1 messages) in
      let is = least_shown (col 1 0 ∷ []) mine params rows (rising_mine test) (subst (λ xs. IsFirst (filter test xs) params (col 1 0 ∷ []) (col 1 0) rising rows) are.rows first) in
      let it = next_row bic after test (next_past bic after) (next_passed bic after) messages in
      record { found = it.0; shown = number_first mine params rows it.0 is it.1; is = it.2 }

  pub message_shown : (at : ℕ) → at < 2 ^ 64 → (rows : List Row) → Shown message_text (Int (cast_signed w64 at) ∷ []) old new rows → IsMessage rows (sent_at messages at)
  message_shown at fits rows h =
      let params : Row = Int (cast_signed w64 at) ∷ [] in
      let answers = reads_as message_text params old new desk_schema has _ message_is message_query.plain message_query.unlisted rows h in
      let test = passes_all (by_number ∷ []) params in
      let some = plain_rows 9 (by_number ∷ []) message_columns (overlay old.now.trees []) params rows (answers.answer Null) in
      let found = found_at at test (length messages) (λ number m low. number_test at fits number m (omega (arith, are.few, low))) messages are.fit (omega arith) in
      one_shown (filter test (rows_from 1 messages)) params rows (sent_at messages at) found
      (subst (λ xs. IsPermutation (map (λ (row : Row). eval_all message_columns (params ∷ row ∷ [])) (filter test xs)) rows) are.rows some)

  pub confirmation_shown : (n : ℕ) → n < 2 ^ 64 → (rows : List Row) → Shown confirmation_text (Int (cast_signed w64 n) ∷ []) old new rows → IsMessage rows (find (confirms_it n) messages)
  confirmation_shown n fits rows h =
      let params : Row = Int (cast_signed w64 n) ∷ [] in
      let answers = reads_as confirmation_text params old new desk_schema has _ confirmation_is confirmation_query.plain confirmation_query.unlisted rows h in
      let test = passes_all (by_about ∷ from_544 ∷ to_547 ∷ []) params in
      let first = first_row 9 (by_about ∷ from_544 ∷ to_547 ∷ []) message_columns (col 1 0) rising (overlay old.now.trees []) params rows (answers.answer Null) in
      let mine = filter test (rows_from 1 messages) in
      let is = least_shown message_columns mine params rows (rising_mine test) (subst (λ xs. IsFirst (filter test xs) params message_columns (col 1 0) rising rows) are.rows first) in
      message_first mine params rows (find (confirms_it n) messages) is (found_first (confirms_it n) test (confirms_test n fits) 1 messages are.fit)

-- The table is the list that was sent.
use Rattle.std.proofs.Common.{◌≡◌, inl, inr, ℕ, zero, suc, ◌+◌, ◌<◌, ◌≤◌, ◌==◌, ◌^◌, List, [], ◌∷◌, ◌++◌, length, filter, slice_get, option_map, Bool, Option, Some, None, IsTrue, Ok, Err, Result, IfOk, refl, sym, ap, subst, ◌∙◌, arith, length-append}
use Rattle.std.specs.List.{AllByRecursion}
use Rattle.std.proofs.lemmas.Bool.{cases_lt, eqb-true}
use Rattle.std.proofs.lemmas.List.{append_assoc}
use Rattle.std.proofs.lemmas.Option.{slice_get-get_or}
use Rattle.sqlite.specs.Effect.{Database}
use Rattle.sqlite.specs.declared.types.Value.TheVariants.{Null}
use Rattle.sqlite.specs.Order.{Row}
use Rattle.desk_rules.specs.declared.answers.reply.Sent.{Sent}
use Rattle.desk_rules.specs.Content.{Content}
use Rattle.desk_rules.specs.Questions.{sent_at}
use Rattle.sql_tables.specs.Queries.{Among}
use Rattle.sql_tables.specs.Schema.{desk_schema, sent_table}
use Rattle.sql_tables.specs.Forms.{AreAllFormed}
use Rattle.sql_tables.specs.Order.{AreInOrder}
use Rattle.sql_tables.proofs.QueryLemmas.{among_filter}
use Rattle.sql_rows.specs.Messages.{rows_from, stored, AreSent}
use Rattle.sql_rows.proofs.SentRowLemmas.{dropped, found_at, AreRowsOf}
use Rattle.sql_tables.specs.declared.fault.AuditFault.{AuditFault}
use Rattle.sql_tables.specs.ByNumber.{has_number, is_above, is_below, HasEach, HasNoOther}
use Rattle.sql_tables.specs.Numbered.{and_row, numbered_from, row_with}
use Rattle.sql_tables.proofs.ByNumberLemmas.{is_not_above, is_not_below, number_told, same_list}
use Rattle.sql_rows.specs.SentTold.{values_of, AreTold, IsTold}

pub told_next : (rows : List Row) (messages : List Sent) (n : ℕ) → AreTold rows messages n → IsTold rows messages (n + 1) → AreTold rows messages (n + 1)
told_next rows messages n before here m some high = elim (cases_lt n m) [
  | inl above ↦ (let same : n + 1 ≡ m = omega (arith, above, high) in subst (λ k. IsTold rows messages k) same here)
  | inr within ↦ before m some within
]

-- ---- the rows that messages make

abbrev wanted : List Sent → ℕ → Option Row
wanted messages n = option_map values_of (sent_at messages n)

each_told : (rows : List Row) (messages : List Sent) (count : ℕ) → AreTold rows messages count → HasEach (wanted messages) rows count
each_told rows messages count told = record { each = λ m low high. (let it = told m low high in (values_of it.message, ap (option_map values_of) it.is, it.row)) }

-- ---- and these are the rows of the definition

behind : (before : List Sent) (x : Sent) (more : List Sent) → slice_get (before ++ x ∷ more) (length before) ≡ Some x
behind [] x more = refl
behind (y ∷ before) x more = behind before x more

made_after : (before more : List Sent) → numbered_from (wanted (before ++ more)) (length before) (length more) ≡ rows_from (length before + 1) more
made_after before [] = refl
made_after before (x ∷ more) =
    let here : wanted (before ++ x ∷ more) (suc (length before)) ≡ Some (values_of x) = ap (option_map values_of) (behind before x more) in
    let longer : length (before ++ x ∷ []) ≡ suc (length before) = (let e = length-append before (x ∷ []) in omega arith) in
    let number : suc (length before) ≡ length before + 1 = omega arith in
    let rest : numbered_from (wanted (before ++ x ∷ more)) (suc (length before)) (length more) ≡ rows_from (suc (length before) + 1) more =
    ap (λ n. numbered_from (wanted (before ++ x ∷ more)) n (length more)) (sym longer) ∙ ap (λ ms. numbered_from (wanted ms) (length (before ++ x ∷ [])) (length more)) (sym (append_assoc before (x ∷ []) more)) ∙ made_after (before ++ x ∷ []) more ∙ ap (λ n. rows_from (n + 1) more) longer in
    ap (λ w. and_row (suc (length before)) w (numbered_from (wanted (before ++ x ∷ more)) (suc (length before)) (length more))) here
    ∙ ap (λ rs. row_with (suc (length before)) (values_of x) ∷ rs) rest
    ∙ ap (λ n. row_with n (values_of x) ∷ rows_from (n + 1) more) number

-- ---- the numbers that they are about fit

fit_after : (rows : List Row) (before more : List Sent) → ((n : ℕ) → length before < n → n ≤ length before + length more → IsTold rows (before ++ more) n) → AllByRecursion (λ (m : Sent). m.about < 2 ^ 64) more
fit_after rows before [] told = tt
fit_after rows before (x ∷ more) told =
    let it = told (suc (length before)) (omega arith) (omega arith) in
    let both : Some it.message ≡ Some x = sym it.is ∙ behind before x more in
    let same : it.message ≡ x = cc in
    let size = length-append before (x ∷ []) in (
      subst (λ (m : Sent). m.about < 2 ^ 64) same it.fits,
      fit_after rows (before ++ x ∷ []) more (λ n low high. subst (λ (ms : List Sent). IsTold rows ms n) (sym (append_assoc before (x ∷ []) more)) (told n (omega (arith, low, size)) (omega (arith, high, size)))),
    )

pub finish : (db : Database) (content : Content) (count : ℕ) (r : Result Bool AuditFault) → count ≡ length content.sent → count < 2 ^ 63 → AreInOrder desk_schema db.trees → AreAllFormed db.trees → HasNoOther (db.trees 9) count
    → IfOk r (λ ok. IsTrue ok → AreTold (db.trees 9) content.sent count) → IfOk r (λ ok. IsTrue ok → AreSent db content.sent)
finish db content count (Ok ok) is few order formed none told = λ yes. record {
  rows = same_list (wanted content.sent) sent_table (db.trees 9) count (each_told (db.trees 9) content.sent count (told yes)) none (order sent_table (inr (inr (inr (inr (inr (inl refl))))))).0 formed.1.1.1.1.1.0.each
      ∙ ap (λ n. numbered_from (wanted content.sent) 0 n) is ∙ made_after [] content.sent;
  few = subst (λ n. n < 2 ^ 63) is few;
  fit = fit_after (db.trees 9) [] content.sent (λ n low high. told yes n low (omega (arith, high, is)));
}
finish db content count (Err e) is few order formed none told = tt

-- ---- and a list that was sent is found to be the table

none_above : (count before : ℕ) (messages : List Sent) → before + length messages ≤ count → filter (is_above count) (rows_from (before + 1) messages) ≡ []
none_above count before [] high = refl
none_above count before (m ∷ ms) high =
    dropped (is_above count) (stored (before + 1) m) (rows_from (before + 1 + 1) ms) (is_not_above (before + 1) count (Null ∷ values_of m) (omega (arith, high))) ∙ none_above count (before + 1) ms (omega (arith, high))

none_below : (before : ℕ) (messages : List Sent) → filter (is_below 1) (rows_from (before + 1) messages) ≡ []
none_below before [] = refl
none_below before (m ∷ ms) = dropped (is_below 1) (stored (before + 1) m) (rows_from (before + 1 + 1) ms) (is_not_below (before + 1) (Null ∷ values_of m) (omega arith)) ∙ none_below (before + 1) ms

pub no_other : (db : Database) (messages : List Sent) → AreSent db messages → HasNoOther (db.trees 9) (length messages)
no_other db messages are = record {
  above = ap (filter (is_above (length messages))) are.rows ∙ none_above (length messages) 0 messages (omega arith);
  below = ap (filter (is_below 1)) are.rows ∙ none_below 0 messages;
}

row_told : (db : Database) (messages : List Sent) (number : ℕ) (o : Option Sent) → AreSent db messages → sent_at messages number ≡ o → AreRowsOf (filter (has_number number) (rows_from 1 messages)) o → 0 < number → number ≤ length messages
    → IsTold (db.trees 9) messages number
row_told db messages number None are is found some high = absurd (there messages number some high is)
  where
    there : (messages : List Sent) (number : ℕ) → 0 < number → number ≤ length messages → sent_at messages number ≡ None → ⊥
    there messages zero some high none = omega (arith, some)
    there [] (suc k) some high none = omega (arith, high)
    there (m ∷ ms) (suc k) some high none = let at : slice_get (m ∷ ms) k ≡ Some _ = slice_get-get_or (m ∷ ms) k m (omega (arith, high)) in absurd (cc)
row_told db messages number (Some m) are is found some high =
    let row = found.1.0 in
    let mine = filter (has_number number) (rows_from 1 messages) in
    let own = found.1.2 in
    let passes = (among_filter (has_number number) (rows_from 1 messages) row (subst (λ rows. Among rows row) (sym found.1.1) (inl refl))).1 in
    let same : own.0 ≡ number = eqb-true own.0 number (sym (number_told own.0 number (Null ∷ values_of m)) ∙ ap (has_number number) (sym own.1) ∙ passes) in
    record {
      message = m;
      is = is;
      row = ap (filter (has_number number)) are.rows ∙ found.1.1 ∙ ap (λ r. r ∷ []) (own.1 ∙ ap (λ n. stored n m) same);
      fits = found.0;
    }

pub all_told : (db : Database) (messages : List Sent) → AreSent db messages → AreTold (db.trees 9) messages (length messages)
all_told db messages are number some high =
    row_told db messages number (sent_at messages number) are refl (found_at number (has_number number) (length messages) (λ n m low. number_told n number (Null ∷ values_of m)) messages are.fit (omega arith)) some high

-- in the form of a call's answer
pub found : (db : Database) (content : Content) (count : ℕ) (r : Result Bool AuditFault) → count ≡ length content.sent → IfOk r (λ ok. AreTold (db.trees 9) content.sent count → IsTrue ok) → IfOk r (λ ok. AreSent db content.sent → IsTrue ok)
found db content count (Ok ok) is told = λ are. told (subst (AreTold (db.trees 9) content.sent) (sym is) (all_told db content.sent are))
found db content count (Err e) is told = tt

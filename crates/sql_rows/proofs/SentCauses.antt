-- Why a statement on the table of messages fails.
use Rattle.std.proofs.Common.{◌≡◌, ℕ, ◌+◌, ℤ, pos, List, [], ◌∷◌, length, true, false, not, ◌&&◌, Ok, Err, Result, IfErr, IsTrue, Vec, refl, sym, ap, subst, arith}
use Rattle.std.specs.List.{AllByRecursion, list_any}
use Rattle.std.specs.Ordering.{is_eq}
use Rattle.std.specs.declared.alloc.Global.{Global}
use Rattle.std.specs.declared.cmp.Ordering.TheVariants.{Less}
use Rattle.sqlite.specs.Order.{Row, value_cmp}
use Rattle.sqlite.specs.declared.types.Value.TheVariants.{Int, Text as Words}
use Rattle.sqlite.specs.declared.error.Error.{Error}
use Rattle.sqlite.specs.Effect.{IsDatabase}
use Rattle.sqlite.specs.Edit.{edit_of}
use Rattle.sqlite.specs.Rowids.TheVariants.{Chosen}
use Rattle.sqlite.specs.State.{State, Executes, FailsToQuery}
use Rattle.sqlite.specs.Tree.{Trees, put_row, rowid}
use Rattle.sqlite_schema.specs.Rules.{Keeps}
use Rattle.sqlite_schema.specs.declared.schema.Constraint.TheVariants.{Unique}
use Rattle.desk_rules.specs.declared.answers.reply.Sent.{Sent}
use Rattle.sql_tables.specs.Schema.{desk_schema, sent_table}
use Rattle.sql_tables.specs.Ends.{ForCause}
use Rattle.sql_tables.proofs.BlameLemmas.{IsAllowed, insert_caused, query_caused}
use Rattle.sql_tables.proofs.UniqueLemmas.{unique_sent}
use Rattle.sql_rows.specs.Messages.{AreSent, rows_from, stored}
use Rattle.sql_rows.proofs.SentMeanings.{number_text, number_is, number_query, number_whole, number_typed, next_text, next_is, next_query, next_whole, next_typed, message_text, message_is, message_query, message_whole, message_typed, confirmation_text, confirmation_is, confirmation_query, confirmation_whole, confirmation_typed, insert_text, insert_terms, insert_is, insert_whole}
use Rattle.sql_rows.proofs.SentRowLemmas.{all_below}
use Rattle.sql_rows.proofs.InsertLemmas.{message_news, message_params}

-- ---- what is put in obeys the table

-- no row has a number above all
none_taken : (n : ℕ) (rows : List Row) → AllByRecursion (λ r. value_cmp (rowid r) (Int (pos n)) ≡ Less) rows → list_any (λ r. is_eq (value_cmp (rowid r) (Int (pos n)))) rows ≡ false
none_taken n [] low = refl
none_taken n (r ∷ rows) low = rw low.0 (none_taken n rows low.1)

message_allowed : (db : Trees) (messages : List Sent) (m : Sent) (news : List Row) → db 9 ≡ rows_from 1 messages → Keeps Unique desk_schema db → news ≡ stored (length messages + 1) m ∷ [] → IsAllowed db (record { table = sent_table; gone = []; news = news })
message_allowed db messages m news are kept is =
    let number = length messages + 1 in
    let taken : list_any (λ r. is_eq (value_cmp (rowid r) (Int (pos number)))) (db 9) ≡ false = subst (λ rows. list_any (λ r. is_eq (value_cmp (rowid r) (Int (pos number)))) rows ≡ false) (sym are) (none_taken number (rows_from 1 messages) (all_below number 1 messages (omega arith))) in
    subst (λ news. IsAllowed db (record { table = sent_table; gone = []; news = news })) (sym is)
    (record { rowids = refl; typed = refl; present = refl; checked = refl; fresh = ap (λ b. not b && true) taken; unique = unique_sent db (put_row (stored number m) (db 9)) kept })

-- ---- each statement

module _ (old new : State) (has : old.now.schema ≡ desk_schema) (open' : IsTrue old.is_open) where
  pub numbers_caused : (r : Result (Vec Row Global) Error) → IfErr r (FailsToQuery number_text [] old new) → IfErr r (ForCause old new)
  numbers_caused r h = query_caused old new has open' number_text [] number_whole _ _ number_is number_query.unlisted number_typed refl refl r h

  pub next_caused : (bic : List ℕ) (after : ℤ) (r : Result (Vec Row Global) Error) → IfErr r (FailsToQuery next_text (Words bic ∷ Int after ∷ []) old new) → IfErr r (ForCause old new)
  next_caused bic after r h = query_caused old new has open' next_text (Words bic ∷ Int after ∷ []) next_whole _ _ next_is next_query.unlisted (next_typed bic after) refl refl r h

  pub found_caused : (number : ℤ) (r : Result (Vec Row Global) Error) → IfErr r (FailsToQuery message_text (Int number ∷ []) old new) → IfErr r (ForCause old new)
  found_caused number r h = query_caused old new has open' message_text (Int number ∷ []) message_whole _ _ message_is message_query.unlisted (message_typed number) refl refl r h

  pub confirmation_caused : (about : ℤ) (r : Result (Vec Row Global) Error) → IfErr r (FailsToQuery confirmation_text (Int about ∷ []) old new) → IfErr r (ForCause old new)
  confirmation_caused about r h = query_caused old new has open' confirmation_text (Int about ∷ []) confirmation_whole _ _ confirmation_is confirmation_query.unlisted (confirmation_typed about) refl refl r h

  pub message_caused : IsDatabase old.now → (messages : List Sent) (m : Sent) → AreSent old.now messages → (r : Result ℕ Error) → Executes insert_text (message_params (length messages + 1) m) old new r → IfErr r (ForCause old new)
  message_caused obeyed messages m are (Ok count) h = tt
  message_caused obeyed messages m are (Err e) h = λ unlimited.
      let number = length messages + 1 in
      let kept = subst (λ s. Keeps Unique s old.now.trees) has (obeyed.obeys.rules Unique) in
      insert_caused old new has open' unlimited insert_text (message_params number m) insert_whole 5 sent_table refl refl insert_terms 6 refl insert_is refl
      (λ rows is. message_allowed old.now.trees messages m (edit_of old.now.trees sent_table [] Chosen 0 rows).news are.rows kept (message_news old.now.trees number m rows is)) e h

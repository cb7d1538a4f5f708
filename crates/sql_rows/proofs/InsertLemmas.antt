-- What the text does that puts in a message.
use Rattle.std.proofs.Common.{◌≡◌, ℕ, ◌+◌, ◌<◌, ◌^◌, pos, List, [], ◌∷◌, ◌++◌, length, Ok, refl, sym, ap, ◌∙◌, arith, length-append}
use Rattle.std.specs.Int.{w64, cast_signed}
use Rattle.sqlite.specs.Order.{Row}
use Rattle.sqlite.specs.declared.types.Value.TheVariants.{Int, Text as Words}
use Rattle.sqlite.specs.Edit.{edit_of, put_all}
use Rattle.sqlite.specs.Rowids.TheVariants.{Chosen}
use Rattle.sqlite.specs.Effect.{value_rows}
use Rattle.sqlite.specs.Rows.{stamped}
use Rattle.sqlite.specs.Tree.{Trees, put_row}
use Rattle.sqlite.specs.State.{State, Executes}
use Rattle.desk_rules.specs.declared.answers.reply.Sent.{Sent}
use Rattle.sql_tables.specs.Schema.{desk_schema, sent_table}
use Rattle.sql_tables.specs.Ends.{SparesOthers}
use Rattle.sql_tables.proofs.ValueLemmas.{cast_int, cast_null}
use Rattle.sql_tables.proofs.EditLemmas.{inserts, put_last, spares}
use Rattle.sql_rows.specs.Messages.{stored, rows_from, AreSent, Adds}
use Rattle.sql_rows.proofs.SentMeanings.{insert_text, insert_terms, insert_is, insert_edit}
use Rattle.sql_rows.proofs.SentRowLemmas.{all_below, rows_more, all_more}

-- the row of a message, as it is written
abbrev pub message_params : ℕ → Sent → Row
message_params number m = Int (pos number) ∷ Words m.bic ∷ Int (pos m.mt) ∷ Int (cast_signed w64 m.about) ∷ Words m.text ∷ []

pub message_news : (db : Trees) (number : ℕ) (m : Sent) (rows : List Row) → rows ≡ value_rows (stamped sent_table (message_params number m)) 6 1 insert_terms
    → (edit_of db sent_table [] Chosen 0 rows).news ≡ stored number m ∷ []
message_news db number m rows is =
    ap (λ all. (edit_of db sent_table [] Chosen 0 all).news) is ∙ rw (cast_int (pos number), cast_null, cast_int (pos m.mt), cast_int (cast_signed w64 m.about)) refl

-- it comes last
pub message_last : (rows : List Row) (messages : List Sent) (m : Sent) → rows ≡ rows_from 1 messages → put_row (stored (length messages + 1) m) rows ≡ rows_from 1 (messages ++ m ∷ [])
message_last rows messages m are =
    let number = length messages + 1 in
    let same : number ≡ 1 + length messages = omega arith in
    ap (put_row (stored number m)) are ∙ put_last (stored number m) (rows_from 1 messages) (all_below number 1 messages (omega arith)) ∙ ap (λ n. rows_from 1 messages ++ stored n m ∷ []) same ∙ sym (rows_more 1 messages m)

module _ (old new : State) (has : old.now.schema ≡ desk_schema) where
  -- a row of messages
  message_put : (number : ℕ) (m : Sent) (count : ℕ) → Executes insert_text (message_params number m) old new (Ok count)
      → (new.now.trees 9 ≡ put_row (stored number m) (old.now.trees 9)) × SparesOthers 9 10 old.now new.now
  message_put number m count h =
      let db = old.now.trees in
      let made = inserts old new has insert_text (message_params number m) count 5 sent_table refl insert_edit.plain h insert_terms 6 refl insert_is in
      let edit = edit_of db sent_table [] Chosen 0 made.0 in
      (made.2.rows ∙ ap (put_all (db 9)) (message_news db number m made.0 made.1), spares 9 10 old.now new.now edit (omega arith) (omega arith) made.2)

  pub adds : (messages : List Sent) (m : Sent) (count : ℕ) → AreSent old.now messages → m.about < 2 ^ 64 → length messages + 1 < 2 ^ 63
      → Executes insert_text (message_params (length messages + 1) m) old new (Ok count) → Adds old.now new.now messages m
  adds messages m count are fits few h =
      let it = message_put (length messages + 1) m count h in
      record {
        sent = record {
          rows = it.0 ∙ message_last (old.now.trees 9) messages m are.rows;
          few = omega (arith, few, length-append messages (m ∷ []));
          fit = all_more (λ (x : Sent). x.about < 2 ^ 64) messages m are.fit fits;
        };
        others = it.1;
      }

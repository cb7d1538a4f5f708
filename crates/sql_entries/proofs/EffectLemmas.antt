-- What the texts do to the register, and what they show of it.
use Rattle.std.proofs.Common.{◌≡◌, ℕ, ◌+◌, ◌/◌, ◌<◌, ◌^◌, zero, suc, pos, List, [], ◌∷◌, length, length-append, Option, None, Some, Ok, Err, Result, IfOk, Vec, option_map, refl, sym, ap, ◌∙◌, arith}
use Rattle.std.specs.declared.alloc.Global.{Global}
use Rattle.std.proofs.lemmas.Option.{slice_get-map, slice_get_past}
use Rattle.sqlite.specs.Order.{Row}
use Rattle.sqlite.specs.declared.types.Value.TheVariants.{Null, Int}
use Rattle.sqlite.specs.declared.error.Error.{Error}
use Rattle.sqlite.specs.Cast.{cast}
use Rattle.sqlite.specs.Kind.TheVariants.{Integer}
use Rattle.sqlite.specs.Edit.{edit_of, put_all}
use Rattle.sqlite.specs.Rowids.TheVariants.{Chosen}
use Rattle.sqlite.specs.Tree.{Trees, put_row}
use Rattle.sqlite.specs.Effect.{value_rows}
use Rattle.sqlite.specs.Rows.{stamped}
use Rattle.sqlite.specs.Program.{overlay}
use Rattle.sqlite.specs.Term.{col}
use Rattle.sqlite.specs.State.{State, Executes, Shown}
use Rattle.sqlite.proofs.Callers.{reads_as}
use Rattle.desk_rules.specs.declared.history.entry.Entry.{Entry}
use Rattle.desk_rules.specs.declared.answers.reply.Kept.{Kept}
use Rattle.desk_rules.specs.declared.answers.reply.Reply.{Reply}
use Rattle.desk_rules.specs.History.{entry_at}
use Rattle.desk_register.specs.Looked.{kept_at}
use Rattle.sql_tables.specs.Schema.{desk_schema, register_table}
use Rattle.sql_tables.specs.Queries.{falling}
use Rattle.sql_tables.proofs.QueryLemmas.{plain_rows, first_row}
use Rattle.sql_tables.proofs.EditLemmas.{inserts, spares}
use Rattle.sql_tables.proofs.ValueLemmas.{cast_int, cast_null}
use Rattle.sql_entries.specs.Columns.{columns_of, kind_number}
use Rattle.sql_entries.specs.Entries.{AreEntries, EntryAdded, entries_in, given, row_of, rows_from, type_value, with_entry}
use Rattle.sql_entries.specs.Shown.{count_rows, row_if, shown_entry, shown_reply}
use Rattle.sql_entries.proofs.TextLemmas.{insert_text, insert_terms, insert_is, insert_edit, last_text, last_is, lasts, entry_text, entry_terms, entry_is, entries, reply_text, reply_terms, reply_is, replies, by_number}
use Rattle.sql_entries.proofs.RegisterLemmas.{last_shown, one_more, shows_number}

-- ---- one entry more

cast_type : (mt : Option ℕ) → cast Integer (type_value mt) ≡ type_value mt
cast_type None = cast_null
cast_type (Some mt) = cast_int (pos mt)

-- what is given is the row
pub given_row : (db : Trees) (number : ℕ) (entry : Entry) (reply : Reply) (rows : List Row) → rows ≡ value_rows (stamped register_table (given number entry reply)) 22 (length insert_terms / 22) insert_terms
    → (edit_of db register_table [] Chosen 0 rows).news ≡ row_of number entry reply ∷ []
given_row db number entry reply rows is =
    ap (λ all. (edit_of db register_table [] Chosen 0 all).news) is
    ∙ rw (cast_int (pos number), cast_null, cast_int (pos (kind_number entry)), cast_int (pos (columns_of entry).quantity), cast_int (pos (columns_of entry).amount), cast_int (pos (columns_of entry).rule), cast_int (pos (columns_of entry).mt), cast_int (pos reply.status), cast_type reply.mt) refl

module _ (old new : State) (register : List Kept) (has : old.now.schema ≡ desk_schema) (are : AreEntries old.now register) where
  pub added : (entry : Entry) (reply : Reply) (number count : ℕ) → number ≡ length register + 1 → number < 2 ^ 63 → Executes insert_text (given number entry reply) old new (Ok count) → EntryAdded old.now new.now register entry reply
  added entry reply number count is small h =
      let params = given number entry reply in
      let db = old.now.trees in
      let made = inserts old new has insert_text params count 3 register_table refl insert_edit.plain h insert_terms 22 refl insert_is in
      let edit = edit_of db register_table [] Chosen 0 made.0 in
      let news : edit.news ≡ row_of number entry reply ∷ [] = given_row db number entry reply made.0 made.1 in
      let kept : Kept = record { entry = entry; reply = reply } in
      let last : put_row (row_of number entry reply) (db 6) ≡ rows_from 0 (with_entry register entry reply) = ap (put_row (row_of number entry reply)) are.rows ∙ one_more register number kept is in
      let more : length (with_entry register entry reply) ≡ length register + 1 = length-append register (kept ∷ []) in
      record {
        entries = record { rows = made.2.rows ∙ ap (put_all (db 6)) news ∙ last; few = omega arith };
        spares = spares 6 8 old.now new.now edit (omega arith) (omega arith) made.2;
      }

  -- ---- what is shown

  count_is : (rows : List Row) → Shown last_text [] old new rows → rows ≡ count_rows (length register)
  count_is rows h =
      let answers = reads_as last_text [] old new desk_schema has _ last_is lasts.plain lasts.unlisted rows h in
      last_shown register (old.now.trees 6) rows are.rows (first_row 6 [] (col 1 0 ∷ []) (col 1 0) falling (overlay old.now.trees []) [] rows (answers.answer Null))

  entry_shown : (number : ℕ) (rows : List Row) → Shown entry_text (Int (pos number) ∷ []) old new rows → rows ≡ row_if (λ kept. shown_entry kept.entry) (kept_at register number)
  entry_shown number rows h =
      let answers = reads_as entry_text (Int (pos number) ∷ []) old new desk_schema has _ entry_is entries.plain entries.unlisted rows h in
      shows_number entry_terms number (λ kept. shown_entry kept.entry) register (old.now.trees 6) rows are.rows (λ kept. refl)
      (plain_rows 6 (by_number ∷ []) entry_terms (overlay old.now.trees []) (Int (pos number) ∷ []) rows (answers.answer Null))

  reply_shown : (number : ℕ) (rows : List Row) → Shown reply_text (Int (pos number) ∷ []) old new rows → rows ≡ row_if (λ kept. shown_reply kept.reply) (kept_at register number)
  reply_shown number rows h =
      let answers = reads_as reply_text (Int (pos number) ∷ []) old new desk_schema has _ reply_is replies.plain replies.unlisted rows h in
      shows_number reply_terms number (λ kept. shown_reply kept.reply) register (old.now.trees 6) rows are.rows (λ kept. refl)
      (plain_rows 6 (by_number ∷ []) reply_terms (overlay old.now.trees []) (Int (pos number) ∷ []) rows (answers.answer Null))

  -- ---- the answers of the calls

  pub count_answers : (r : Result (Vec Row Global) Error) → IfOk r (λ rows. Shown last_text [] old new rows.items) → IfOk r (λ rows. rows.items ≡ count_rows (length register))
  count_answers (Ok rows) h = count_is rows.items h
  count_answers (Err e) h = tt

  pub entry_answers : (n : ℕ) (r : Result (Vec Row Global) Error) → IfOk r (λ rows. Shown entry_text (Int (pos n) ∷ []) old new rows.items)
      → IfOk r (λ rows. rows.items ≡ row_if (λ kept. shown_entry kept.entry) (kept_at register n))
  entry_answers n (Ok rows) h = entry_shown n rows.items h
  entry_answers n (Err e) h = tt

  pub reply_answers : (n : ℕ) (r : Result (Vec Row Global) Error) → IfOk r (λ rows. Shown reply_text (Int (pos n) ∷ []) old new rows.items)
      → IfOk r (λ rows. rows.items ≡ row_if (λ kept. shown_reply kept.reply) (kept_at register n))
  reply_answers n (Ok rows) h = reply_shown n rows.items h
  reply_answers n (Err e) h = tt

-- ---- the entry of a number, in the list

pub entry_of : (register : List Kept) (n : ℕ) → option_map (λ kept. kept.entry) (kept_at register n) ≡ entry_at (entries_in register) n
entry_of register zero = refl
entry_of register (suc n) = sym (slice_get-map (λ (kept : Kept). kept.entry) register n)

pub kept_past : (register : List Kept) (n : ℕ) → length register < n → kept_at register n ≡ None
kept_past register zero past = refl
kept_past register (suc n) past = slice_get_past register n (omega arith)

-- Why an entry is not put in.
use Rattle.std.proofs.Common.{◌≡◌, ℕ, ◌+◌, pos, List, [], ◌∷◌, ◌++◌, length, true, false, not, ◌&&◌, None, Some, Ok, Err, Option, Result, IfErr, IsTrue, refl, sym, ap, subst, ◌∙◌, arith}
use Rattle.std.specs.List.{AllByRecursion, list_any}
use Rattle.std.specs.Ordering.{is_eq}
use Rattle.std.specs.declared.cmp.Ordering.TheVariants.{Less}
use Rattle.std.proofs.lemmas.Bool.{or_from}
use Rattle.sqlite.specs.Order.{Row, value_cmp}
use Rattle.sqlite.specs.declared.types.Value.TheVariants.{Int}
use Rattle.sqlite.specs.declared.error.Error.{Error}
use Rattle.sqlite.specs.Effect.{IsDatabase}
use Rattle.sqlite.specs.Rows.{stamped}
use Rattle.sqlite.specs.State.{State, Executes}
use Rattle.sqlite.specs.Tree.{Trees, put_row, rowid, with_tree}
use Rattle.sqlite_schema.specs.Rules.{Keeps, passes}
use Rattle.sqlite_schema.specs.declared.schema.Constraint.TheVariants.{Datatype, NotNull, Unique}
use Rattle.sqlite_typing.specs.Types.{accepts_terms}
use Rattle.desk_rules.specs.declared.history.entry.Entry.{Entry}
use Rattle.desk_rules.specs.declared.answers.reply.Kept.{Kept}
use Rattle.desk_rules.specs.declared.answers.reply.Reply.{Reply}
use Rattle.desk_rules.specs.History.{number_of_key, reference_of, sender_of}
use Rattle.desk_rules.specs.WellFormed.{AreWellFormed, IsWellFormed}
use Rattle.desk_rules.proofs.Readable.{formed_spelt}
use Rattle.sql_tables.specs.Schema.{desk_schema, register_table}
use Rattle.sql_tables.specs.Ends.{ForCause}
use Rattle.sql_tables.proofs.BlameLemmas.{IsAllowed, insert_caused}
use Rattle.sql_tables.proofs.EditLemmas.{put_last}
use Rattle.sql_tables.proofs.UniqueLemmas.{unique_register}
use Rattle.sql_entries.specs.Entries.{AreEntries, entries_in, given, row_of, rows_from}
use Rattle.sql_entries.proofs.EffectLemmas.{given_row}
use Rattle.sql_entries.proofs.FormedLemmas.{are_spelt}
use Rattle.sql_entries.proofs.KeyLemmas.{IsNewKey, all_unique, new_key}
use Rattle.sql_entries.proofs.RegisterLemmas.{all_below}
use Rattle.sql_entries.proofs.TextLemmas.{insert_text, insert_terms, insert_is, insert_whole}

-- ---- the row has what its columns ask for

module _ (number : ℕ) (entry : Entry) where
  typed_row : (db : Trees) (status : ℕ) (mt : Option ℕ) (text : List ℕ) → passes Datatype desk_schema db register_table (row_of number entry (record { status = status; mt = mt; text = text })) ≡ true
  typed_row db status None text = refl
  typed_row db status (Some mt) text = refl

  present_row : (db : Trees) (status : ℕ) (mt : Option ℕ) (text : List ℕ) → passes NotNull desk_schema db register_table (row_of number entry (record { status = status; mt = mt; text = text })) ≡ true
  present_row db status None text = refl
  present_row db status (Some mt) text = refl

  typed_terms : (status : ℕ) (mt : Option ℕ) (text : List ℕ) → accepts_terms insert_terms (stamped register_table (given number entry (record { status = status; mt = mt; text = text }))) ≡ true
  typed_terms status None text = refl
  typed_terms status (Some mt) text = refl

-- ---- its number is not taken

none_taken : (number : ℕ) (rows : List Row) → AllByRecursion (λ row. value_cmp (rowid row) (Int (pos number)) ≡ Less) rows → list_any (λ row. is_eq (value_cmp (rowid row) (Int (pos number)))) rows ≡ false
none_taken number [] all = refl
none_taken number (row ∷ rows) all = or_from (is_eq (value_cmp (rowid row) (Int (pos number)))) _ (ap is_eq all.0) (none_taken number rows all.1)

module _ (old new : State) (has : old.now.schema ≡ desk_schema) (open' : IsTrue old.is_open) (obeyed : IsDatabase old.now) (register : List Kept) (are : AreEntries old.now register) where
  abbrev db : Trees
  db = old.now.trees

  kept : Keeps Unique desk_schema db
  kept = subst (λ s. Keeps Unique s db) has (obeyed.obeys.rules Unique)

  module _ (number : ℕ) (is : number ≡ length register + 1) (entry : Entry) (reply : Reply) (apart : IsNewKey entry register) where
    last : put_row (row_of number entry reply) (db 6) ≡ rows_from 0 register ++ row_of number entry reply ∷ []
    last = ap (put_row (row_of number entry reply)) are.rows ∙ put_last (row_of number entry reply) (rows_from 0 register) (all_below 0 number register (omega arith))

    unique : Keeps Unique desk_schema (with_tree db 6 (put_row (row_of number entry reply) (db 6)))
    unique = subst (λ rows. Keeps Unique desk_schema (with_tree db 6 rows)) (sym last) (unique_register db _ (all_unique entry reply number db register are.rows apart kept.1.1.1.0) kept)

    row_allowed : (news : List Row) → news ≡ row_of number entry reply ∷ [] → IsAllowed db (record { table = register_table; gone = []; news = news })
    row_allowed news one = subst (λ news. IsAllowed db (record { table = register_table; gone = []; news = news })) (sym one) (record {
      rowids = refl;
      typed = ap (λ b. b && true) (typed_row number entry db reply.status reply.mt reply.text);
      present = ap (λ b. b && true) (present_row number entry db reply.status reply.mt reply.text);
      checked = refl;
      fresh = ap (λ b. not b && true) (ap (list_any (λ row. is_eq (value_cmp (rowid row) (Int (pos number))))) are.rows ∙ none_taken number (rows_from 0 register) (all_below 0 number register (omega arith)));
      unique = unique;
    })

    put_caused : (r : Result ℕ Error) → Executes insert_text (given number entry reply) old new r → IfErr r (ForCause old new)
    put_caused (Ok count) h = tt
    put_caused (Err e) h = λ unlimited.
        insert_caused old new has open' unlimited insert_text (given number entry reply) insert_whole 3 register_table refl refl insert_terms 22 refl insert_is (typed_terms number entry reply.status reply.mt reply.text)
        (λ rows from. row_allowed _ (given_row db number entry reply rows from)) e h

  pub add_caused : (number : ℕ) → number ≡ length register + 1 → (entry : Entry) (reply : Reply) → IsWellFormed entry → AreWellFormed (entries_in register) → number_of_key (entries_in register) (sender_of entry) (reference_of entry) ≡ None
      → (r : Result ℕ Error) → Executes insert_text (given number entry reply) old new r → IfErr r (ForCause old new)
  add_caused number is entry reply formed all unused r h =
      put_caused number is entry reply (new_key entry (formed_spelt entry formed) 1 register (are_spelt (entries_in register) all) unused) r h

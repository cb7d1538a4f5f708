-- What the texts mean that read and say the version, and what the first shows.
use Rattle.std.proofs.Common.{◌≡◌, ◌&&◌, inl, inr, ℕ, pos, not, true, false, List, [], ◌∷◌, None, Some, Ok, Err, Option, Result, Vec, IfErr, IsTrue, refl, sym, ap, subst, ◌∙◌, arith, codes}
use Rattle.std.specs.List.{list_any}
use Rattle.std.specs.Ordering.{is_eq}
use Rattle.std.specs.declared.alloc.Global.{Global}
use Rattle.sqlite.specs.Effect.{Database, IsDatabase, value_rows}
use Rattle.sqlite.specs.Rows.{stamped}
use Rattle.sqlite.specs.declared.error.Error.{Error}
use Rattle.sqlite_schema.specs.Rules.{Keeps}
use Rattle.sqlite_schema.specs.declared.schema.Constraint.TheVariants.{Unique}
use Rattle.sqlite.specs.Order.{Row, value_cmp}
use Rattle.sqlite.specs.declared.types.Value.TheVariants.{Null, Int}
use Rattle.sqlite.specs.Term.{Term, lit, col, eval_all}
use Rattle.sqlite.specs.Command.TheVariants.{Select, Insert}
use Rattle.sqlite.specs.Source.TheVariants.{Values}
use Rattle.sqlite.specs.Listing.{understood}
use Rattle.sqlite.specs.Program.{overlay}
use Rattle.sqlite.specs.Edit.{edit_of, put_all}
use Rattle.sqlite.specs.Rowids.TheVariants.{Chosen}
use Rattle.sqlite.specs.Tree.{Trees, put_row, rowid}
use Rattle.sqlite.specs.State.{State, Executes, FailsToQuery, Shown}
use Rattle.sqlite.proofs.Callers.{command_of, reads_as}
use Rattle.sqlite_tied.specs.Compute.{everything}
use Rattle.sql_tables.specs.Schema.{desk_schema, version_table}
use Rattle.sql_tables.specs.Statements.{IsEdit, IsQuery}
use Rattle.sql_tables.specs.Ends.{ForCause, SparesOthers}
use Rattle.sql_tables.specs.Queries.{first_of, rising, Among, IsFirst}
use Rattle.sql_tables.specs.Rows.{number_rows}
use Rattle.sql_tables.specs.Version.{HasVersion, SayVersion, SetsVersion}
use Rattle.sql_tables.proofs.BlameLemmas.{IsAllowed, IsWhole, insert_caused, query_caused}
use Rattle.sql_tables.proofs.UniqueLemmas.{unique_version}
use Rattle.sql_tables.proofs.EditLemmas.{inserts, spares}
use Rattle.sql_tables.proofs.QueryLemmas.{all_kept, first_row}
use Rattle.sql_tables.proofs.ValueLemmas.{cast_int, cast_null}

abbrev pub version_text : List ℕ
version_text = codes "SELECT number FROM version ORDER BY number LIMIT 1"

abbrev pub set_text : List ℕ
set_text = codes "INSERT INTO version (number) VALUES (?1)"

abbrev pub set_terms : List Term
set_terms = col 0 0 ∷ lit Null ∷ []

pub version_is : command_of (understood desk_schema version_text) ≡ Select (record { lets = []; body = first_of 10 [] (col 1 0 ∷ []) (col 1 0) rising }) (codes "number" ∷ [])
unfolding understood everything
version_is = refl

pub version_query : IsQuery version_text
unfolding understood everything
version_query = record { selects = refl; plain = (refl, refl); unlisted = refl }

pub set_is : command_of (understood desk_schema set_text) ≡ Insert 6 (Values set_terms 2)
unfolding understood everything
set_is = refl

pub set_edit : IsEdit set_text
unfolding understood everything
set_edit = record { changes = refl; plain = (refl, refl) }

only : (number : Option ℕ) (held rows : List Row) → SayVersion held number → IsFirst held [] (col 1 0 ∷ []) (col 1 0) rising rows → rows ≡ number_rows number
only None held rows is (inl none) = none.0
only None held rows is (inr one) = absurd (subst (λ xs. Among xs one.0) is one.1)
only (Some number) held rows is (inl none) = absurd (let e = sym none.1 ∙ is.2 in cc)
only (Some number) held rows is (inr one) = elim (subst (λ xs. Among xs one.0) is.2 one.1) [
  | inl here ↦ one.2 ∙ ap (λ r. eval_all (col 1 0 ∷ []) ([] ∷ r ∷ []) ∷ []) here
  | inr later ↦ absurd later
]

pub version_shown : (old new : State) → old.now.schema ≡ desk_schema → (number : Option ℕ) → HasVersion old.now number → (rows : List Row) → Shown version_text [] old new rows → rows ≡ number_rows number
version_shown old new has number is rows h =
    let answers = reads_as version_text [] old new desk_schema has _ version_is version_query.plain version_query.unlisted rows h in
    let first = first_row 10 [] (col 1 0 ∷ []) (col 1 0) rising (overlay old.now.trees []) [] rows (answers.answer Null) in
    only number (old.now.trees 10) rows is (subst (λ xs. IsFirst xs [] (col 1 0 ∷ []) (col 1 0) rising rows) (all_kept (old.now.trees 10)) first)

module _ (old new : State) (has : old.now.schema ≡ desk_schema) where
  version_put : (number count : ℕ) → Executes set_text (Int (pos number) ∷ []) old new (Ok count)
      → (new.now.trees 10 ≡ put_row (Int (pos number) ∷ Null ∷ []) (old.now.trees 10)) × SparesOthers 10 11 old.now new.now
  version_put number count h =
      let params : Row = Int (pos number) ∷ [] in
      let db = old.now.trees in
      let made = inserts old new has set_text params count 6 version_table refl set_edit.plain h set_terms 2 refl set_is in
      let edit = edit_of db version_table [] Chosen 0 made.0 in
      let news : edit.news ≡ (Int (pos number) ∷ Null ∷ []) ∷ [] = ap (λ all. (edit_of db version_table [] Chosen 0 all).news) made.1 ∙ rw (cast_int (pos number), cast_null) refl in
      (made.2.rows ∙ ap (put_all (db 10)) news, spares 10 11 old.now new.now edit (omega arith) (omega arith) made.2)

  pub sets : (number count : ℕ) → HasVersion old.now None → Executes set_text (Int (pos number) ∷ []) old new (Ok count) → SetsVersion old.now new.now number
  sets number count none h =
      let it = version_put number count h in
      record { version = (Null ∷ [], inl refl, it.0 ∙ ap (put_row (Int (pos number) ∷ Null ∷ [])) none); others = it.1 }

-- ---- why they fail

version_whole : IsWhole version_text 0
unfolding understood everything
version_whole = record { plain = (refl, refl); whole = refl; width_is = refl }

set_whole : IsWhole set_text 1
unfolding understood everything
set_whole = record { plain = (refl, refl); whole = refl; width_is = refl }

abbrev row_of : ℕ → Row
row_of number = Int (pos number) ∷ Null ∷ []

version_news : (db : Trees) (number : ℕ) (rows : List Row) → rows ≡ value_rows (stamped version_table (Int (pos number) ∷ [])) 2 1 set_terms → (edit_of db version_table [] Chosen 0 rows).news ≡ row_of number ∷ []
version_news db number rows is = ap (λ all. (edit_of db version_table [] Chosen 0 all).news) is ∙ rw (cast_int (pos number), cast_null) refl

-- the only row obeys the table
version_allowed : (db : Trees) (number : ℕ) (news : List Row) → db 10 ≡ [] → Keeps Unique desk_schema db → news ≡ row_of number ∷ [] → IsAllowed db (record { table = version_table; gone = []; news = news })
version_allowed db number news none kept is =
    let taken : list_any (λ r. is_eq (value_cmp (rowid r) (Int (pos number)))) (db 10) ≡ false = ap (list_any (λ r. is_eq (value_cmp (rowid r) (Int (pos number))))) none in
    subst (λ news. IsAllowed db (record { table = version_table; gone = []; news = news })) (sym is)
    (record { rowids = refl; typed = refl; present = refl; checked = refl; fresh = ap (λ b. not b && true) taken; unique = unique_version db (put_row (row_of number) (db 10)) kept })

module _ (old new : State) (has : old.now.schema ≡ desk_schema) (open' : IsTrue old.is_open) where
  pub version_caused : (r : Result (Vec Row Global) Error) → IfErr r (FailsToQuery version_text [] old new) → IfErr r (ForCause old new)
  version_caused r h = query_caused old new has open' version_text [] version_whole _ _ version_is version_query.unlisted refl refl refl r h

  pub set_caused : IsDatabase old.now → (number : ℕ) → HasVersion old.now None → (r : Result ℕ Error) → Executes set_text (Int (pos number) ∷ []) old new r → IfErr r (ForCause old new)
  set_caused obeyed number none (Ok count) h = tt
  set_caused obeyed number none (Err e) h = λ unlimited.
      let kept = subst (λ s. Keeps Unique s old.now.trees) has (obeyed.obeys.rules Unique) in
      insert_caused old new has open' unlimited set_text (Int (pos number) ∷ []) set_whole 6 version_table refl refl set_terms 2 refl set_is refl
      (λ rows is. version_allowed old.now.trees number (edit_of old.now.trees version_table [] Chosen 0 rows).news none kept (version_news old.now.trees number rows is)) e h

-- a version that is read is no failure
pub read_caused : {E : Type 0} (r : Result (Option ℕ) E) (number : Option ℕ) (P : E → Type 0) → r ≡ Ok number → IfErr r P
read_caused r number P is = subst (λ r. IfErr r P) (sym is) tt

pub no_version : (db : Database) → db.trees 10 ≡ [] → HasVersion db None
no_version db empty = empty

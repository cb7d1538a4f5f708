-- What a text shows that queries one table, whichever it is: the rows that pass its tests.
use Rattle.std.proofs.Common.{◌≡◌, ◌↔◌, ℕ, List, [], ◌∷◌, length, map, filter, true, IsTrue, Ok, Err, Result, IfOk, IfErr, Vec, refl}
use Rattle.std.specs.declared.alloc.Global.{Global}
use Rattle.std.specs.List.Sorted.{IsPermutation}
use Rattle.sqlite.specs.declared.error.Error.{Error}
use Rattle.sqlite.specs.declared.types.Value.TheVariants.{Null}
use Rattle.sqlite.specs.Order.{Row}
use Rattle.sqlite.specs.Term.{Term, eval_all}
use Rattle.sqlite.specs.Command.TheVariants.{Select}
use Rattle.sqlite.specs.Listing.{understood}
use Rattle.sqlite.specs.Program.{overlay}
use Rattle.sqlite.specs.Schema.{Schema}
use Rattle.sqlite.specs.State.{State, FailsToQuery, Shown}
use Rattle.sqlite_typing.specs.Types.{accepts_program}
use Rattle.sqlite.proofs.Callers.{command_of, reads_as}
use Rattle.sql_tables.specs.Schema.{desk_schema}
use Rattle.sql_tables.specs.Statements.{IsQueryIn}
use Rattle.sql_tables.specs.Ends.{ForCause}
use Rattle.sql_tables.proofs.BlameLemmas.{IsWholeIn, query_caused_in}
use Rattle.sql_tables.specs.Queries.{passes_all, plain}
use Rattle.sql_tables.proofs.ByNumberLemmas.{nothing_shown, nothing_there}
use Rattle.sql_tables.proofs.QueryLemmas.{plain_rows}

-- a text is, over tables of a schema, the query of some columns of the rows of a tree that pass some tests
pub record IsPlainQueryIn (schema : Schema) (text : List ℕ) (tree : ℕ) (tests columns : List Term) : Type 0 where
  pub names : List (List ℕ)
  pub is : command_of (understood schema text) ≡ Select (record { lets = []; body = plain tree tests columns }) names
  pub query : IsQueryIn schema text

abbrev pub IsPlainQuery : List ℕ → ℕ → List Term → List Term → Type 0
IsPlainQuery = IsPlainQueryIn desk_schema

module _ {schema : Schema} {text : List ℕ} {tree : ℕ} {tests columns : List Term} (reads : IsPlainQueryIn schema text tree tests columns) (params : Row) (old new : State) (has : old.now.schema ≡ schema) where
  -- those rows are shown, in any order
  pub rows_shown : (r : Result (Vec Row Global) Error) → IfOk r (λ rows. Shown text params old new rows.items)
      → IfOk r (λ rows. IsPermutation (map (λ row. eval_all columns (params ∷ row ∷ [])) (filter (passes_all tests params) (overlay old.now.trees [] tree))) rows.items)
  rows_shown (Ok rows) h =
      let answers = reads_as text params old new schema has _ reads.is reads.query.plain reads.query.unlisted rows.items h in
      plain_rows tree tests columns (overlay old.now.trees []) params rows.items (answers.answer Null)
  rows_shown (Err e) h = tt

  -- so nothing is shown exactly where none passes
  pub none_shown : (r : Result (Vec Row Global) Error) → IfOk r (λ rows. Shown text params old new rows.items)
      → IfOk r (λ rows. rows.items ≡ [] ↔ filter (passes_all tests params) (overlay old.now.trees [] tree) ≡ [])
  none_shown (Ok rows) h =
      let mine = filter (passes_all tests params) (overlay old.now.trees [] tree) in
      let shown = rows_shown (Ok rows) h in
      (nothing_there _ mine rows.items shown, nothing_shown _ mine rows.items shown)
  none_shown (Err e) h = tt

  -- and where nothing is shown, none passes
  pub none_passes : (r : Result (Vec Row Global) Error) → IfOk r (λ rows. Shown text params old new rows.items)
      → IfOk r (λ rows. rows.items ≡ [] → filter (passes_all tests params) (overlay old.now.trees [] tree) ≡ [])
  none_passes (Ok rows) h = (none_shown (Ok rows) h).0
  none_passes (Err e) h = tt

  -- it fails for its cause alone
  pub plain_caused : IsTrue old.is_open → IsWholeIn schema text (length params) → accepts_program schema [] (plain tree tests columns) params ≡ true → (r : Result (Vec Row Global) Error) → IfErr r (FailsToQuery text params old new) → IfErr r (ForCause old new)
  plain_caused open' whole typed r h = query_caused_in schema old new has open' text params whole (plain tree tests columns) reads.names reads.is reads.query.unlisted typed refl refl r h

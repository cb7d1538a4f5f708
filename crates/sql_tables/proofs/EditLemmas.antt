-- What the statements do that change the rows of one table: of any table.
use Rattle.std.proofs.Common.{◌≡◌, ◌≢◌, inl, inr, ℕ, suc, ◌/◌, ◌<◌, ◌≤◌, List, [], ◌∷◌, ◌++◌, length, map, fold, drop, slice_get, Bool, true, false, cond, None, Some, Option, Ok, MatchBool, unwrap_or, refl, ap, subst, ◌∙◌, arith}
use Rattle.std.specs.List.{AllByRecursion}
use Rattle.std.specs.Ordering.{is_lt, int_cmp, match_ordering}
use Rattle.std.specs.declared.cmp.Ordering.TheVariants.{Less}
use Rattle.std.proofs.lemmas.List.{length-map}
use Rattle.sqlite.specs.Order.{Row, value_cmp}
use Rattle.sqlite.specs.declared.types.Value.TheVariants.{Null}
use Rattle.sqlite.specs.Term.{Term}
use Rattle.sqlite.specs.Query.{Query, IsAnswer}
use Rattle.sqlite.specs.Program.{overlay}
use Rattle.sqlite.specs.Tree.{Trees, put_row, rowid}
use Rattle.sqlite.specs.Table.{Table}
use Rattle.sqlite.specs.Cast.{cast_row}
use Rattle.sqlite.specs.Edit.{Edit, edit_of, edited, left_by, are_fresh, numbered, with_rowid, taken_by, IsNoIndex}
use Rattle.sqlite.specs.Rowids.{Rowids}
use Rattle.sqlite.specs.Rowids.TheVariants.{Chosen, Above, Given}
use Rattle.sqlite_rules.specs.Calls.{ids_of}
use Rattle.sqlite.specs.Command.{Command}
use Rattle.sqlite.specs.Command.TheVariants.{Insert, Update, Delete}
use Rattle.sqlite.specs.Source.TheVariants.{Values}
use Rattle.sqlite.specs.Does.{Tally, Does, AtPlace, OnRows, Concludes}
use Rattle.sqlite.specs.Rows.{Written, Task, Edited, Outcome, CountsIn, count_of, higher, sequence, stamped}
use Rattle.sqlite.specs.Effect.{Database, value_rows}
use Rattle.sqlite.specs.Listing.{understood}
use Rattle.sqlite.specs.State.{State, mode_of, Executes}
use Rattle.sqlite.proofs.Callers.{IsPlain, command_of, runs_as, one_step, statement_of}
use Rattle.sql_tables.specs.Schema.{desk_schema}
use Rattle.sql_tables.specs.Ends.{SparesOthers}
use Rattle.sql_tables.proofs.StatementLemmas.{went, same_value}

-- an edit of one table was made, and of the others none has changed
pub record IsEdited (old new : Database) (edit : Edit) : Type 0 where
  pub rows : new.trees edit.table.tree ≡ edited old.trees edit
  pub fresh : are_fresh (left_by old.trees edit) edit.news ≡ true
  pub others : (t : ℕ) → t ≢ edit.table.tree → IsNoIndex desk_schema t → new.trees t ≡ old.trees t

-- the tables that stand outside are as they were
pub spares : (first last : ℕ) (old new : Database) (edit : Edit) → first ≤ edit.table.tree → edit.table.tree < last → IsEdited old new edit → SparesOthers first last old new
spares first last old new edit low high it tree outside unindexed = it.others tree (λ is. elim outside [ inl under ↦ omega (arith, under, is, low) | inr over ↦ omega (arith, over, is, high) ]) unindexed

cast_length : (rowids : Rowids) (rows sources : List Row) → length (numbered rowids rows sources) ≡ length sources
cast_length rowids rows [] = refl
cast_length rowids rows (x ∷ xs) = ap suc (cast_length rowids (put_row (with_rowid rowids rows x) rows) xs)

module _ (old new : State) (has : old.now.schema ≡ desk_schema) (text : List ℕ) (params : Row) (count at : ℕ) (table : Table) (found : slice_get desk_schema.tables at ≡ Some table)
    (plain' : IsPlain (understood desk_schema text)) (h : Executes text params old new (Ok count)) where
  abbrev task : Task
  task = record { limit = old.step_limit; keys = (mode_of old).keys; schema = desk_schema; table = table; params = params }

  abbrev db : Trees
  db = old.now.trees

  on_found : (command : Command) (tally : Tally)
      → AtPlace (λ t. OnRows (record { limit = old.step_limit; keys = (mode_of old).keys; schema = desk_schema; table = t; params = params }) (mode_of old) None command db) (slice_get desk_schema.tables at) (Ok (tally, new.now))
      → OnRows task (mode_of old) None command db (Ok (tally, new.now))
  on_found command tally it =
      subst (λ f. AtPlace (λ t. OnRows (record { limit = old.step_limit; keys = (mode_of old).keys; schema = desk_schema; table = t; params = params }) (mode_of old) None command db) f (Ok (tally, new.now))) found it

  -- the tally and the database, of what was written
  ended : (w : Written) (tally : Tally) → Concludes task (mode_of old) None w (Ok (tally, new.now)) → (tally.rows ≡ Some (length w.rows)) × (new.now.trees ≡ w.trees)
  ended w tally it =
      let e = same_value (went (went it).2).2 in (
        ap (λ (p : Tally × Database). p.0.rows) e,
        ap (λ (p : Tally × Database). p.1.trees) e,
      )

  applied : (edit : Edit) (next : Trees) → Edited desk_schema (mode_of old).keys db edit (Ok next) → new.now.trees ≡ next → IsEdited old.now new.now edit
  applied edit next it to =
      let a = one_step desk_schema (mode_of old).keys db next edit refl it in
      record {
        rows = ap (λ (t : Trees). t edit.table.tree) to ∙ a.rows;
        fresh = a.fresh;
        others = λ t apart none. ap (λ (u : Trees). u t) to ∙ a.others t apart none;
      }

  pub updates : (body : Query) → command_of (understood desk_schema text) ≡ Update at (record { lets = []; body = body })
      → (rows : List Row) × IsAnswer body (overlay db []) params rows × (count ≡ length rows) × IsEdited old.now new.now (edit_of db table (ids_of rows) Given 1 rows)
  updates body is =
      let command = Update at (record { lets = []; body = body }) in
      let w = runs_as text params old new desk_schema has command is plain' count h in
      let done = went (on_found command w.tally (subst (λ s. Does old.step_limit (mode_of old) params (record old.now { schema = s }) (statement_of text (understood desk_schema text)) None command (Ok (w.tally, new.now))) has w.changed)) in
      let told = ended done.0 w.tally done.2 in
      let given = went done.1 in
      let written = went given.2 in
      let edit = edit_of db table (ids_of given.0) Given 1 given.0 in
      let made : done.0 ≡ record { trees = written.0; rows = edit.news; last = None } = same_value written.2 in (
        given.0,
        given.1.answer Null,
        w.counted ∙ ap (λ (o : Option ℕ). unwrap_or o 0) told.0 ∙ ap (λ (it : Written). length it.rows) made ∙ cast_length Given _ (map (λ s. cast_row table (drop 1 s)) given.0) ∙ length-map given.0 _,
        applied edit written.0 written.1 (told.1 ∙ ap (λ (it : Written). it.trees) made),
      )

  pub deletes : (body : Query) → command_of (understood desk_schema text) ≡ Delete at (record { lets = []; body = body })
      → (rows : List Row) × IsAnswer body (overlay db []) params rows × IsEdited old.now new.now (edit_of db table (ids_of rows) Given 0 [])
  deletes body is =
      let command = Delete at (record { lets = []; body = body }) in
      let w = runs_as text params old new desk_schema has command is plain' count h in
      let done = went (on_found command w.tally (subst (λ s. Does old.step_limit (mode_of old) params (record old.now { schema = s }) (statement_of text (understood desk_schema text)) None command (Ok (w.tally, new.now))) has w.changed)) in
      let told = ended done.0 w.tally done.2 in
      let given = went done.1 in
      let written = went given.2 in
      let edit = edit_of db table (ids_of given.0) Given 0 [] in
      let made : done.0 ≡ record { trees = written.0; rows = taken_by db edit; last = None } = same_value written.2 in (
        given.0,
        given.1.answer Null,
        applied edit written.0 written.1 (told.1 ∙ ap (λ (it : Written). it.trees) made),
      )

  pub inserts : (terms : List Term) (width : ℕ) → table.is_counted ≡ false → command_of (understood desk_schema text) ≡ Insert at (Values terms width)
      → (rows : List Row) × (rows ≡ value_rows (stamped table params) width (length terms / width) terms) × IsEdited old.now new.now (edit_of db table [] Chosen 0 rows)
  inserts terms width uncounted is =
      let command = Insert at (Values terms width) in
      let w = runs_as text params old new desk_schema has command is plain' count h in
      let done = went (on_found command w.tally (subst (λ s. Does old.step_limit (mode_of old) params (record old.now { schema = s }) (statement_of text (understood desk_schema text)) None command (Ok (w.tally, new.now))) has w.changed)) in
      let told = ended done.0 w.tally done.2 in
      let given = went done.1 in
      let counter = went given.2 in
      let top = count_of counter.0 in
      let mid = went counter.2 in
      let edit : Bool → Edit = λ b. edit_of db table [] (cond b (Above top) Chosen) 0 given.0 in
      let after = went mid.2 in
      let uncounts : ◌≡◌ {A = Outcome Trees} (Ok after.0) (Ok mid.0) =
      subst (λ b. MatchBool (cond b (is_lt (int_cmp top (fold higher top (edit table.is_counted).news))) false)
      (CountsIn task mid.0 counter.0 (fold higher top (edit table.is_counted).news) (sequence desk_schema) (Ok after.0))
      (◌≡◌ {A = Outcome Trees} (Ok after.0) (Ok mid.0))) uncounted after.1 in
      let made : done.0.trees ≡ after.0 = ap (λ (it : Written). it.trees) (same_value after.2) in (
        given.0,
        given.1.1,
        applied (edit false) mid.0 (subst (λ b. Edited desk_schema (mode_of old).keys db (edit b) (Ok mid.0)) uncounted mid.1) (told.1 ∙ made ∙ same_value uncounts),
      )

-- ---- a row behind all others

pub put_last : (new : Row) (rows : List Row) → AllByRecursion (λ r. value_cmp (rowid r) (rowid new) ≡ Less) rows → put_row new rows ≡ rows ++ new ∷ []
put_last new [] all = refl
put_last new (r ∷ rs) all = ap (λ o. match_ordering o (r ∷ put_row new rs) (new ∷ rs) (new ∷ r ∷ rs)) all.0 ∙ ap (λ ys. r ∷ ys) (put_last new rs all.1)

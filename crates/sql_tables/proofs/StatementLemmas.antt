-- What statements that change rows do, and what queries show, of any table.
use Rattle.std.proofs.Common.{◌≡◌, ◌⊎◌, inl, inr, ℕ, List, cond, None, Some, Option, Ok, Err, Result, IfOk, IfErr, OnOk, OnErr, IsTrue, Vec, slice_get, refl, sym, ap, subst, ◌∙◌}
use Rattle.std.specs.declared.alloc.Global.{Global}
use Rattle.std.proofs.lemmas.Bool.{both_ways}
use Rattle.sqlite.specs.Order.{Row}
use Rattle.sqlite.specs.declared.error.Error.{Error}
use Rattle.sqlite.specs.Command.{Command}
use Rattle.sqlite.specs.Command.TheVariants.{Insert, Update, Delete}
use Rattle.sqlite_resolve.specs.declared.compiled.Compiled.{Compiled}
use Rattle.sqlite_resolve.specs.declared.error.CompileError.{CompileError}
use Rattle.sqlite.specs.Does.{Tally, Does, AtPlace, OnRows}
use Rattle.sqlite.specs.Rows.{Task}
use Rattle.sqlite.specs.declared.run.Mode.{Mode}
use Rattle.sqlite.specs.Tree.{Trees}
use Rattle.sqlite.specs.Schema.{Schema}
use Rattle.sqlite.specs.Table.{Table}
use Rattle.sqlite.specs.Effect.{Database}
use Rattle.sqlite.specs.Listing.{understood}
use Rattle.sqlite.specs.State.{State, mode_of, Writes, Runs, Executes, Shown, FailsToQuery}
use Rattle.sqlite.proofs.Callers.{IsPlain, command_of, runs_as, statement_of}
use Rattle.sql_tables.specs.Schema.{desk_schema}
use Rattle.sql_tables.specs.Ends.{SaysWhy, Stays, IsSame, FellLooking, FellWriting}
use Rattle.sql_tables.specs.Statements.{command_in, changes_rows, IsEdit, IsQueryIn}
use Rattle.sql_tables.proofs.EndLemmas.{same_from, stays_same, execute_fell, query_fell, query_why, query_opened, show_same, show_opened}

-- a part that gave a value did not stop on the way
pub went : {B E R : Type 0} {b : B} {Stops : E → Type 0} → ((stop : E) × Stops stop × (Ok b ≡ Err stop)) ⊎ R → R
went (inl stopped) = absurd (let e = stopped.2 in cc)
went (inr on) = on

pub same_value : {B E : Type 0} {a b : B} → ◌≡◌ {A = Result B E} (Ok a) (Ok b) → a ≡ b
same_value e = cc

pub same_command : (r : Result Compiled CompileError) → command_in r ≡ command_of r
same_command (Ok c) = refl
same_command (Err e) = refl

concluded : (task : Task) (mode : Mode) (command : Command) (trees : Trees) (tally : Tally) (after : Database) → OnRows task mode None command trees (Ok (tally, after)) → after.schema ≡ task.schema
concluded task mode command trees tally after h = ap (λ (p : Tally × Database). p.1.schema) (same_value (went (went (went h).2).2).2)

on_place : (limit : Option ℕ) (mode : Mode) (params : Row) (schema : Schema) (command : Command) (trees : Trees) (tally : Tally) (after : Database) (found : Option Table)
    → AtPlace (λ table. OnRows (record { limit = limit; keys = mode.keys; schema = schema; table = table; params = params }) mode None command trees) found (Ok (tally, after)) → after.schema ≡ schema
on_place limit mode params schema command trees tally after None h = absurd (let e = h in cc)
on_place limit mode params schema command trees tally after (Some table) h =
    concluded (record { limit = limit; keys = mode.keys; schema = schema; table = table; params = params }) mode command trees tally after h

module _ (old new : State) (has : old.now.schema ≡ desk_schema) (text : List ℕ) (params : Row) (count : ℕ) where
  module _ (command : Command) (changes : IsTrue (changes_rows command)) (w : Writes old new None command text params count) where
    keeps_schema : new.now.schema ≡ old.now.schema
    keeps_schema = go command changes w.changed
      where
        go : (c : Command) → IsTrue (changes_rows c) → Does old.step_limit (mode_of old) params old.now text None c (Ok (w.tally, new.now)) → new.now.schema ≡ old.now.schema
        go (Insert at from) is done = on_place _ (mode_of old) params old.now.schema (Insert at from) old.now.trees w.tally new.now (slice_get old.now.schema.tables at) done
        go (Update at q) is done = on_place _ (mode_of old) params old.now.schema (Update at q) old.now.trees w.tally new.now (slice_get old.now.schema.tables at) done
        go (Delete at q) is done = on_place _ (mode_of old) params old.now.schema (Delete at q) old.now.trees w.tally new.now (slice_get old.now.schema.tables at) done
        go _ is done = absurd (both_ways _ refl is)

    stays_writing : Stays old new
    stays_writing = record {
      is_open = w.shown.is_open;
      schema = keeps_schema ∙ has;
      mode = w.shown.mode;
      marks = w.marks;
      committed = λ inside. w.shown.committed_is ∙ ap (λ b. cond b old.committed new.now) inside;
    }

  stays_running : (command : Command) → IsTrue (changes_rows command) → Runs old new None command text params count → Stays old new
  stays_running (Insert at from) changes runs = stays_writing (Insert at from) changes runs
  stays_running (Update at q) changes runs = stays_writing (Update at q) changes runs
  stays_running (Delete at q) changes runs = stays_writing (Delete at q) changes runs
  stays_running _ changes runs = absurd (both_ways _ refl changes)

module _ (old new : State) (text : List ℕ) (params : Row) where
  pub edits : IsEdit text → old.now.schema ≡ desk_schema → (r : Result ℕ Error) → Executes text params old new r → OnOk r (Stays old new)
  edits edit has (Ok count) h =
      stays_running old new has (statement_of text (understood desk_schema text)) params count (command_in (understood desk_schema text)) edit.changes
      (runs_as text params old new desk_schema has _ (sym (same_command (understood desk_schema text))) edit.plain count h)
  edits edit has (Err e) h = tt

  pub edit_fell : old.now.schema ≡ desk_schema → (r : Result ℕ Error) → Executes text params old new r → OnErr r (FellWriting old new)
  edit_fell has (Ok count) h = tt
  edit_fell has (Err e) h = λ inside. elim (execute_fell old new text params (Err e) h) [ inl same ↦ inl (stays_same old new has same) | inr undone ↦ inr undone ]

  pub looks : (schema : Schema) → IsQueryIn schema text → old.now.schema ≡ schema → (r : Result (Vec Row Global) Error) → IfOk r (λ rows. Shown text params old new rows.items) → OnOk r (IsSame old new)
  looks schema query has (Ok rows) h = same_from old new (show_same old new text params rows.items (subst (λ s. IsPlain (understood s text)) (sym has) query.plain) h)
  looks schema query has (Err e) h = tt

  pub look_fell : (r : Result (Vec Row Global) Error) → IfErr r (FailsToQuery text params old new) → OnErr r (FellLooking old new)
  look_fell (Ok rows) h = tt
  look_fell (Err e) h = query_fell old new text params e h

  pub look_why : (r : Result (Vec Row Global) Error) → IfErr r (FailsToQuery text params old new) → IsTrue old.is_open → IfErr r (SaysWhy old new)
  look_why (Ok rows) h open' = tt
  look_why (Err e) h open' = query_why old new text params e h open'

  pub look_opened : (r : Result (Vec Row Global) Error) → IfOk r (λ rows. Shown text params old new rows.items) → IfErr r (FailsToQuery text params old new) → IsTrue new.is_open → IsTrue old.is_open
  look_opened (Ok rows) h k now = show_opened old new text params rows.items h
  look_opened (Err e) h k now = query_opened old new text params e k now

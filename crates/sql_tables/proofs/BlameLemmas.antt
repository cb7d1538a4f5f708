-- Why a statement on the desk's tables fails: for want, or since the device did. Nothing else is refused where it is one whole
-- statement, its parameters are of the right kinds, and what it writes obeys the tables.
use Rattle.std.proofs.Common.{◌≡◌, ◌⊎◌, inl, inr, ℕ, zero, suc, ◌/◌, List, [], ◌∷◌, length, length-append, append-nil, Bool, true, false, cond, not, ◌&&◌, ◌||◌, IsTrue, IsSome, None, Some, Option, Ok, Err, Result, IfErr, Vec, slice_get, nat_le, nat_lt, option_map, refl, sym, ap, subst, subst₂, ◌∙◌, arith}
use Rattle.std.specs.List.{AllByRecursion, list_all}
use Rattle.std.specs.declared.alloc.Global.{Global}
use Rattle.std.proofs.lemmas.Bool.{and_parts, both_ways, leb-true}
use Rattle.sqlite.specs.Order.{Row}
use Rattle.sqlite.specs.declared.types.Value.TheVariants.{Null}
use Rattle.sqlite.specs.Term.{Term, Env}
use Rattle.sqlite.specs.Query.{Query, Join, IsAnswer, FoldOverflows, has_no_fold, inner, end, left, counted, made, folded, first, matches}
use Rattle.sqlite_sql.specs.Group.{Overflows}
use Rattle.sqlite_sql.specs.Program.{QueryOverflows}
use Rattle.sqlite.specs.Program.{overlay}
use Rattle.sqlite.specs.Tree.{Trees, with_tree}
use Rattle.sqlite.specs.Schema.{Schema}
use Rattle.sqlite.specs.Table.{Table}
use Rattle.sqlite.specs.Edit.{Edit, edit_of, edited, left_by, are_fresh, have_rowids, is_referred, IsRefused}
use Rattle.sqlite.specs.Rowids.TheVariants.{Above, Chosen, Given}
use Rattle.sqlite_rules.specs.Calls.{ids_of}
use Rattle.sqlite_rules.specs.Action.{Writes, Leads}
use Rattle.sqlite_rules.specs.declared.error.Refusal.{Refusal}
use Rattle.sqlite_rules.specs.declared.error.Refusal.TheVariants.{Violates, Mismatch, NoRowid, BadReference, TooDeep}
use Rattle.sqlite_schema.specs.declared.schema.Constraint.TheVariants.{Datatype, NotNull, Check, PrimaryKey, Unique, ForeignKey}
use Rattle.sqlite_schema.specs.declared.schema.Keys.TheVariants.{Enforced}
use Rattle.sqlite_schema.specs.declared.schema.Among.{Among}
use Rattle.sqlite_schema.specs.declared.schema.Among.TheVariants.{All}
use Rattle.sqlite_schema.specs.Rules.{Keeps, Refers, passes}
use Rattle.sqlite_typing.specs.Types.{accepts_program, accepts_terms}
use Rattle.sqlite.specs.Command.{Command}
use Rattle.sqlite.specs.Command.TheVariants.{Select, Insert, Update, Delete}
use Rattle.sqlite.specs.Source.TheVariants.{Values}
use Rattle.sqlite.specs.Does.{Does, AtPlace, OnRows, WritesRows}
use Rattle.sqlite.specs.Rows.{Task, Edited, Updates, Deletes, Inserts, Queried, Sourced, count_of, stamped}
use Rattle.sqlite.specs.Effect.{Database, edit_error, is_query, value_rows}
use Rattle.sqlite.specs.Listing.{understood, reads_listing, IsSourceOf}
use Rattle.sqlite.specs.Calls.{IsWrite}
use Rattle.sqlite.specs.Clock.{timed}
use Rattle.sqlite_resolve.specs.declared.compiled.Compiled.{Compiled}
use Rattle.sqlite_resolve.specs.declared.error.CompileError.{CompileError}
use Rattle.sqlite.specs.declared.error.Error.{Error}
use Rattle.sqlite.specs.State.{State, mode_of, IsNoStatement, IsNotRun, IsMisplaced, Executes, ExecutesIn, RunsCommand, FailsToQuery, shows_rows, is_pragma}
use Rattle.sqlite.proofs.Callers.{IsPlain, command_of, statement_of}
use Rattle.sql_tables.specs.Schema.{desk_schema}
use Rattle.sql_tables.specs.Statements.{changes_rows}
use Rattle.sql_tables.specs.Ends.{IsCaused, ForCause}
use Rattle.sql_tables.proofs.EndLemmas.{gave_up}

-- ---- a text is one whole statement, of so many parameters

abbrev pub tail_in : Result Compiled CompileError → ℕ
tail_in (Ok c) = c.tail
tail_in (Err e) = 0

abbrev pub width_in : Result Compiled CompileError → ℕ
width_in (Ok c) = length c.names
width_in (Err e) = 0

pub record IsWholeIn (schema : Schema) (text : List ℕ) (width : ℕ) : Type 0 where
  pub plain : IsPlain (understood schema text)
  pub whole : nat_le (length text) (tail_in (understood schema text)) ≡ true
  pub width_is : width_in (understood schema text) ≡ width

abbrev pub IsWhole : List ℕ → ℕ → Type 0
IsWhole = IsWholeIn desk_schema

-- ---- what an edit has to keep

-- what is put in obeys the tables
pub record IsAllowed (db : Trees) (edit : Edit) : Type 0 where
  pub rowids : have_rowids edit.news ≡ true
  pub typed : list_all (passes Datatype desk_schema db edit.table) edit.news ≡ true
  pub present : list_all (passes NotNull desk_schema db edit.table) edit.news ≡ true
  pub checked : list_all (passes Check desk_schema db edit.table) edit.news ≡ true
  pub fresh : are_fresh (left_by db edit) edit.news ≡ true
  pub unique : Keeps Unique desk_schema (with_tree db edit.table.tree (edited db edit))

or_true : (b : Bool) → (b || true) ≡ true
or_true true = refl
or_true false = refl

-- no table of the desk's refers to another
referred : (edit : Edit) → edit.table.references ≡ [] → is_referred desk_schema Enforced edit ≡ true
referred edit none =
    let adds = nat_lt 0 (length edit.news) in
    let removes = nat_lt 0 (length edit.gone) in
    rw (none, or_true (not adds), or_true (not removes)) refl

no_rowid : (db : Trees) (edit : Edit) → edit.table.references ≡ [] → IsAllowed db edit → (why : Refusal) → IsRefused desk_schema Enforced db edit why → why ≡ NoRowid
no_rowid db edit none a (Violates Datatype) h = absurd (both_ways _ h a.typed)
no_rowid db edit none a (Violates NotNull) h = absurd (both_ways _ h a.present)
no_rowid db edit none a (Violates Check) h = absurd (both_ways _ h a.checked)
no_rowid db edit none a (Violates PrimaryKey) h = absurd (both_ways _ h a.fresh)
no_rowid db edit none a (Violates Unique) h = absurd (h a.unique)
no_rowid db edit none a (Violates ForeignKey) h = absurd h
no_rowid db edit none a Mismatch h = absurd (both_ways _ h a.rowids)
no_rowid db edit none a NoRowid h = refl
no_rowid db edit none a BadReference h = absurd (both_ways _ h (referred edit none))
no_rowid db edit none a TooDeep h = absurd h

-- ---- the parts of an edit that is refused

pub same_stop : {A E : Type 0} {x y : E} → ◌≡◌ {A = Result A E} (Err x) (Err y) → x ≡ y
same_stop e = cc

-- a part that has stopped stopped so
stopped : {A E : Type 0} {x : E} (First : E → Type 0) → (y : E) × First y × (◌≡◌ {A = Result A E} (Err x) (Err y)) → First x
stopped First it = subst First (sym (same_stop it.2)) it.1

never_leads : (n : ℕ) (next : Trees) (why : Option Refusal) → Leads desk_schema Enforced n next [] (Err why) → ⊥
never_leads zero next why h = let e = h.1 in cc
never_leads (suc n) next why h = omega (arith, ap length h.2, length-append h.0 (h.1 ∷ []))

edit_refused : (db : Trees) (edit : Edit) (e : Error) → Edited desk_schema Enforced db edit (Err (Some e)) → (why : Refusal) × IsRefused desk_schema Enforced db edit why × (e ≡ edit_error why)
edit_refused db edit e h = go h.0 h.1 h.2
  where
    go : (why : Option Refusal) → Writes desk_schema Enforced db edit (Err why) → Some e ≡ option_map edit_error why → (why : Refusal) × IsRefused desk_schema Enforced db edit why × (e ≡ edit_error why)
    go None w is = absurd (let e = is in cc)
    go (Some why) (inl refused) is = let same : why ≡ refused.0 = let e = refused.2 in cc in (refused.0, refused.1, let e = is in cc)
    go (Some why) (inr (inl big)) is = absurd (let e = big.3 in cc)
    go (Some why) (inr (inr went)) is = absurd (never_leads went.2.0 went.0 (Some why) went.2.1)

allowed_edit : (old new : State) (edit : Edit) → edit.table.references ≡ [] → IsAllowed old.now.trees edit → (e : Error) → Edited desk_schema Enforced old.now.trees edit (Err (Some e)) → IsCaused old new e
allowed_edit old new edit bare allowed e it =
    let r = edit_refused old.now.trees edit e it in
    let is_want = no_rowid old.now.trees edit bare allowed r.0 r.1 in
    subst (IsCaused old new) (sym (r.2 ∙ ap edit_error is_want)) (inl tt)

every_row : (among : Among) (db : Trees) (rows : List Row) → AllByRecursion (λ row. ◌≡◌ {A = Bool} true true) rows
every_row among db [] = tt
every_row among db (row ∷ rows) = (refl, every_row among db rows)

all_refer : (among : Among) (db : Trees) → Refers among desk_schema db
all_refer among db = (
  every_row among db (db 0),
  (every_row among db (db 2), (every_row among db (db 4), (every_row among db (db 6), (every_row among db (db 8), (every_row among db (db 9), (every_row among db (db 10), tt)))))),
)

-- ---- one statement

no_folds : (from : Join) → has_no_fold from ≡ true → (db : Trees) (env : Env) → ¬ FoldOverflows db from env
no_folds end none db env h = h
no_folds (inner t more) none db env h = no_folds more none db _ h.4
no_folds (left t on more) none db env h = no_folds more none db _ h.4
no_folds (counted most from test more) none db env (inl h) = no_folds from (and_parts (has_no_fold from) _ none).0 db env h
no_folds (counted most from test more) none db env (inr h) = no_folds more (and_parts (has_no_fold from) _ none).1 db _ h
no_folds (made m more) none db env h = no_folds more none db _ h
no_folds (folded from test all more) none db env h = absurd (let e = none in cc)
no_folds (first from test order shown more) none db env (inl h) = no_folds from (and_parts (has_no_fold from) _ none).0 db env h
no_folds (first from test order shown more) none db env (inr h) = no_folds more (and_parts (has_no_fold from) _ none).1 db _ h

-- a query with no SUM overflows at none
no_sums : (body : Query) → has_no_fold body.from ≡ true → body.group ≡ None → (db : Trees) (params : Row) → ¬ QueryOverflows body db params
no_sums body from group db params (inl sums) = subst (λ g. Overflows g (matches db body.filter body.from (params ∷ []))) group sums
no_sums body from group db params (inr folds) = no_folds body.from from db (params ∷ []) folds

pub no_steps : (limit : Option ℕ) → limit ≡ None → IsSome limit → ⊥
no_steps None none some = absurd (let e = some in cc)
no_steps (Some n) none some = absurd (let e = none in cc)

hidden_of : (k : Command) → IsTrue (changes_rows k) → (is_query k || (true && (is_pragma k || false))) ≡ false
hidden_of (Insert at from) h = refl
hidden_of (Update at q) h = refl
hidden_of (Delete at q) h = refl
hidden_of _ h = absurd (both_ways _ refl h)

module _ (schema : Schema) (old new : State) (has : old.now.schema ≡ schema) (open' : IsTrue old.is_open) (text : List ℕ) (params : Row) (whole' : IsWholeIn schema text (length params)) (e : Error) where
  not_statement : IsNoStatement old text params e → ⊥
  not_statement (inl bad) = subst IsPlain (sym (ap (λ s. understood s text) has) ∙ bad.1) whole'.plain
  not_statement (inr it) =
      let known = sym (ap (λ s. understood s text) has) ∙ it.1 in
      let ends : nat_le (length text) it.0.tail ≡ true = subst (λ r. nat_le (length text) (tail_in r) ≡ true) known whole'.whole in
      let wide : length it.0.names ≡ length params = subst (λ r. width_in r ≡ length params) known whole'.width_is in
      elim it.2 [
        | inl more ↦ more.0 (leb-true _ _ ends)
        | inr (inl few) ↦ few.0 (sym wide)
        | inr (inr timed') ↦ timed'.0 (subst IsPlain known whole'.plain).1
      ]

  not_run : IsNotRun old new text params e → IsCaused old new e
  unfolding IsNotRun
  not_run (inl none) = absurd (not_statement none.0)
  not_run (inr fails) = gave_up old new ⊥ e open' fails

  -- ---- a statement that shows no rows

  module _ (command : Command) (hidden' : (is_query command || (true && (is_pragma command || false))) ≡ false) (is : command_of (understood schema text) ≡ command) where
    -- it failed for its cause, or it was out of place, or the change was refused
    pub refused_as : Executes text params old new (Err e)
        → IsCaused old new e ⊎ (IsMisplaced old command e ⊎ (IsWrite command × Does old.step_limit (mode_of old) params old.now (statement_of text (understood schema text)) None command (Err (Some e))))
    unfolding ExecutesIn
    refused_as (inl none) = inl (not_run none)
    refused_as (inr h) =
        let known = sym h.1.is ∙ ap (λ s. understood s text) has in
        let bare = subst IsPlain (sym known) whole'.plain in
        let its : h.0.command ≡ command = ap command_of known ∙ is in
        let hidden : shows_rows false h.0 ≡ false = rw (its, bare.0) hidden' in
        let ran : RunsCommand old new text h.0 (timed params h.0.formats h.1.now) (Err e) = rw hidden at h.2 in
        elim ran [
          | inl (inl misplaced, same) ↦ inr (inl (subst (λ k. IsMisplaced old k e) its misplaced))
          | inl (inr (inl write, does), same) ↦ inr (inr (
            subst IsWrite its write,
            subst₂ (λ k t. Does old.step_limit (mode_of old) params old.now t None k (Err (Some e))) its (ap (statement_of text) known) (rw (bare.0, bare.1, append-nil params) at does),
          ))
          | inl (inr (inr returns, does), same) ↦ absurd (let x = rw bare.0 at returns in cc)
          | inr fails ↦ inl (gave_up old new _ e open' fails)
        ]

module _ (schema : Schema) (old new : State) (has : old.now.schema ≡ schema) (open' : IsTrue old.is_open) (text : List ℕ) (params : Row) (whole' : IsWholeIn schema text (length params)) where
  -- a statement that begins or ends a transaction
  pub control_caused_in : (command : Command) → (is_query command || (true && (is_pragma command || false))) ≡ false → ¬ IsWrite command → command_of (understood schema text) ≡ command
      → ((e : Error) → ¬ IsMisplaced old command e) → (r : Result ℕ Error) → Executes text params old new r → IfErr r (ForCause old new)
  control_caused_in command hidden none is placed (Ok count) h = tt
  control_caused_in command hidden none is placed (Err e) h = λ unlimited.
      elim (refused_as schema old new has open' text params whole' e command hidden is h) [ inl caused ↦ caused | inr (inl misplaced) ↦ absurd (placed e misplaced) | inr (inr writes) ↦ absurd (none writes.0) ]

module _ (old new : State) (has : old.now.schema ≡ desk_schema) (open' : IsTrue old.is_open) (text : List ℕ) (params : Row) (whole' : IsWhole text (length params)) (e : Error) where
  -- ---- a statement that changes rows

  module _ (command : Command) (changes : IsTrue (changes_rows command)) (is : command_of (understood desk_schema text) ≡ command) where
    no_other : (k : Command) → command ≡ k → changes_rows k ≡ false → ⊥
    no_other k same none = both_ways _ none (subst (λ c. IsTrue (changes_rows c)) same changes)

    placed : IsMisplaced old command e → ⊥
    placed (inl (error, inl begins)) = no_other _ begins.0 refl
    placed (inl (error, inr (inl commits, out))) = no_other _ commits refl
    placed (inl (error, inr (inr rolls, out))) = no_other _ rolls refl
    placed (inr (error, name, inl releases, unnamed)) = no_other _ releases refl
    placed (inr (error, name, inr back, unnamed)) = no_other _ back refl

    refused : Executes text params old new (Err e) → IsCaused old new e ⊎ Does old.step_limit (mode_of old) params old.now (statement_of text (understood desk_schema text)) None command (Err (Some e))
    refused h = elim (refused_as desk_schema old new has open' text params whole' e command (hidden_of command changes) is h) [ inl caused ↦ inl caused | inr (inl misplaced) ↦ absurd (placed misplaced) | inr (inr does) ↦ inr does.1 ]

    -- ---- which it does not refuse

    module _ (unlimited : old.step_limit ≡ None) (at : ℕ) (table : Table) (found : slice_get desk_schema.tables at ≡ Some table) (none : table.references ≡ []) where
      abbrev task : Task
      task = record { limit = old.step_limit; keys = Enforced; schema = desk_schema; table = table; params = params }

      abbrev db : Trees
      db = old.now.trees

      -- the rows are put in, unless they are refused
      stopped_rows : OnRows task (mode_of old) None command db (Err (Some e)) → WritesRows task db command (Err (Some e))
      stopped_rows (inl it) = stopped (λ x. WritesRows task db command (Err x)) it
      stopped_rows (inr (w, written, inl (stop, tested, same))) = absurd (tested.0 (all_refer All w.trees))
      stopped_rows (inr (w, written, inr (doubt, tested, inl (stop, returned, same)))) = absurd (let x = returned in cc)
      stopped_rows (inr (w, written, inr (doubt, tested, inr (rows, returned, gives)))) = absurd (let x = gives in cc)

module _ (old new : State) (has : old.now.schema ≡ desk_schema) (open' : IsTrue old.is_open) (unlimited : old.step_limit ≡ None) (text : List ℕ) (params : Row) (whole' : IsWhole text (length params))
    (at : ℕ) (table : Table) (found : slice_get desk_schema.tables at ≡ Some table) (none : table.references ≡ []) where
  abbrev held : Trees
  held = old.now.trees

  pub update_caused : (body : Query) → command_of (understood desk_schema text) ≡ Update at (record { lets = []; body = body }) → accepts_program desk_schema [] body params ≡ true → has_no_fold body.from ≡ true → body.group ≡ None
      → ((rows : List Row) → IsAnswer body (overlay held []) params rows → IsAllowed held (edit_of held table (ids_of rows) Given 1 rows)) → (e : Error) → Executes text params old new (Err e) → IsCaused old new e
  update_caused body is typed from group allowed e h =
      let command = Update at (record { lets = []; body = body }) in
      elim (refused old new has open' text params whole' e command refl is h) [
        | inl caused ↦ caused
        | inr does ↦ (
            let there = subst (λ s. Does old.step_limit (mode_of old) params (record old.now { schema = s }) (statement_of text (understood desk_schema text)) None command (Err (Some e))) has does in
            let on = subst (λ f. AtPlace (λ t. OnRows (record { limit = old.step_limit; keys = Enforced; schema = desk_schema; table = t; params = params }) (mode_of old) None command held) f (Err (Some e))) found there in
            go e (stopped_rows old new has open' text params whole' e command refl is unlimited at table found none on))
      ]
    where
      go : (e : Error) → Updates (record { limit = old.step_limit; keys = Enforced; schema = desk_schema; table = table; params = params }) (record { lets = []; body = body }) params held (Err (Some e)) → IsCaused old new e
      go e (inl it) = absurd (elim (stopped (λ x. Queried old.step_limit (record { schema = desk_schema; trees = held }) (record { lets = []; body = body }) params (Err x)) it) [
        | inl mismatch ↦ both_ways _ mismatch.1 typed
        | inr (inl overflows) ↦ no_sums body from group (overlay held []) params overflows.1
        | inr (inr steps) ↦ no_steps old.step_limit unlimited steps.1
      ])
      go e (inr (rows, answers, inl it)) =
          allowed_edit old new (edit_of held table (ids_of rows) Given 1 rows) none (allowed rows (answers.answer Null)) e
          (stopped (λ x. Edited desk_schema Enforced held (edit_of held table (ids_of rows) Given 1 rows) (Err x)) it)
      go e (inr (rows, answers, inr (next, edited', gives))) = absurd (let x = gives in cc)

  pub delete_caused : (body : Query) → command_of (understood desk_schema text) ≡ Delete at (record { lets = []; body = body }) → accepts_program desk_schema [] body params ≡ true → has_no_fold body.from ≡ true → body.group ≡ None
      → ((rows : List Row) → IsAnswer body (overlay held []) params rows → IsAllowed held (edit_of held table (ids_of rows) Given 0 [])) → (e : Error) → Executes text params old new (Err e) → IsCaused old new e
  delete_caused body is typed from group allowed e h =
      let command = Delete at (record { lets = []; body = body }) in
      elim (refused old new has open' text params whole' e command refl is h) [
        | inl caused ↦ caused
        | inr does ↦ (
            let there = subst (λ s. Does old.step_limit (mode_of old) params (record old.now { schema = s }) (statement_of text (understood desk_schema text)) None command (Err (Some e))) has does in
            let on = subst (λ f. AtPlace (λ t. OnRows (record { limit = old.step_limit; keys = Enforced; schema = desk_schema; table = t; params = params }) (mode_of old) None command held) f (Err (Some e))) found there in
            go e (stopped_rows old new has open' text params whole' e command refl is unlimited at table found none on))
      ]
    where
      go : (e : Error) → Deletes (record { limit = old.step_limit; keys = Enforced; schema = desk_schema; table = table; params = params }) (record { lets = []; body = body }) held (Err (Some e)) → IsCaused old new e
      go e (inl it) = absurd (elim (stopped (λ x. Queried old.step_limit (record { schema = desk_schema; trees = held }) (record { lets = []; body = body }) params (Err x)) it) [
        | inl mismatch ↦ both_ways _ mismatch.1 typed
        | inr (inl overflows) ↦ no_sums body from group (overlay held []) params overflows.1
        | inr (inr steps) ↦ no_steps old.step_limit unlimited steps.1
      ])
      go e (inr (rows, answers, inl it)) =
          allowed_edit old new (edit_of held table (ids_of rows) Given 0 []) none (allowed rows (answers.answer Null)) e
          (stopped (λ x. Edited desk_schema Enforced held (edit_of held table (ids_of rows) Given 0 []) (Err x)) it)
      go e (inr (rows, answers, inr (next, edited', gives))) = absurd (let x = gives in cc)

  pub insert_caused : (terms : List Term) (width : ℕ) → table.is_counted ≡ false → command_of (understood desk_schema text) ≡ Insert at (Values terms width) → accepts_terms terms (stamped table params) ≡ true
      → ((rows : List Row) → rows ≡ value_rows (stamped table params) width (length terms / width) terms → IsAllowed held (edit_of held table [] Chosen 0 rows)) → (e : Error) → Executes text params old new (Err e) → IsCaused old new e
  insert_caused terms width uncounted is typed allowed e h =
      let command = Insert at (Values terms width) in
      elim (refused old new has open' text params whole' e command refl is h) [
        | inl caused ↦ caused
        | inr does ↦ (
            let there = subst (λ s. Does old.step_limit (mode_of old) params (record old.now { schema = s }) (statement_of text (understood desk_schema text)) None command (Err (Some e))) has does in
            let on = subst (λ f. AtPlace (λ t. OnRows (record { limit = old.step_limit; keys = Enforced; schema = desk_schema; table = t; params = params }) (mode_of old) None command held) f (Err (Some e))) found there in
            go e (stopped_rows old new has open' text params whole' e command refl is unlimited at table found none on))
      ]
    where
      uncounts : {X : Type 0} (A B : X) → cond table.is_counted A B ≡ B
      uncounts A B = ap (λ b. cond b A B) uncounted

      go : (e : Error) → Inserts (record { limit = old.step_limit; keys = Enforced; schema = desk_schema; table = table; params = params }) (Values terms width) held (Err (Some e)) → IsCaused old new e
      go e (inl it) = absurd (elim (stopped (λ x. Sourced old.step_limit (record { schema = desk_schema; trees = held }) (stamped table params) (Values terms width) (Err x)) it) [
        | inl mismatch ↦ both_ways _ mismatch.1 typed
        | inr steps ↦ no_steps old.step_limit unlimited steps.1
      ])
      go e (inr (rows, source, inl (stop, counter, same))) = absurd (let x = rw uncounted at counter in cc)
      go e (inr (rows, source, inr (counter, known, inl it))) =
          let edit : Bool → Edit = λ b. edit_of held table [] (cond b (Above (count_of counter)) Chosen) 0 rows in
          let into = subst (λ b. Edited desk_schema Enforced held (edit b) (Err (Some e))) uncounted (stopped (λ x. Edited desk_schema Enforced held (edit table.is_counted) (Err x)) it) in
          allowed_edit old new (edit false) none (allowed rows source.1) e into
      go e (inr (rows, source, inr (counter, known, inr (mid, edited', inl (stop, counts, same))))) = absurd (let x = rw uncounted at counts in cc)
      go e (inr (rows, source, inr (counter, known, inr (mid, edited', inr (next, counts, gives))))) = absurd (let x = gives in cc)

-- ---- a query

module _ (schema : Schema) (old new : State) (has : old.now.schema ≡ schema) (open' : IsTrue old.is_open) (text : List ℕ) (params : Row) (whole' : IsWholeIn schema text (length params)) where
  pub query_caused_in : (body : Query) (names : List (List ℕ)) → command_of (understood schema text) ≡ Select (record { lets = []; body = body }) names → reads_listing schema text ≡ false
      → accepts_program schema [] body params ≡ true → has_no_fold body.from ≡ true → body.group ≡ None → (r : Result (Vec Row Global) Error) → IfErr r (FailsToQuery text params old new) → IfErr r (ForCause old new)
  unfolding FailsToQuery
  query_caused_in body names is unlisted typed from group (Ok rows) h = tt
  query_caused_in body names is unlisted typed from group (Err e) h = λ unlimited. go unlimited h
    where
      go : old.step_limit ≡ None → FailsToQuery text params old new e → IsCaused old new e
      go unlimited (inl none) = not_run schema old new has open' text params whole' e none
      go unlimited (inr h) =
          let known = sym h.1.is ∙ ap (λ s. understood s text) has in
          let bare = subst IsPlain (sym known) whole'.plain in
          let its = ap command_of known ∙ is in
          let it = rw (bare.0, bare.1, append-nil params, its) at h.2 in
          let db : it.0 ≡ old.now = subst (λ b. IsSourceOf b old.now it.0) (ap (λ s. reads_listing s text) has ∙ unlisted) it.1 in
          absurd (elim it.2 [
            | inl mismatch ↦ both_ways _ mismatch.1 (ap (λ (d : Database). accepts_program d.schema [] body params) db ∙ ap (λ s. accepts_program s [] body params) has ∙ typed)
            | inr (inl overflows) ↦ no_sums body from group (overlay it.0.trees []) params overflows.1
            | inr (inr steps) ↦ no_steps old.step_limit unlimited steps.1
          ])

module _ (old new : State) (has : old.now.schema ≡ desk_schema) (open' : IsTrue old.is_open) (text : List ℕ) (params : Row) (whole' : IsWhole text (length params)) where
  pub query_caused : (body : Query) (names : List (List ℕ)) → command_of (understood desk_schema text) ≡ Select (record { lets = []; body = body }) names → reads_listing desk_schema text ≡ false
      → accepts_program desk_schema [] body params ≡ true → has_no_fold body.from ≡ true → body.group ≡ None → (r : Result (Vec Row Global) Error) → IfErr r (FailsToQuery text params old new) → IfErr r (ForCause old new)
  query_caused = query_caused_in desk_schema old new has open' text params whole'

  -- ---- a statement that begins or ends a transaction

  pub control_caused : (command : Command) → (is_query command || (true && (is_pragma command || false))) ≡ false → ¬ IsWrite command → command_of (understood desk_schema text) ≡ command
      → ((e : Error) → ¬ IsMisplaced old command e) → (r : Result ℕ Error) → Executes text params old new r → IfErr r (ForCause old new)
  control_caused = control_caused_in desk_schema old new has open' text params whole'

-- How any statement ends.
use Rattle.std.proofs.Common.{◌≡◌, ◌⊎◌, inl, inr, ℕ, ◌+◌, ◌^◌, List, Ok, Err, Result, OnErr, IfErr, false, None, Some, Option, IsTrue, sym, ap, subst, ◌∙◌, arith}
use Rattle.std.proofs.lemmas.Bool.{both_ways, cases_Bool, cases_lt}
use Rattle.sqlite.specs.Command.{Command}
use Rattle.sqlite.specs.Command.TheVariants.{Select, Insert, InsertOr, Update, Delete, CreateTable, CreateIndex, DropTable, DropIndex, Begin, Commit, Rollback, Savepoint as Save, Release, RollbackTo, Nothing, CreateView, DropView, Rows}
use Rattle.sqlite.specs.Clock.{timed}
use Rattle.sqlite.specs.Listing.{understood}
use Rattle.sqlite.proofs.Callers.{IsPlain}
use Rattle.sqlite.specs.Order.{Row}
use Rattle.sqlite_trees.specs.Tree.{Trees}
use Rattle.sqlite_resolve.specs.declared.compiled.Compiled.{Compiled}
use Rattle.sqlite_schema.specs.declared.command.Returning.{Returning}
use Rattle.sqlite.specs.declared.error.Error.{Error}
use Rattle.sqlite_trees.specs.declared.error.StoreError.{StoreError}
use Rattle.sqlite_trees.specs.declared.error.StoreError.TheVariants as stored
use Rattle.sqlite.specs.State.{State, HasCause, store_error, IsUnchanged, IsRolledBack, Fails, IsNotRun, ExecutesIn, Executes, RunsAlone, RunsCommand, shows_rows, FailsToQuery, FailsToShow, Runs, Shown, ShowsRows, Survives}
use Rattle.sql_tables.specs.Schema.{desk_schema}
use Rattle.sql_tables.specs.Ends.{IsLater, IsCaused, SaysWhy, ForCause, Stays, IsSame, IsUndone, FellLooking}

pub same_from : (old new : State) → IsUnchanged old new → IsSame old new
same_from old new h = record { is_open = h.0.is_open; now = h.0.now_is; committed = h.0.committed_is; mode = h.0.mode; marks = h.2 }

pub undone_from : (old new : State) → IsRolledBack old new → IsUndone old new
undone_from old new h = record { now = λ open'. (h.undone open').0; committed = λ open'. (h.undone open').1; mode = h.autocommit; marks = h.unmarked }

pub later_from : (old new : State) (P : Trees → Type 0) → Survives old new P → IsLater old new
later_from old new P h = record { clean = h.clean; faults = h.counts; limit = h.limit }

-- a state that stays as it was keeps the desk's tables
pub stays_same : (old new : State) → old.now.schema ≡ desk_schema → IsSame old new → Stays old new
stays_same old new has h = record { is_open = h.is_open; schema = ap (λ d. d.schema) h.now ∙ has; mode = h.mode; marks = h.marks; committed = λ inside. h.committed }

-- ---- one statement

caused : (old new : State) (U : Type 0) (cause : StoreError) → IsTrue old.is_open → HasCause old new U cause → IsCaused old new (store_error cause)
caused old new U stored.OutOfMemory open' h = inl tt
caused old new U stored.Unstorable open' h = inl tt
caused old new U stored.Io open' h = inr (λ few. omega (arith, few, h))
caused old new U stored.Corrupt open' h = inr (λ few. omega (arith, few, h))
caused old new U stored.Full open' h = inr (λ few. omega (arith, few, h))
caused old new U stored.Broken open' h = absurd (both_ways _ h open')

abbrev Falls : State → State → Error → Type 0
Falls old new e = IsUnchanged old new ⊎ (IsRolledBack old new × (IsTrue old.is_open → IsCaused old new e))

-- the store failed, for its cause
pub gave_up : (old new : State) (U : Type 0) (e : Error) → IsTrue old.is_open → Fails old new U e → IsCaused old new e
gave_up old new U e open' h = subst (IsCaused old new) (sym h.1) (caused old new U h.0 open' h.2)

failed : (old new : State) (U : Type 0) (e : Error) → Fails old new U e → Falls old new e
failed old new U e h = inr (h.3, λ open'. gave_up old new U e open' h)

not_run : (old new : State) (sql : List ℕ) (params : Row) (e : Error) → IsNotRun old new sql params e → Falls old new e
unfolding IsNotRun
not_run old new sql params e (inl h) = inl h.1
not_run old new sql params e (inr h) = failed old new _ e h

command_falls : (old new : State) (sql : List ℕ) (c : Compiled) (params : Row) (e : Error) → RunsCommand old new sql c params (Err e) → Falls old new e
command_falls old new sql c params e (inl h) = inl h.1
command_falls old new sql c params e (inr h) = failed old new _ e h

alone_falls : (old new : State) (sql : List ℕ) (c : Compiled) (params : Row) (e : Error) → RunsAlone false old new sql c params (Err e) → Falls old new e
alone_falls old new sql c params e h = elim (cases_Bool (shows_rows false c)) [
  | inl shows ↦ inl (rw shows at h).1
  | inr runs ↦ command_falls old new sql c params e (rw runs at h)
]

execute_falls : (old new : State) (sql : List ℕ) (params : Row) (e : Error) → Executes sql params old new (Err e) → Falls old new e
unfolding ExecutesIn
execute_falls old new sql params e (inl h) = not_run old new sql params e h
execute_falls old new sql params e (inr h) = alone_falls old new sql h.0 _ e h.2

show_falls : (old new : State) (sql : List ℕ) (c : Compiled) (params : Row) (e : Error) (what : Option Returning) → FailsToShow old new sql c params e what → Falls old new e
show_falls old new sql c params e None h = inl h.3
show_falls old new sql c params e (Some what) h = command_falls old new sql c params e h

query_falls : (old new : State) (sql : List ℕ) (params : Row) (e : Error) → FailsToQuery sql params old new e → Falls old new e
unfolding FailsToQuery
query_falls old new sql params e (inl h) = not_run old new sql params e h
query_falls old new sql params e (inr h) = show_falls old new sql h.0 _ e h.0.returning h.2

fell_from : (old new : State) (e : Error) → Falls old new e → FellLooking old new
fell_from old new e (inl same) = inl (same_from old new same)
fell_from old new e (inr undone) = inr (undone_from old new undone.0)

falls_opened : (old new : State) (e : Error) → Falls old new e → IsTrue new.is_open → IsTrue old.is_open
falls_opened old new e (inl same) now = same.0.was_open
falls_opened old new e (inr undone) now = undone.0.was_open now

falls_why : (old new : State) (e : Error) → Falls old new e → IsTrue old.is_open → SaysWhy old new e
falls_why old new e (inl same) open' inside out = absurd (both_ways _ (sym same.0.mode ∙ out) inside)
falls_why old new e (inr undone) open' inside out = undone.1 open'

pub query_fell : (old new : State) (sql : List ℕ) (params : Row) (e : Error) → FailsToQuery sql params old new e → FellLooking old new
query_fell old new sql params e h = fell_from old new e (query_falls old new sql params e h)

pub query_opened : (old new : State) (sql : List ℕ) (params : Row) (e : Error) → FailsToQuery sql params old new e → IsTrue new.is_open → IsTrue old.is_open
query_opened old new sql params e h now = falls_opened old new e (query_falls old new sql params e h) now

pub execute_fell : (old new : State) (sql : List ℕ) (params : Row) (r : Result ℕ Error) → Executes sql params old new r → OnErr r (FellLooking old new)
execute_fell old new sql params (Ok count) h = tt
execute_fell old new sql params (Err e) h = fell_from old new e (execute_falls old new sql params e h)

pub query_why : (old new : State) (sql : List ℕ) (params : Row) (e : Error) → FailsToQuery sql params old new e → IsTrue old.is_open → SaysWhy old new e
query_why old new sql params e h open' = falls_why old new e (query_falls old new sql params e h) open'

pub execute_why : (old new : State) (sql : List ℕ) (params : Row) (r : Result ℕ Error) → Executes sql params old new r → IsTrue old.is_open → IfErr r (SaysWhy old new)
execute_why old new sql params (Ok count) h open' = tt
execute_why old new sql params (Err e) h open' = falls_why old new e (execute_falls old new sql params e h) open'

-- the cause of a failure is one from an earlier state on
pub cause_later : (a b c : State) (e : Error) → IsLater a b → IsLater b c → IsCaused b c e → IsCaused a c e
cause_later a b c e p q (inl want) = inl want
cause_later a b c e p q (inr more) = inr (λ few. elim (cases_lt (b.faults + 1) (2 ^ 64)) [ inl lt ↦ omega (arith, more lt, p.faults) | inr ge ↦ omega (arith, few, ge, q.faults) ])

-- what is said of a failure holds from an earlier state on, in the same transaction
pub why_later : (a b c : State) (e : Error) → IsLater a b → IsLater b c → b.in_transaction ≡ a.in_transaction → SaysWhy b c e → SaysWhy a c e
why_later a b c e p q mode says inside out = cause_later a b c e p q (says (subst IsTrue (sym mode) inside) out)

pub cause_onward : (a b c : State) (e : Error) → IsLater a b → IsLater b c → ForCause b c e → ForCause a c e
cause_onward a b c e p q caused' unlimited = cause_later a b c e p q (caused' (p.limit ∙ unlimited))

-- ---- no statement opens a connection that was shut

runs_opened : (old new : State) (returning : Option Returning) (command : Command) (text : List ℕ) (params : Row) (count : ℕ) → Runs old new returning command text params count → IsTrue new.is_open → IsTrue old.is_open
runs_opened old new returning (Select q names) text params count h now = absurd h
runs_opened old new returning (Insert at from) text params count h now = h.shown.was_open
runs_opened old new returning (InsertOr at how from clauses) text params count h now = h.shown.was_open
runs_opened old new returning (Update at q) text params count h now = h.shown.was_open
runs_opened old new returning (Delete at q) text params count h now = h.shown.was_open
runs_opened old new returning CreateTable text params count h now = h.shown.was_open
runs_opened old new returning (CreateIndex at) text params count h now = h.shown.was_open
runs_opened old new returning (DropTable at) text params count h now = h.shown.was_open
runs_opened old new returning (DropIndex at) text params count h now = h.shown.was_open
runs_opened old new returning Begin text params count h now = h.1.was_open
runs_opened old new returning Commit text params count h now = h.1.was_open
runs_opened old new returning Rollback text params count h now = h.1.was_open now
runs_opened old new returning (Save name) text params count h now = h.0.0.was_open
runs_opened old new returning (Release name) text params count h now = elim h.2 [ inl commits ↦ commits.1.0.was_open | inr drops ↦ drops.1.0.was_open ]
runs_opened old new returning (RollbackTo name) text params count h now = h.2.2.was_open
runs_opened old new returning (Rows values width names) text params count h now = h.0.0.was_open
runs_opened old new returning Nothing text params count h now = h.0.0.was_open
runs_opened old new returning CreateView text params count h now = h.shown.was_open
runs_opened old new returning (DropView at) text params count h now = h.shown.was_open

pub execute_opened : (old new : State) (sql : List ℕ) (params : Row) (r : Result ℕ Error) → Executes sql params old new r → IsTrue new.is_open → IsTrue old.is_open
unfolding ExecutesIn
execute_opened old new sql params (Ok count) h now = elim (cases_Bool (shows_rows false h.0)) [
  | inl shows ↦ absurd (let e = (rw shows at h.2).0 in cc)
  | inr runs ↦ runs_opened old new h.0.returning h.0.command _ _ count (rw runs at h.2) now
]
execute_opened old new sql params (Err e) h now = falls_opened old new e (execute_falls old new sql params e h) now

pub show_opened : (old new : State) (sql : List ℕ) (params : Row) (rows : List Row) → Shown sql params old new rows → IsTrue old.is_open
unfolding Shown
show_opened old new sql params rows h = go h.0.returning h.2
  where
    go : (what : Option Returning) → ShowsRows old new sql h.0 (timed params h.0.formats h.1.now) rows what → IsTrue old.is_open
    go None it = it.3.0.was_open
    go (Some what) it = it.1.shown.was_open

-- a query with no RETURNING changes nothing
pub show_same : (old new : State) (sql : List ℕ) (params : Row) (rows : List Row) → IsPlain (understood old.now.schema sql) → Shown sql params old new rows → IsUnchanged old new
unfolding Shown
show_same old new sql params rows plain h =
    let none = (subst IsPlain h.1.is plain).0 in
    (subst (ShowsRows old new sql h.0 (timed params h.0.formats h.1.now) rows) none h.2).3

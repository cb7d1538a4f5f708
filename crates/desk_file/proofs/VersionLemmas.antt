-- What is read of tables that nobody knows, within a transaction.
use Rattle.std.proofs.Common.{◌≡◌, ◌≢◌, ◌∷◌, ℤ, IfSome, IsSomeAnd, inl, inr, refl, ap, arith, ◌∙◌, ℕ, List, [], None, Some, Option, IsTrue, Result, Ok, Err, Bool, IsOkAnd, IfOk, IfErr, OnOk, Vec, codes, false, pos, if◌then◌else◌}
use Rattle.std.proofs.lemmas.Bool.{both_ways}
use Rattle.std.specs.declared.alloc.Global.{Global}
use Rattle.sqlite.specs.Clock.{timed}
use Rattle.sqlite.specs.Command.TheVariants.{Begin, Select}
use Rattle.sqlite.specs.Query.{Query}
use Rattle.sqlite.specs.Term.{col, lit}
use Rattle.sqlite.specs.declared.types.Value.TheVariants.{Int}
use Rattle.sqlite.specs.Listing.{understood}
use Rattle.sqlite.specs.Effect.{Database}
use Rattle.sqlite.specs.Order.{Row}
use Rattle.sqlite.specs.Schema.{Schema}
use Rattle.sqlite.specs.Tree.{Trees}
use Rattle.sqlite.specs.State.{State, Executes, FailsToQuery, HasCleanDisk, IsMisplaced, Shown, ShowsRows, Survives}
use Rattle.sqlite.specs.declared.error.Error.{Error}
use Rattle.sqlite.proofs.Callers.{IsPlain, command_of, runs_as}
use Rattle.sqlite_schema.specs.declared.command.Returning.{Returning}
use Rattle.sqlite_tied.specs.Compute.{everything}
use Rattle.sql_tables.specs.Control.{Begins, begin_text}
use Rattle.sql_tables.specs.Ends.{ForCause, SaysWhy}
use Rattle.sql_tables.specs.Making.{KeepsCommitted}
use Rattle.sql_tables.specs.Queries.{plain}
use Rattle.sql_tables.specs.Schema.{desk_schema}
use Rattle.sql_tables.specs.Statements.{IsQuery}
use Rattle.sql_tables.proofs.BlameLemmas.{IsWhole, IsWholeIn, control_caused_in, query_caused}
use Rattle.sql_tables.proofs.CallLemmas.{later_then}
use Rattle.sql_tables.proofs.EndLemmas.{execute_fell, execute_opened, later_from, query_fell, query_opened, query_why, show_opened}
use Rattle.desk_file.specs.OtherVersion.{versions_text, SaysNumber, SaysOther, TellsVersion}
use Rattle.desk_file.specs.Spared.{Spares}

-- the text means the same over any tables
begin_is : (schema : Schema) → command_of (understood schema begin_text) ≡ Begin
unfolding understood everything
begin_is schema = refl

begin_plain : (schema : Schema) → IsPlain (understood schema begin_text)
unfolding understood everything
begin_plain schema = (refl, refl)

begin_whole : (schema : Schema) → IsWholeIn schema begin_text 0
unfolding understood everything
begin_whole schema = record { plain = (refl, refl); whole = refl; width_is = refl }

begin_placed : (s : State) → s.in_transaction ≡ false → (e : Error) → ¬ IsMisplaced s Begin e
begin_placed s outside e (inl (error, inl within)) = both_ways _ outside within.1
begin_placed s outside e (inl (error, inr (inl commits, out))) = absurd (let x = commits in cc)
begin_placed s outside e (inl (error, inr (inr rolls, out))) = absurd (let x = rolls in cc)
begin_placed s outside e (inr (error, name, inl releases, unnamed)) = absurd (let x = releases in cc)
begin_placed s outside e (inr (error, name, inr back, unnamed)) = absurd (let x = back in cc)

pub begin_caused : (old new : State) → IsTrue old.is_open → old.in_transaction ≡ false → (r : Result ℕ Error) → Executes begin_text [] old new r → IfErr r (ForCause old new)
begin_caused old new open' outside r h =
    let schema = old.now.schema in
    control_caused_in schema old new refl open' begin_text [] (begin_whole schema) Begin refl (λ none. none) (begin_is schema) (begin_placed old outside) r h

pub begun : (old new : State) (r : Result ℕ Error) → Executes begin_text [] old new r → OnOk r (Begins old new)
begun old new (Ok count) h =
    let schema = old.now.schema in
    let r = runs_as begin_text [] old new schema refl Begin (begin_is schema) (begin_plain schema) count h in
    record { is_open = r.1.is_open; now = r.1.now_is; committed = r.1.committed_is; mode = r.1.mode; marks = r.4 }
begun old new (Err e) h = tt

begin_kept : (old new : State) (r : Result ℕ Error) → Executes begin_text [] old new r → KeepsCommitted old new
begin_kept old new (Ok count) h = λ now. (begun old new (Ok count) h).committed
begin_kept old new (Err e) h = λ now. elim (execute_fell old new begin_text [] (Err e) h) [ inl same ↦ same.committed | inr undone ↦ undone.committed now ]

pub begin_inside : (old new : State) (r : Result ℕ Error) → Executes begin_text [] old new r → OnOk r (IsTrue new.in_transaction)
begin_inside old new (Ok count) h = (begun old new (Ok count) h).mode
begin_inside old new (Err e) h = tt

pub begin_spares : (old new : State) (r : Result ℕ Error) (P : Trees → Type 0) → Survives old new P → (HasCleanDisk new → Executes begin_text [] old new r) → Spares old new
begin_spares old new r P survives runs = record {
  later = later_from old new P survives;
  opened = λ clean. execute_opened old new begin_text [] r (runs clean);
  kept = λ clean. begin_kept old new r (runs clean);
}

-- within a transaction nothing is committed, whatever is shown
shown_kept : (old new : State) (sql : List ℕ) (params : Row) (rows : List Row) → IsTrue old.in_transaction → Shown sql params old new rows → KeepsCommitted old new
unfolding Shown
shown_kept old new sql params rows inside h = go h.0.returning h.2
  where
    go : (what : Option Returning) → ShowsRows old new sql h.0 (timed params h.0.formats h.1.now) rows what → KeepsCommitted old new
    go None it = λ now. it.3.0.committed_is
    go (Some what) it = λ now. it.1.shown.committed_is ∙ ap (λ b. if b then old.committed else new.now) inside

module _ {X : Type 0} (items : X → List Row) (old new : State) (sql : List ℕ) (params : Row) where
  query_kept : (r : Result X Error) → IsTrue old.in_transaction → IfOk r (λ rows. Shown sql params old new (items rows)) → IfErr r (FailsToQuery sql params old new) → KeepsCommitted old new
  query_kept (Ok rows) inside shown fails = shown_kept old new sql params (items rows) inside shown
  query_kept (Err e) inside shown fails = λ now. elim (query_fell old new sql params e fails) [ inl same ↦ same.committed | inr undone ↦ undone.committed now ]

  query_was_open : (r : Result X Error) → IfOk r (λ rows. Shown sql params old new (items rows)) → IfErr r (FailsToQuery sql params old new) → IsTrue new.is_open → IsTrue old.is_open
  query_was_open (Ok rows) shown fails now = show_opened old new sql params (items rows) shown
  query_was_open (Err e) shown fails now = query_opened old new sql params e fails now

  pub query_spares : (r : Result X Error) (P : Trees → Type 0) → Survives old new P → (HasCleanDisk old → IsTrue old.in_transaction)
      → (HasCleanDisk new → IfOk r (λ rows. Shown sql params old new (items rows))) → (HasCleanDisk new → IfErr r (FailsToQuery sql params old new)) → Spares old new
  query_spares r P survives inside shown fails = record {
    later = later_from old new P survives;
    opened = λ clean. query_was_open r (shown clean) (fails clean);
    kept = λ clean. query_kept r (inside (omega (arith, clean, survives.clean))) (shown clean) (fails clean);
  }

  pub query_says_why : IsTrue old.is_open → (r : Result X Error) → IfErr r (FailsToQuery sql params old new) → IfErr r (SaysWhy old new)
  query_says_why is_open (Ok rows) fails = tt
  query_says_why is_open (Err e) fails = query_why old new sql params e fails is_open

-- ---- one call after another

pub spares_none : (a : State) → Spares a a
spares_none a = record { later = record { clean = omega arith; faults = omega arith; limit = refl }; opened = λ clean now. now; kept = λ clean now. refl }

pub spares_then : (a b c : State) → Spares a b → Spares b c → Spares a c
spares_then a b c p q = record {
  later = later_then a b c p.later q.later;
  opened = λ clean now. p.opened (omega (arith, clean, q.later.clean)) (q.opened clean now);
  kept = λ clean now. q.kept clean now ∙ p.kept (omega (arith, clean, q.later.clean)) (q.opened clean now);
}

-- ---- the version that is told

pub tells_version : {S : Type 0} (state : S → State) (db : Database) (asked answered : S) → (state asked).now ≡ db
    → (shown : Result (Vec Row Global) Error) → IfOk shown (λ rows. Shown versions_text [] (state asked) (state answered) rows.items)
    → (told : Result (Option ℤ) Error) → IfOk told (λ said. IfSome said (λ number. IsOkAnd shown (λ rows. SaysNumber rows.items number))) → IfOk told (λ said. IfSome said (TellsVersion state db))
tells_version state db asked answered over shown shows (Err e) tells = tt
tells_version state db asked answered over shown shows (Ok None) tells = tt
tells_version state db asked answered over (Ok rows) shows (Ok (Some number)) tells = record { asked = asked; over = over; answered = answered; rows = rows.items; shown = shows; says = tells }
tells_version state db asked answered over (Err e) shows (Ok (Some number)) tells = absurd tells

-- it is another than this
pub says_other : {S : Type 0} (state : S → State) (db : Database) (said : Option ℤ) → IfSome said (TellsVersion state db) → IsSomeAnd said (λ number. number ≢ pos 3) → SaysOther state db
says_other state db None told other = absurd other
says_other state db (Some number) told other = record { number = number; told = told; other = other }

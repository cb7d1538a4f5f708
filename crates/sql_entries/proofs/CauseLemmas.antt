-- Why a statement on the register fails.
use Rattle.std.proofs.Common.{◌≡◌, inl, ℕ, pos, List, [], ◌∷◌, true, length, Ok, Err, Result, IfErr, IsTrue, Vec, refl, sym, subst}
use Rattle.std.specs.declared.alloc.Global.{Global}
use Rattle.sqlite.specs.Order.{Row}
use Rattle.sqlite.specs.declared.types.Value.TheVariants.{Int}
use Rattle.sqlite.specs.declared.error.Error.{Error}
use Rattle.sqlite.specs.declared.error.Error.TheVariants.{SqliteFailure}
use Rattle.sqlite.specs.declared.error.ErrorCode.TheVariants.{OutOfMemory}
use Rattle.sqlite.specs.State.{State, FailsToQuery}
use Rattle.sqlite.specs.Term.{Term}
use Rattle.sqlite_typing.specs.Types.{accepts_program}
use Rattle.sqlite_value.specs.declared.keys.Key.{Key}
use Rattle.sql_tables.specs.Schema.{desk_schema}
use Rattle.sql_tables.specs.Ends.{ForCause, IsCaused}
use Rattle.sql_tables.specs.Queries.{first_of}
use Rattle.sql_tables.proofs.BlameLemmas.{IsWhole, query_caused}
use Rattle.sql_entries.proofs.FindingTexts.{Finds}
use Rattle.sql_entries.proofs.TextLemmas.{last_text, last_is, lasts, last_whole, entry_text, entry_is, entries, entry_whole, reply_text, reply_is, replies, reply_whole}

module _ (old new : State) (has : old.now.schema ≡ desk_schema) (open' : IsTrue old.is_open) where
  -- the first row that passes some tests is looked up
  pub finds_caused : {text : List ℕ} {by : Term} {key : Key} {terms shown : List Term} → Finds text by key terms shown → (params : Row) → IsWhole text (length params)
      → accepts_program desk_schema [] (first_of 6 terms shown by key) params ≡ true → (r : Result (Vec Row Global) Error) → IfErr r (FailsToQuery text params old new) → IfErr r (ForCause old new)
  finds_caused {text} {by} {key} {terms} {shown} finds params whole' typed r h =
      query_caused old new has open' text params whole' (first_of 6 terms shown by key) finds.names finds.is finds.query.unlisted typed refl refl r h

  pub last_caused : (r : Result (Vec Row Global) Error) → IfErr r (FailsToQuery last_text [] old new) → IfErr r (ForCause old new)
  last_caused r h = query_caused old new has open' last_text [] last_whole _ _ last_is lasts.unlisted refl refl refl r h

  pub entry_caused : (number : ℕ) (r : Result (Vec Row Global) Error) → IfErr r (FailsToQuery entry_text (Int (pos number) ∷ []) old new) → IfErr r (ForCause old new)
  entry_caused number r h = query_caused old new has open' entry_text (Int (pos number) ∷ []) entry_whole _ _ entry_is entries.unlisted refl refl refl r h

  pub reply_caused : (number : ℕ) (r : Result (Vec Row Global) Error) → IfErr r (FailsToQuery reply_text (Int (pos number) ∷ []) old new) → IfErr r (ForCause old new)
  reply_caused number r h = query_caused old new has open' reply_text (Int (pos number) ∷ []) reply_whole _ _ reply_is replies.unlisted refl refl refl r h

-- want of memory has its cause
pub memory_caused : (old new : State) {X : Type 0} (r : Result X Error) → IfErr r (λ e. e ≡ SqliteFailure OutOfMemory) → IfErr r (ForCause old new)
memory_caused old new (Ok x) h = tt
memory_caused old new (Err e) h = λ unlimited. subst (IsCaused old new) (sym h) (inl tt)

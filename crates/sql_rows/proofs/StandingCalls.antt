-- What each statement on the standings answers, and what it has done then.
use Rattle.std.proofs.Common.{◌≡◌, ◌≢◌, ℕ, ◌<◌, ◌^◌, pos, [], ◌∷◌, true, Ok, Err, Result, IfOk, OnOk, Vec, refl, arith}
use Rattle.std.specs.declared.alloc.Global.{Global}
use Rattle.sqlite.specs.Order.{Row}
use Rattle.sqlite.specs.declared.types.Value.TheVariants.{Int}
use Rattle.sqlite.specs.declared.error.Error.{Error}
use Rattle.sqlite.specs.State.{State, Executes, Shown}
use Rattle.desk_rules.specs.declared.history.standing.State.TheVariants.{NoInstruction}
use Rattle.desk_rules.specs.declared.history.standing.Standing.{Standing}
use Rattle.desk_register.specs.Changes.{standing_at}
use Rattle.sql_tables.specs.Schema.{desk_schema}
use Rattle.sql_rows.specs.Standings.{fresh_standing, mate_written, standing_in, state_written, AreReadable, AreStandings, IsNextShown, IsStandingShown, StandingsChanged}
use Rattle.sql_rows.proofs.StandingMeanings.{read_text, add_text, stand_text, stands, stand_is, stand_shown, state_text, changes_state, state_is, state_shown, ask_text, asks, ask_is, ask_shown, next_text}
use Rattle.sql_rows.proofs.NextLemmas.{shows_next}
use Rattle.sql_rows.proofs.StandingLemmas.{shows_standing, shows_readable, adds_standing, changes_standing, counts_standing, Changes}

-- ---- what the statements change of a row

pub stands_so : (n code reason : ℕ) → state_written code reason ≢ NoInstruction → (mate : ℕ) → Changes stand_shown (Int (pos n) ∷ Int (pos mate) ∷ Int (pos code) ∷ Int (pos reason) ∷ []) (λ w. record w { mate = mate; state = code; reason = reason })
stands_so n code reason instruction mate = record { shows = λ m w. refl; instruction = λ w was. instruction; request = λ w was. was }

pub moves_so : (n code reason : ℕ) → state_written code reason ≢ NoInstruction → Changes state_shown (Int (pos n) ∷ Int (pos code) ∷ Int (pos reason) ∷ []) (λ w. record w { state = code; reason = reason })
moves_so n code reason instruction = record { shows = λ m w. refl; instruction = λ w was. instruction; request = λ w was. was }

pub asks_so : (n : ℕ) → Changes ask_shown (Int (pos n) ∷ []) (λ w. record w { asked = 1 })
asks_so n = record { shows = λ m w. refl; instruction = λ w was. was; request = λ w was. omega arith }

-- ---- the statements

module _ (old new : State) (n : ℕ) (has : old.now.schema ≡ desk_schema) (were : AreStandings old.now) where
  pub shown : (r : Result (Vec Row Global) Error) → IfOk r (λ rows. Shown read_text (Int (pos n) ∷ []) old new rows.items) → IfOk r (λ rows. IsStandingShown rows.items (standing_in old.now n))
  shown (Ok rows) h = shows_standing old new n rows.items has were h
  shown (Err e) h = tt

  pub read : (r : Result (Vec Row Global) Error) → IfOk r (λ rows. Shown read_text (Int (pos n) ∷ []) old new rows.items) → IfOk r (λ rows. AreReadable rows.items)
  read (Ok rows) h = shows_readable old new n rows.items has were h
  read (Err e) h = tt

  pub next_shown : (r : Result (Vec Row Global) Error) → IfOk r (λ rows. Shown next_text (Int (pos n) ∷ []) old new rows.items) → IfOk r (λ rows. IsNextShown old.now n rows.items)
  next_shown (Ok rows) h = shows_next old new n rows.items has were h
  next_shown (Err e) h = tt

  module _ (small : n < 2 ^ 63) where
    pub added : (r : Result ℕ Error) → Executes add_text (Int (pos n) ∷ []) old new r → OnOk r (StandingsChanged old.now new.now (standing_at (standing_in old.now) n fresh_standing))
    added (Ok count) h = adds_standing old new n count small has were h
    added (Err e) h = tt

    abbrev IsSet : Standing → Type 0
    IsSet standing = StandingsChanged old.now new.now (standing_at (standing_in old.now) n standing)

    abbrev Stands : Type 0
    Stands = (standing_in old.now n).state ≢ NoInstruction

    module _ (code reason : ℕ) (instruction : state_written code reason ≢ NoInstruction) where
      pub stood : (mate : ℕ) (r : Result ℕ Error) → Executes stand_text (Int (pos n) ∷ Int (pos mate) ∷ Int (pos code) ∷ Int (pos reason) ∷ []) old new r
          → IfOk r (λ count. count ≡ 1 → IsSet (record (standing_in old.now n) { mate = mate_written mate; state = state_written code reason }))
      stood mate (Ok count) h = λ single.
          changes_standing old new stand_text stand_shown n (Int (pos mate) ∷ Int (pos code) ∷ Int (pos reason) ∷ []) _ count stand_is stands.plain (stands_so n code reason instruction mate) has were h
          (λ s. record s { mate = mate_written mate; state = state_written code reason }) (λ w. refl) small single
      stood mate (Err e) h = tt

      pub stood_one : (mate : ℕ) (r : Result ℕ Error) → Executes stand_text (Int (pos n) ∷ Int (pos mate) ∷ Int (pos code) ∷ Int (pos reason) ∷ []) old new r → Stands → IfOk r (λ count. count ≡ 1)
      stood_one mate (Ok count) h some = counts_standing old new stand_text stand_shown n (Int (pos mate) ∷ Int (pos code) ∷ Int (pos reason) ∷ []) _ count stand_is stands.plain (stands_so n code reason instruction mate) has were h some
      stood_one mate (Err e) h some = tt

      pub moved : (r : Result ℕ Error) → Executes state_text (Int (pos n) ∷ Int (pos code) ∷ Int (pos reason) ∷ []) old new r
          → IfOk r (λ count. count ≡ 1 → IsSet (record (standing_in old.now n) { state = state_written code reason }))
      moved (Ok count) h = λ single.
          changes_standing old new state_text state_shown n (Int (pos code) ∷ Int (pos reason) ∷ []) _ count state_is changes_state.plain (moves_so n code reason instruction) has were h
          (λ s. record s { state = state_written code reason }) (λ w. refl) small single
      moved (Err e) h = tt

      pub moved_one : (r : Result ℕ Error) → Executes state_text (Int (pos n) ∷ Int (pos code) ∷ Int (pos reason) ∷ []) old new r → Stands → IfOk r (λ count. count ≡ 1)
      moved_one (Ok count) h some = counts_standing old new state_text state_shown n (Int (pos code) ∷ Int (pos reason) ∷ []) _ count state_is changes_state.plain (moves_so n code reason instruction) has were h some
      moved_one (Err e) h some = tt

    pub asked : (r : Result ℕ Error) → Executes ask_text (Int (pos n) ∷ []) old new r → IfOk r (λ count. count ≡ 1 → IsSet (record (standing_in old.now n) { cancel_requested = true }))
    asked (Ok count) h = λ single. changes_standing old new ask_text ask_shown n [] _ count ask_is asks.plain (asks_so n) has were h (λ s. record s { cancel_requested = true }) (λ w. refl) small single
    asked (Err e) h = tt

    pub asked_one : (r : Result ℕ Error) → Executes ask_text (Int (pos n) ∷ []) old new r → Stands → IfOk r (λ count. count ≡ 1)
    asked_one (Ok count) h some = counts_standing old new ask_text ask_shown n [] _ count ask_is asks.plain (asks_so n) has were h some
    asked_one (Err e) h some = tt

-- The effects on the tables of amounts in the form of the calls' clauses.
use Rattle.std.proofs.Common.{◌≡◌, ℕ, ◌<◌, ◌^◌, pos, List, [], ◌∷◌, None, Option, Ok, Err, Result, IfOk, OnOk, Vec, unwrap_or}
use Rattle.std.specs.declared.alloc.Global.{Global}
use Rattle.sqlite.specs.Order.{Row}
use Rattle.sqlite.specs.declared.error.Error.{Error}
use Rattle.sqlite.specs.declared.types.Value.TheVariants.{Int, Text as Words}
use Rattle.sqlite.specs.State.{State, Executes, Shown}
use Rattle.desk_codes.specs.Currency.{letters_of}
use Rattle.desk_codes.specs.declared.currency.Ccy.{Ccy}
use Rattle.sql_tables.specs.Schema.{desk_schema}
use Rattle.sql_rows.specs.declared.amounts.key.AmountKey.{AmountKey}
use Rattle.sql_rows.specs.Keys.{ledger_of, texts_of}
use Rattle.sql_rows.specs.AmountStatements.{amount_text, first_text, next_text, held_text, held_cash_text}
use Rattle.sql_rows.specs.Amounts.{AreAmounts, amount_at}
use Rattle.sql_tables.specs.Rows.{number_rows}
use Rattle.sql_rows.specs.Changes.{SetsAmount}
use Rattle.sql_rows.specs.Held.{ShowSum, total_cash, total_held}
use Rattle.sql_rows.specs.Holdings.{ShowsNext}
use Rattle.sql_rows.proofs.EffectLemmas.{of_texts, sets_first, shows_amount}
use Rattle.sql_rows.proofs.HeldLemmas.{shows_cash, shows_held}
use Rattle.sql_rows.proofs.HoldingLemmas.{shows_next}

module _ (old new : State) (has : old.now.schema ≡ desk_schema) (amounts : AreAmounts old.now) where
  pub looked : (key : AmountKey) (r : Result (Vec Row Global) Error) → IfOk r (λ rows. Shown (amount_text (ledger_of key)) (of_texts (texts_of key) []) old new rows.items)
      → IfOk r (λ rows. rows.items ≡ number_rows (amount_at old.now key))
  looked key (Ok rows) h = shows_amount old new key rows.items has amounts h
  looked key (Err e) h = tt

  pub walked : (account : List ℕ) (above : Option (List ℕ)) (r : Result (Vec Row Global) Error) → IfOk r (λ rows. Shown next_text (of_texts (account, unwrap_or above []) []) old new rows.items)
      → IfOk r (λ rows. ShowsNext old.now account above rows.items)
  walked account above (Ok rows) h = shows_next old new account above rows.items has amounts h
  walked account above (Err e) h = tt

  pub held_summed : (isin : List ℕ) (r : Result (Vec Row Global) Error) → IfOk r (λ rows. Shown held_text (Words isin ∷ []) old new rows.items) → IfOk r (λ rows. ShowSum rows.items (total_held old.now isin))
  held_summed isin (Ok rows) h = shows_held old new has amounts isin rows.items h
  held_summed isin (Err e) h = tt

  pub cash_summed : (ccy : Ccy) (r : Result (Vec Row Global) Error) → IfOk r (λ rows. Shown held_cash_text (Words (letters_of ccy) ∷ []) old new rows.items) → IfOk r (λ rows. ShowSum rows.items (total_cash old.now ccy))
  cash_summed ccy (Ok rows) h = shows_cash old new has amounts ccy rows.items h
  cash_summed ccy (Err e) h = tt

  module _ (key : AmountKey) (d : ℕ) where
    pub inserted : amount_at old.now key ≡ None → d < 2 ^ 63 → (r : Result ℕ Error) → Executes (first_text (ledger_of key)) (of_texts (texts_of key) (Int (pos d) ∷ [])) old new r
        → OnOk r (SetsAmount old.now new.now key d)
    inserted absent small (Ok count) h = sets_first old key d has amounts new count absent small h
    inserted absent small (Err e) h = tt

-- What trying a matched pair makes of the tables, and how the call ends that does it in a savepoint.
use Rattle.std.specs.Prelude.{◌≡◌, ◌≢◌, ◌⊎◌, ℕ, ◌+◌, ◌-◌, ◌<◌, ◌≤◌, Bool, true, false, IsTrue, List, [], ◌∷◌, Option, Some, None, Result, OnOk, OnErr, IfErr}
use Rattle.sqlite.specs.declared.error.Error.{Error}
use Rattle.sqlite.specs.Effect.{Database}
use Rattle.sqlite.specs.State.{State, HasCleanDisk}
use Rattle.desk_msg.specs.declared.instruction.Cash.{Cash}
use Rattle.desk_msg.specs.declared.writing.status.Reason.TheVariants.{Lack, Money as LackOfMoney}
use Rattle.desk_register.specs.Changes.{HasCash, LacksCash, cash_at, delivered, delivering_side, moved_to, paid_over, receiving_side, standing_both}
use Rattle.desk_register.specs.declared.outcome.Outcome.{Outcome}
use Rattle.desk_register.specs.declared.outcome.Outcome.TheVariants.{Lacks}
use Rattle.desk_register.specs.declared.outcome.Outcome.TheVariants as outcomes
use Rattle.desk_rules.specs.Content.{CashBalances, Content, Positions}
use Rattle.desk_rules.specs.declared.history.entry.Instructed.{Instructed}
use Rattle.desk_rules.specs.declared.history.pair.Lack.TheVariants.{Securities, Money}
use Rattle.desk_rules.specs.declared.history.standing.State.{State as Stand}
use Rattle.desk_rules.specs.declared.history.standing.State.TheVariants.{Matched, Settled}
use Rattle.sql_rows.specs.Amounts.{AreAmounts, amount_in}
use Rattle.sql_rows.specs.declared.amounts.key.Ledger.TheVariants.{Total}
use Rattle.sql_tables.specs.Control.{mark_at}
use Rattle.sql_tables.specs.Ends.{IfSound, IsLater, IsUndone, SaysWhy, SparesOthers}
use Rattle.sql_tables.specs.Schema.{desk_schema}
use Rattle.sql_register.specs.Content.{content_in}

-- ---- the balances

-- The balances are these now; the totals and the other tables are as before.
pub record AmountsSo (old new : Database) (position : Positions) (cash : CashBalances) : Type 0 where
  pub kept : AreAmounts new
  pub position_is : (content_in new).position ≡ position
  pub cash_is : (content_in new).cash ≡ cash
  pub totals : (subject code : List ℕ) → amount_in new Total subject code ≡ amount_in old Total subject code
  pub others : SparesOthers 0 6 old new

-- so much less, or more, is on an account
abbrev pub less_held : Positions → List ℕ → List ℕ → ℕ → Positions
less_held position account isin quantity = moved_to position account isin (position account isin - quantity)

abbrev pub more_held : Positions → List ℕ → List ℕ → ℕ → Positions
more_held position account isin quantity = moved_to position account isin (position account isin + quantity)

-- so much less, or more, has a participant, where cash is asked for
abbrev pub less_cash : CashBalances → List ℕ → Option Cash → CashBalances
less_cash cash bic None = cash
less_cash cash bic (Some asked) = cash_at cash bic asked.ccy (cash bic asked.ccy - asked.amount)

abbrev pub more_cash : CashBalances → List ℕ → Option Cash → CashBalances
more_cash cash bic None = cash
more_cash cash bic (Some asked) = cash_at cash bic asked.ccy (cash bic asked.ccy + asked.amount)

-- a quantity is taken off an account, or it holds too little and nothing has changed
abbrev pub TakesHeld : Database → Database → List ℕ → List ℕ → ℕ → Bool → Type 0
TakesHeld old new account isin quantity true =
    (quantity ≤ (content_in old).position account isin) × AmountsSo old new (less_held (content_in old).position account isin quantity) (content_in old).cash
TakesHeld old new account isin quantity false = ((content_in old).position account isin < quantity) × AmountsSo old new (content_in old).position (content_in old).cash

-- the cash that is asked for is taken off a participant, or it has too little
abbrev pub TakesCash : Database → Database → List ℕ → Option Cash → Bool → Type 0
TakesCash old new bic asked true = HasCash (content_in old).cash bic asked × AmountsSo old new (content_in old).position (less_cash (content_in old).cash bic asked)
TakesCash old new bic asked false = LacksCash (content_in old).cash bic asked

-- ---- what becomes of a pair that is tried

-- how both instructions stand then
abbrev pub state_then : Outcome → Stand
state_then outcomes.Settled = Settled
state_then (Lacks Securities) = Matched Lack
state_then (Lacks Money) = Matched LackOfMoney

module _ (content : Content) (earlier later : Instructed) where
  -- what the balances must be for it to fare so
  abbrev pub Fares : Outcome → Type 0
  Fares outcomes.Settled =
      (later.instruction.quantity ≤ content.position (delivering_side earlier later).instruction.account later.instruction.isin)
      × HasCash content.cash (receiving_side earlier later).sender later.instruction.cash
  Fares (Lacks Securities) = content.position (delivering_side earlier later).instruction.account later.instruction.isin < later.instruction.quantity
  Fares (Lacks Money) =
      (later.instruction.quantity ≤ content.position (delivering_side earlier later).instruction.account later.instruction.isin)
      × LacksCash content.cash (receiving_side earlier later).sender later.instruction.cash

  -- what accounts hold, and what participants have, then
  abbrev pub positions_then : Outcome → Positions
  positions_then outcomes.Settled =
      delivered content.position (delivering_side earlier later).instruction.account (receiving_side earlier later).instruction.account later.instruction.isin later.instruction.quantity
  positions_then (Lacks lack) = content.position

  abbrev pub cash_then : Outcome → CashBalances
  cash_then outcomes.Settled = paid_over content.cash (receiving_side earlier later).sender (delivering_side earlier later).sender later.instruction.cash
  cash_then (Lacks lack) = content.cash

  -- the content in which the pair of these numbers has fared so
  abbrev pub tried_so : ℕ → ℕ → Outcome → Content
  tried_so m n outcome = record content {
    standing = standing_both content.standing m n (state_then outcome);
    position = positions_then outcome;
    cash = cash_then outcome;
  }

-- Both legs have moved, or the balances do not allow it. (Where money lacks, what was taken is not put back yet.)
pub record MovesLegs (old new : Database) (earlier later : Instructed) (outcome : Outcome) : Type 0 where
  pub fares : Fares (content_in old) earlier later outcome
  pub amounts : outcome ≢ Lacks Money → AmountsSo old new (positions_then (content_in old) earlier later outcome) (cash_then (content_in old) earlier later outcome)

-- Both legs have moved, or none.
pub record MovesBoth (old new : Database) (earlier later : Instructed) (outcome : Outcome) : Type 0 where
  pub fares : Fares (content_in old) earlier later outcome
  pub amounts : AmountsSo old new (positions_then (content_in old) earlier later outcome) (cash_then (content_in old) earlier later outcome)

-- ---- in a savepoint

module _ (old new : State) where
  -- the savepoint of a pair is set, and goes back to the tables as they were
  pub record IsMarked : Type 0 where
    pub is_open : IsTrue new.is_open
    pub schema : new.now.schema ≡ desk_schema
    pub mode : new.in_transaction ≡ true
    pub marks : new.marks ≡ mark_at old.now ∷ []
    pub committed : new.committed ≡ old.committed

  -- the transaction is open, and nothing was committed; the savepoint may be set
  pub record IsLeft : Type 0 where
    pub is_open : IsTrue new.is_open
    pub schema : new.now.schema ≡ desk_schema
    pub mode : new.in_transaction ≡ true
    pub committed : new.committed ≡ old.committed

-- How a call ends that works in a savepoint of its own, in a transaction that has none: where it goes well it leaves the
-- state so.
pub record IsTrial {X : Type 0} (result : Result X Error) (old new : State) (ends : Type 0) : Type 0 where
  pub ok : IfSound old new (old.in_transaction ≡ true → old.marks ≡ [] → OnOk result ends)
  pub err : IfSound old new (old.in_transaction ≡ true → old.marks ≡ [] → OnErr result (IsLeft old new ⊎ IsUndone old new))
  pub why : IfSound old new (old.in_transaction ≡ true → old.marks ≡ [] → IfErr result (SaysWhy old new))
  pub opened : HasCleanDisk new → IsTrue new.is_open → IsTrue old.is_open
  pub later : IsLater old new

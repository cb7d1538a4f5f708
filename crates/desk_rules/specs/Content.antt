-- What a register holds, however it keeps it.
use Rattle.std.specs.Prelude.{◌≡◌, ℕ, List, map}
use Rattle.desk_codes.specs.declared.currency.Ccy.{Ccy}
use Rattle.desk_rules.specs.declared.history.entry.Entry.{Entry}
use Rattle.desk_rules.specs.declared.answers.reply.Kept.{Kept}
use Rattle.desk_rules.specs.declared.answers.reply.Sent.{Sent}
use Rattle.desk_rules.specs.declared.history.standing.Standing.{Standing}

-- What each account holds of each security, and each participant of each currency; what is not recorded is 0.
abbrev pub Positions : Type 0
Positions = List ℕ → List ℕ → ℕ

abbrev pub CashBalances : Type 0
CashBalances = List ℕ → Ccy → ℕ

-- The accepted entries with their replies (an entry's number is its place, from 1), where the entry of each number
-- stands, the balances, and what was sent, in order.
pub record Content : Type 0 where
  pub register : List Kept
  pub standing : ℕ → Standing
  pub position : Positions
  pub cash : CashBalances
  pub sent : List Sent

-- the history that it holds
abbrev pub history_of : Content → List Entry
history_of content = map (λ kept. kept.entry) content.register

-- two contents are the same in every part
pub record IsSameContent (a b : Content) : Type 0 where
  pub same_register : a.register ≡ b.register
  pub same_standing : (n : ℕ) → a.standing n ≡ b.standing n
  pub same_position : (account isin : List ℕ) → a.position account isin ≡ b.position account isin
  pub same_cash : (bic : List ℕ) (ccy : Ccy) → a.cash bic ccy ≡ b.cash bic ccy
  pub same_sent : a.sent ≡ b.sent

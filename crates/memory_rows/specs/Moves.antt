-- How the lists change, step by step: balances that are put and moved, and what stays as it is. Private contracts and
-- proofs alone speak of it.
use Rattle.std.specs.Prelude.{◌≡◌, ℕ, ◌+◌, ◌-◌, if◌then◌else◌, List, Option, Some, None}
use Rattle.desk_codes.specs.declared.currency.Ccy.{Ccy}
use Rattle.desk_msg.specs.declared.instruction.Cash.{Cash as Amount}
use Rattle.desk_rules.specs.declared.history.entry.Entry.{Entry}
use Rattle.desk_rules.specs.declared.history.entry.Entry.TheVariants.{Issue, PayIn, PayOut, Redeem}
use Rattle.memory_rows.specs.declared.balance_key.BalanceKey.{BalanceKey}
use Rattle.memory_rows.specs.declared.balance_key.BalanceKey.TheVariants.{Cash, Outstanding, Paid, Position}
use Rattle.memory_rows.specs.declared.lists.Change.{Change}
use Rattle.memory_rows.specs.declared.lists.Change.TheVariants.{Moved}
use Rattle.memory_rows.specs.BalanceKeys.{is_key, without_nought}
use Rattle.memory_rows.specs.Lists.{Listed, balance_in}

-- one balance is another, and the rest is as before
abbrev pub with_balance : (BalanceKey → ℕ) → BalanceKey → ℕ → BalanceKey → ℕ
with_balance balance key amount k = if is_key key k then amount else balance k

-- the lists once a change is kept for good: a balance that it moved is not recorded where it is 0
abbrev pub kept_for_good : Change → Listed → Listed
kept_for_good (Moved key was) l = record l { balances = without_nought l.balances key }
kept_for_good change l = l

-- so much more of one, and so much less
abbrev pub with_more : (BalanceKey → ℕ) → BalanceKey → ℕ → BalanceKey → ℕ
with_more balance key amount = with_balance balance key (balance key + amount)

abbrev pub with_less : (BalanceKey → ℕ) → BalanceKey → ℕ → BalanceKey → ℕ
with_less balance key amount = with_balance balance key (balance key - amount)

-- the balances after an entry: what it moves, and the total of the same
abbrev pub balances_after : Entry → (BalanceKey → ℕ) → BalanceKey → ℕ
balances_after (Issue m) balance = with_more (with_more balance (Position m.account m.isin) m.quantity) (Outstanding m.isin) m.quantity
balances_after (Redeem m) balance = with_less (with_less balance (Position m.account m.isin) m.quantity) (Outstanding m.isin) m.quantity
balances_after (PayIn p) balance = with_more (with_more balance (Cash p.bic p.ccy) p.amount) (Paid p.ccy) p.amount
balances_after (PayOut p) balance = with_less (with_less balance (Cash p.bic p.ccy) p.amount) (Paid p.ccy) p.amount
balances_after entry balance = balance

-- so much is taken off one balance and put on another, or on the same
abbrev pub moved_between : (BalanceKey → ℕ) → BalanceKey → BalanceKey → ℕ → BalanceKey → ℕ
moved_between balance from to amount = with_more (with_less balance from amount) to amount

-- cash, if any is asked for, is taken off one participant and put on another
abbrev pub paid_between : (BalanceKey → ℕ) → List ℕ → List ℕ → Option Amount → BalanceKey → ℕ
paid_between balance from to None = balance
paid_between balance from to (Some asked) = moved_between balance (Cash from asked.ccy) (Cash to asked.ccy) asked.amount

-- nothing but balances has changed
pub record SameEntries (old new : Listed) : Type 0 where
  pub kept : new.kept ≡ old.kept
  pub standings : new.standings ≡ old.standings
  pub sent : new.sent ≡ old.sent

-- nothing but where entries stand has changed
pub record SameBooks (old new : Listed) : Type 0 where
  pub kept : new.kept ≡ old.kept
  pub balances : new.balances ≡ old.balances
  pub sent : new.sent ≡ old.sent

-- the entries are the same, and so are the totals
pub record SameTotals (old new : Listed) : Type 0 where
  pub kept : new.kept ≡ old.kept
  pub outstanding : (isin : List ℕ) → balance_in new (Outstanding isin) ≡ balance_in old (Outstanding isin)
  pub paid : (ccy : Ccy) → balance_in new (Paid ccy) ≡ balance_in old (Paid ccy)

-- Walks over the balances, in the order of their keys, and the rows that come of them.
use Rattle.std.specs.Prelude.{◌≡◌, ℕ, ◌+◌, ◌<◌, Bool, true, List, Option, Some, None, IfSome, option_map}
use Rattle.std.proofs.Common.{get_or}
use Rattle.std.specs.BTreeMap.{is_at}
use Rattle.std.specs.List.{list_any, All, AllByRecursion}
use Rattle.std.specs.List.Sorted.{IsStrictlySortedBy}
use Rattle.std.specs.Map.{keys_of}
use Rattle.std.specs.Ordering.{is_le}
use Rattle.std.specs.declared.ops.Bound.{Bound}
use Rattle.std.specs.declared.ops.Bound.TheVariants.{Excluded, Included}
use Rattle.desk_rules.specs.Balances.{issued, redeemed}
use Rattle.desk_rules.specs.Content.{Content, history_of}
use Rattle.desk_register.specs.declared.holding.Holding.{Holding}
use Rattle.desk_register.specs.Looked.{HoldsAbove, IsAboveText, IsHoldingAfter, held_of}
use Rattle.memory_rows.specs.declared.balance_key.BalanceKey.{BalanceKey}
use Rattle.memory_rows.specs.declared.balance_key.BalanceKey.TheVariants.{Outstanding, Position}
use Rattle.memory_rows.specs.BalanceKeys.{balance_cmp, first_key}
use Rattle.memory_rows.specs.FollowOn.{FollowOn}
use Rattle.memory_rows.specs.Lists.{Listed, balance_in, content_in}

-- where the search for holdings begins: at the first position of an account, or behind that of a security
abbrev pub start_of : List ℕ → Option (List ℕ) → Bound BalanceKey
start_of account None = Included (first_key account None)
start_of account (Some isin) = Excluded (first_key account (Some isin))

-- so much of a security as a holding, where it is some, and the security is above one
abbrev pub IsHeldAbove : ℕ → Option (List ℕ) → List ℕ → Option Holding → Type 0
IsHeldAbove quantity above isin None = (0 < quantity) × IsAboveText above isin → ⊥
IsHeldAbove quantity above isin (Some holding) = (0 < quantity) × IsAboveText above isin × (holding.isin ≡ isin) × (holding.quantity ≡ quantity)

-- whether some keys have this one
abbrev pub has : BalanceKey → List BalanceKey → Bool
has q keys = list_any (is_at (balance_cmp q)) keys

-- each amount is what is recorded of its key
pub record AreRecorded (balances : BalanceKey → Option ℕ) (es : List (BalanceKey × ℕ)) : Type 0 where
  pub each : All (λ e. balances e.0 ≡ Some e.1) es

-- all that an account holds above a security, or above none, is still to come, in the order of the keys
pub record Walks (l : Listed) (account : List ℕ) (above : Option (List ℕ)) (es : List (BalanceKey × ℕ)) : Type 0 where
  pub left : (isin : List ℕ) → HoldsAbove (content_in l) account above isin → has (Position account isin) (keys_of es) ≡ true
  pub sorted : IsStrictlySortedBy balance_cmp (keys_of es)
  pub from : AllByRecursion (λ k. is_le (balance_cmp (first_key account above) k) ≡ true) (keys_of es)
  pub amounts : AreRecorded l.balances es

-- of so many rows each but the first has what an account holds next after the row before
abbrev pub AreNextHoldings : Content → List ℕ → List (Option Holding) → ℕ → Type 0
AreNextHoldings content account rows count = FollowOn (λ before row. IsHoldingAfter content account (option_map (λ holding. holding.isin) before) row) rows count

-- of so many rows each that has something has what is outstanding of a security
pub record AreOutstanding (l : Listed) (rows : List (Option Holding)) (count : ℕ) : Type 0 where
  pub each : (k : ℕ) → k < count → IfSome (get_or rows k None) (λ total. total.quantity ≡ balance_in l (Outstanding total.isin))

-- what all registered accounts hold of a security, which is what was issued less what was redeemed
pub record IsTotal (content : Content) (total : Holding) : Type 0 where
  pub held : total.quantity ≡ held_of content total.isin
  pub outstanding : redeemed (history_of content) total.isin + total.quantity ≡ issued (history_of content) total.isin

-- of so many rows each that has something has such a total
pub record AreTotals (content : Content) (rows : List (Option Holding)) (count : ℕ) : Type 0 where
  pub each : (k : ℕ) → k < count → IfSome (get_or rows k None) (IsTotal content)

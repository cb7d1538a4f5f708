-- The keys of balances: when two are one, in which order they stand, and where the positions of an account begin.
use Rattle.std.specs.Prelude.{◌≡◌, ◌≢◌, ℕ, ◌==◌, Bool, true, false, ◌&&◌, List, bytes_eq, codes, Option, Some, None, is_some, option_map, if◌then◌else◌}
use Rattle.std.specs.Cmp.Lexicographic.{slice_cmp}
use Rattle.std.specs.Ordering.{nat_cmp}
use Rattle.std.specs.declared.cmp.Ordering.{Ordering}
use Rattle.desk_rules.specs.Balances.{same_ccy}
use Rattle.desk_register.specs.Looked.{IsLess}
use Rattle.memory_rows.specs.declared.balance_key.BalanceKey.{BalanceKey}
use Rattle.memory_rows.specs.declared.balance_key.BalanceKey.TheVariants.{Cash, Outstanding, Paid, Position}
use Rattle.memory_rows.specs.contracts.balance_key.BalanceKeyOrd.TheImpl as balance_ord

-- two keys are one
abbrev pub is_key : BalanceKey → BalanceKey → Bool
is_key (Position account isin) (Position a i) = bytes_eq account a && bytes_eq isin i
is_key (Outstanding isin) (Outstanding i) = bytes_eq isin i
is_key (Cash bic ccy) (Cash b c) = bytes_eq bic b && same_ccy ccy c
is_key (Paid ccy) (Paid c) = same_ccy ccy c
is_key key other = false

-- the order of texts
abbrev pub text_cmp : List ℕ → List ℕ → Ordering
text_cmp = slice_cmp nat_cmp

-- the order of the keys
abbrev pub balance_cmp : BalanceKey → BalanceKey → Ordering
balance_cmp = (balance_ord.ghosts).cmp

-- one balance is recorded so, or not at all, and the rest is as before
abbrev pub with_record : (BalanceKey → Option ℕ) → BalanceKey → Option ℕ → BalanceKey → Option ℕ
with_record balances key amount k = if is_key key k then amount else balances k

-- a balance that is recorded is so much again, or is recorded no more
abbrev pub put_back : (BalanceKey → Option ℕ) → BalanceKey → Option ℕ → BalanceKey → Option ℕ
put_back balances key None = with_record balances key None
put_back balances key (Some was) = with_record balances key (option_map (λ amount. was) (balances key))

-- an amount that is recorded, unless it is 0
abbrev pub unless_nought : Option ℕ → Option ℕ
unless_nought None = None
unless_nought (Some amount) = if amount == 0 then None else Some amount

-- one balance is recorded no more where it is 0, and the rest is as before
abbrev pub without_nought : (BalanceKey → Option ℕ) → BalanceKey → BalanceKey → Option ℕ
without_nought balances key = with_record balances key (unless_nought (balances key))

-- no balance is recorded as 0
pub record HasNoNought (balances : BalanceKey → Option ℕ) : Type 0 where
  pub each : (key : BalanceKey) → balances key ≢ Some 0

-- the least of all ISINs: the least prefix, the least body, and its check digit
abbrev pub least_isin : List ℕ
least_isin = codes "AA0000000006"

-- a key is of no position of a security below the least ISIN
abbrev pub IsFromLeast : BalanceKey → Type 0
IsFromLeast key = (account isin : List ℕ) → key ≡ Position account isin → IsLess isin least_isin → ⊥

-- no position is of a security below the least ISIN
pub record HasNoneBelow (balances : BalanceKey → Option ℕ) : Type 0 where
  pub each : (account isin : List ℕ) → is_some (balances (Position account isin)) ≡ true → IsLess isin least_isin → ⊥

-- where the positions of an account begin, and those above a security
abbrev pub first_key : List ℕ → Option (List ℕ) → BalanceKey
first_key account None = Position account least_isin
first_key account (Some isin) = Position account isin

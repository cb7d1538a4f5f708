-- What calls make of the tables of amounts.
use Rattle.std.specs.Prelude.{◌≡◌, ℕ, ◌+◌, ◌-◌, ◌<◌, ◌≤◌, Bool, true, false, List, Option, Some, None, unwrap_or, if◌then◌else◌}
use Rattle.sqlite.specs.Effect.{Database}
use Rattle.sql_tables.specs.Ends.{SparesOthers}
use Rattle.sql_rows.specs.declared.amounts.key.Ledger.{Ledger}
use Rattle.sql_rows.specs.declared.amounts.key.AmountKey.{AmountKey}
use Rattle.sql_rows.specs.Keys.{is_of}
use Rattle.sql_rows.specs.Amounts.{AreAmounts, amount_at, amount_in}

-- one amount is recorded under the key, every other is as it was, and so are the tables that are none of amounts
pub record SetsAmount (old new : Database) (key : AmountKey) (amount : ℕ) : Type 0 where
  pub kept : AreAmounts new
  pub recorded : (ledger : Ledger) (first second : List ℕ) → amount_in new ledger first second ≡ (if is_of key ledger first second then Some amount else amount_in old ledger first second)
  pub spares : SparesOthers 0 6 old new

-- less is recorded than an amount, or nothing
abbrev pub IsShort : Option ℕ → ℕ → Type 0
IsShort None amount = Unit {0}
IsShort (Some had) amount = had < amount

-- what is recorded, where nothing counts as 0
abbrev pub had : Database → AmountKey → ℕ
had db key = unwrap_or (amount_at db key) 0

-- an amount is taken off, or there was too little and every table is as it was
abbrev pub Takes : Database → Database → AmountKey → ℕ → Bool → Type 0
Takes old new key amount true = (amount ≤ had old key) × SetsAmount old new key (had old key - amount)
Takes old new key amount false = IsShort (amount_at old key) amount × SparesOthers 0 0 old new

-- an amount is put on what is recorded, or nothing is recorded and every table is as it was
abbrev pub Raises : Database → Database → AmountKey → ℕ → Bool → Type 0
Raises old new key amount true = SetsAmount old new key (had old key + amount)
Raises old new key amount false = (amount_at old key ≡ None) × SparesOthers 0 0 old new

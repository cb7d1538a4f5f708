-- What an account holds, in the order of the securities.
use Rattle.std.specs.Prelude.{◌≡◌, ◌⊎◌, ℕ, ◌<◌, pos, List, [], ◌∷◌, Option, Some, None, unwrap_or}
use Rattle.std.specs.Ordering.{nat_cmp}
use Rattle.std.specs.Cmp.Lexicographic.{slice_cmp}
use Rattle.std.specs.declared.cmp.Ordering.TheVariants.{Less}
use Rattle.sqlite.specs.declared.types.Value.TheVariants.{Int, Text as Words}
use Rattle.sqlite.specs.Order.{Row}
use Rattle.sqlite.specs.Effect.{Database}
use Rattle.desk_codes.specs.CheckDigit.{IsIsin}
use Rattle.sql_rows.specs.declared.amounts.key.Ledger.TheVariants.{Balance}
use Rattle.sql_rows.specs.Amounts.{amount_in}

-- one text is before another in the order of bytes
abbrev pub IsLess : List ℕ → List ℕ → Type 0
IsLess a b = slice_cmp nat_cmp a b ≡ Less

-- what an account holds of a security, where nothing counts as 0
abbrev pub held : Database → List ℕ → List ℕ → ℕ
held db account isin = unwrap_or (amount_in db Balance account isin) 0

-- an account holds some of a security above a text
abbrev pub IsHeldAbove : Database → List ℕ → List ℕ → List ℕ → Type 0
IsHeldAbove db account above isin = (0 < held db account isin) × IsLess above isin

-- it holds so much of this one, and none of one between
pub record IsFirstAbove (db : Database) (account above isin : List ℕ) (quantity : ℕ) : Type 0 where
  pub is_held : IsHeldAbove db account above isin
  pub worth : quantity ≡ held db account isin
  pub is_first : (other : List ℕ) → IsHeldAbove db account above other → IsLess other isin → ⊥

-- the first security above one, or above the empty text, of which an account holds some, with how much; or there is none
abbrev pub IsNextHolding : Database → List ℕ → Option (List ℕ) → Option (List ℕ × ℕ) → Type 0
IsNextHolding db account above None = (isin : List ℕ) → IsHeldAbove db account (unwrap_or above []) isin → ⊥
IsNextHolding db account above (Some found) = IsFirstAbove db account (unwrap_or above []) found.0 found.1

-- the rows that show it
abbrev pub ShowsNext : Database → List ℕ → Option (List ℕ) → List Row → Type 0
ShowsNext db account above rows =
    ((rows ≡ []) × IsNextHolding db account above None)
    ⊎ ((isin : List ℕ) × (quantity : ℕ) × (rows ≡ (Words isin ∷ Int (pos quantity) ∷ []) ∷ []) × IsNextHolding db account above (Some (isin, quantity)))

-- each text of which the account holds some is an ISIN
abbrev pub HoldsIsins : Database → List ℕ → Type 0
HoldsIsins db account = (isin : List ℕ) → 0 < held db account isin → IsIsin isin

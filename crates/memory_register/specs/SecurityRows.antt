-- A walk over the registered securities in the order of their bytes, and the rows that come of it. Only private contracts and
-- proofs speak of it.
use Rattle.std.specs.Prelude.{◌≡◌, ℕ, true, List, Option, Some, None, is_some}
use Rattle.std.specs.BTreeMap.{BTreeMap, get, is_at}
use Rattle.std.specs.BTreeMap.Range.{IsLeBy}
use Rattle.std.specs.List.{list_any, AllByRecursion}
use Rattle.std.specs.List.Sorted.{IsStrictlySortedBy}
use Rattle.std.specs.Map.{keys_of}
use Rattle.std.specs.declared.ops.Bound.{Bound}
use Rattle.std.specs.declared.ops.Bound.TheVariants.{Excluded, Unbounded}
use Rattle.memory_register.specs.FirstNumbers.{IsAbove}
use Rattle.memory_register.specs.Keys.{text_cmp}

-- where a walk above a security, or above none, begins
abbrev pub start_of : Option (List ℕ) → Bound (List ℕ)
start_of None = Unbounded
start_of (Some isin) = Excluded isin

-- a security above one, or above none, that is there
pub record IsThereAbove (securities : BTreeMap (List ℕ) ℕ) (above : Option (List ℕ)) (isin : List ℕ) : Type 0 where
  pub higher : IsAbove text_cmp above isin
  pub there : is_some (get text_cmp securities isin) ≡ true

-- the first security above one, or above none, or there is none
abbrev pub IsNextSecurity : BTreeMap (List ℕ) ℕ → Option (List ℕ) → Option (List ℕ) → Type 0
IsNextSecurity securities above None = (q : List ℕ) → IsThereAbove securities above q → ⊥
IsNextSecurity securities above (Some isin) = IsThereAbove securities above isin × ((q : List ℕ) → IsThereAbove securities above q → IsLeBy text_cmp isin q)

-- all securities above one, or above none, are still to come, in order, and no other
pub record Walks (securities : BTreeMap (List ℕ) ℕ) (above : Option (List ℕ)) (es : List (List ℕ × ℕ)) : Type 0 where
  pub left : (q : List ℕ) → IsThereAbove securities above q → list_any (is_at (text_cmp q)) (keys_of es) ≡ true
  pub sorted : IsStrictlySortedBy text_cmp (keys_of es)
  pub each : AllByRecursion (IsThereAbove securities above) (keys_of es)

-- The numbers that came at each key, one behind another. Only private contracts and proofs speak of it.
use Rattle.std.specs.Prelude.{ℕ, ◌-◌, List, [], Vec, length, take}
use Rattle.std.specs.BTreeMap.{BTreeMap, get}
use Rattle.std.specs.Option.{option_map_or}
use Rattle.std.specs.declared.alloc.Global.{Global}
use Rattle.std.specs.declared.cmp.Ordering.{Ordering}

-- the numbers that came at a key: none where it has none
abbrev pub numbers_at : {K : Type 0} → (K → K → Ordering) → BTreeMap K (Vec ℕ Global) → K → List ℕ
numbers_at cmp numbers key = option_map_or (λ found. found.items) (get cmp numbers key) []

-- all but the last
abbrev pub without_last : List ℕ → List ℕ
without_last numbers = take (length numbers - 1) numbers

-- Which instructions of a history are paired.
use Rattle.std.specs.Prelude.{◌≡◌, ◌≢◌, ◌⊎◌, ℕ, ◌<◌, ◌↔◌, nat_lt, Bool, false, ◌==◌, ◌||◌, if◌then◌else◌, List, [], ◌∷◌, Contains, AllPairs, filter, Option, Some, None}
use Rattle.desk_rules.specs.declared.history.entry.Entry.{Entry}
use Rattle.desk_rules.specs.declared.history.pair.Pair.{Pair}
use Rattle.desk_rules.specs.History.{before}
use Rattle.desk_rules.specs.Opposite.{AreOppositeAt}
use Rattle.desk_rules.specs.Cancelled.{is_cancel_requested}

-- the pairs whose number is below n
abbrev pub pairs_below : ℕ → List Pair → List Pair
pairs_below n pairs = filter (λ p. nat_lt p.later n) pairs

-- the entry k is in none of these pairs
abbrev pub IsFree : List Pair → ℕ → Type 0
IsFree pairs k = (p : Pair) → Contains pairs p → (p.earlier ≢ k) × (p.later ≢ k)

-- The entry k is an instruction before n and opposite to it, in none of the pairs made before n, and not cancelled
-- before n. (In no pair it is cancelled by the first request.)
pub record IsCandidate (history : List Entry) (pairs : List Pair) (n k : ℕ) : Type 0 where
  pub earlier : k < n
  pub opposite : AreOppositeAt history k n
  pub free : IsFree pairs k
  pub stands : is_cancel_requested (before n history) k ≡ false

-- the earlier entry of a pair is the least candidate for the later one
pub record IsMate (history : List Entry) (pairs : List Pair) (p : Pair) : Type 0 where
  pub candidate : IsCandidate history pairs p.later p.earlier
  pub least : (k : ℕ) → k < p.earlier → IsCandidate history pairs p.later k → ⊥

-- The one list of pairs, rising by number, in which a pair stands exactly when its earlier entry is the least
-- that the pairs of lower numbers leave to its later one.
pub record IsPairing (history : List Entry) (pairs : List Pair) : Type 0 where
  pub exact : (p : Pair) → Contains pairs p ↔ IsMate history (pairs_below p.later pairs) p
  pub rising : AllPairs (λ p q. p.later < q.later) pairs

-- an entry is one of the two of a pair
abbrev pub IsSide : Pair → ℕ → Type 0
IsSide p k = (p.earlier ≡ k) ⊎ (p.later ≡ k)

abbrev pub has_side : ℕ → Pair → Bool
has_side k p = p.earlier == k || p.later == k

-- the pair that an entry is in
abbrev pub pair_of : List Pair → ℕ → Option Pair
pair_of [] n = None
pair_of (p ∷ pairs) n = if p.earlier == n then Some p else (if p.later == n then Some p else pair_of pairs n)

-- the other side of a pair
abbrev pub mate_in : Pair → ℕ → ℕ
mate_in p n = if p.earlier == n then p.later else p.earlier

abbrev pub other_side : ℕ → Option Pair → Option ℕ
other_side n None = None
other_side n (Some p) = Some (mate_in p n)

-- the other side of the pair that an entry is in
abbrev pub mate_of : List Pair → ℕ → Option ℕ
mate_of pairs n = other_side n (pair_of pairs n)

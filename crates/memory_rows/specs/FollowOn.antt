-- Rows that come of one walk.
use Rattle.std.specs.Prelude.{ℕ, ◌+◌, ◌<◌, List, Option, None}
use Rattle.std.proofs.Common.{get_or}

-- of so many rows each but the first follows the one before
pub record FollowOn {X : Type 0} (follows : Option X → Option X → Type 0) (rows : List (Option X)) (count : ℕ) : Type 0 where
  pub each : (k : ℕ) → k + 1 < count → follows (get_or rows k None) (get_or rows (k + 1) None)

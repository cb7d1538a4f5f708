-- Looking for a line feed. Only private contracts speak of it.
use Rattle.std.specs.Prelude.{◌≡◌, ◌≢◌, ℕ, ◌+◌, ◌<◌, ◌≤◌, List, length, slice_index}
use Rattle.std.specs.Str.{byte}

-- no line feed stands before that place
pub record NoFeed (text : List ℕ) (end : ℕ) : Type 0 where
  pub none : (k : ℕ) → k < end → slice_index text k ≢ byte "\n"

-- among the n bytes from that place on stand so many before the first line feed, or all n
pub record IsFeedRun (text : List ℕ) (at n run : ℕ) : Type 0 where
  pub within : run ≤ n
  pub none : (k : ℕ) → at ≤ k → k < at + run → slice_index text k ≢ byte "\n"
  pub stops : run < n → slice_index text (at + run) ≡ byte "\n"

-- the first line feed of the text stands at that place
pub record IsFirstFeed (text : List ℕ) (index : ℕ) : Type 0 where
  pub within : index < length text
  pub is : slice_index text index ≡ byte "\n"
  pub before : NoFeed text index

-- Runs of bytes in a text. Only private contracts speak of them.
use Rattle.std.specs.Prelude.{◌≡◌, ◌==◌, ◌||◌, ℕ, ◌+◌, ◌<◌, ◌≤◌, nat_lt, Bool, true, false, List, slice_index}
use Rattle.std.specs.Str.{byte}

-- among the n bytes from that place on stand so many before the first that passes the test, or all n
pub record IsRun (test : ℕ → Bool) (text : List ℕ) (at n run : ℕ) : Type 0 where
  pub within : run ≤ n
  pub none : (k : ℕ) → at ≤ k → k < at + run → test (slice_index text k) ≡ false
  pub stops : run < n → test (slice_index text (at + run)) ≡ true

-- a byte that ends a text in quotes, begins what is escaped there, or is no printable character of ASCII
abbrev pub is_special : ℕ → Bool
is_special c = (c == byte "\"") || (c == byte "\\") || nat_lt c (byte " ") || nat_lt (byte "~") c

-- no byte before that place is one of these
pub record IsPlainTo (text : List ℕ) (end : ℕ) : Type 0 where
  pub plain : (k : ℕ) → k < end → is_special (slice_index text k) ≡ false

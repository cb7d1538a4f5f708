-- A short text in an array, with zeros behind it.
use Rattle.std.specs.Prelude.{◌≡◌, ℕ, ◌≤◌, ◌-◌, List, ◌++◌, length, take, replicate}

-- a text with zeros behind it, n bytes in all
abbrev pub padded : ℕ → List ℕ → List ℕ
padded n text = text ++ replicate (n - length text) 0

-- the array holds that many bytes of a text, and zeros
pub record IsPadded (n : ℕ) (bytes : List ℕ) (len : ℕ) : Type 0 where
  pub fits : len ≤ n
  pub all : length bytes ≡ n
  pub zeros : bytes ≡ padded n (take len bytes)

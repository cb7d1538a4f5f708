-- A message's reference (ISO 15022, format 16x, of any printable characters, with the network's rule on slashes).
use Rattle.std.specs.Prelude.{◌≡◌, ◌≢◌, ℕ, ◌<◌, ◌≤◌, ◌+◌, ◌-◌, List, length, All, slice_index}
use Rattle.std.specs.Str.{byte}
use Rattle.desk_codes.specs.Characters.{IsPrintable}

-- 1 to 16 printable characters, no slash first or last, no two slashes together
pub record IsReference (text : List ℕ) : Type 0 where
  pub some : 0 < length text
  pub short : length text ≤ 16
  pub printable : All IsPrintable text
  pub first : slice_index text 0 ≢ byte "/"
  pub last : slice_index text (length text - 1) ≢ byte "/"
  pub apart : (k : ℕ) → slice_index text k ≡ byte "/" → slice_index text (k + 1) ≢ byte "/"

-- The plain number of a safekeeping account (ISO 15022, format 35x, of any printable characters).
use Rattle.std.specs.Prelude.{ℕ, ◌<◌, ◌≤◌, List, length, All}
use Rattle.desk_codes.specs.Characters.{IsPrintable}

-- 1 to 35 printable characters
pub record IsAccount (text : List ℕ) : Type 0 where
  pub some : 0 < length text
  pub short : length text ≤ 35
  pub printable : All IsPrintable text

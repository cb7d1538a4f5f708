-- The characters that codes are made of.
use Rattle.std.specs.Prelude.{ℕ, ◌≤◌, ◌⊎◌}
use Rattle.std.specs.Str.{byte}

-- a printable character, 0x20 to 0x7E
abbrev pub IsPrintable : ℕ → Type 0
IsPrintable c = (byte " " ≤ c) × (c ≤ byte "~")

-- 0 to 9
abbrev pub IsDigit : ℕ → Type 0
IsDigit c = (byte "0" ≤ c) × (c ≤ byte "9")

-- A to Z
abbrev pub IsCapital : ℕ → Type 0
IsCapital c = (byte "A" ≤ c) × (c ≤ byte "Z")

-- A to Z or 0 to 9
abbrev pub IsCodeChar : ℕ → Type 0
IsCodeChar c = IsDigit c ⊎ IsCapital c

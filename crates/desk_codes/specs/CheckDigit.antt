-- The check digit of an ISIN (ISO 6166, annex on the modulus 10 "double-add-double" digit).
use Rattle.std.specs.Prelude.{◌≡◌, ℕ, ◌+◌, ◌-◌, ◌*◌, ◌/◌, ◌%◌, ◌==◌, Bool, List, [], ◌∷◌, length, nat_le, if◌then◌else◌, All, take, slice_index}
use Rattle.std.specs.List.{flat_map}
use Rattle.std.specs.Str.{byte}
use Rattle.desk_codes.specs.Characters.{IsCapital, IsCodeChar}

-- A digit stands for itself, and A to Z, whose codes are 65 to 90, for 10 to 35, written as two digits.
abbrev pub digits_of_char : ℕ → List ℕ
digits_of_char c = if nat_le c (byte "9") then (c - byte "0") ∷ [] else ((c - 55) / 10) ∷ ((c - 55) % 10) ∷ []

-- the digits of a whole text
abbrev pub expanded : List ℕ → List ℕ
expanded text = flat_map digits_of_char text

-- the sum of the digits of a product below 20
abbrev pub digit_sum : ℕ → ℕ
digit_sum product = product / 10 + product % 10

-- what a digit adds: its factor is 2 where the count of digits to its right is even, else 1
abbrev pub weight : Bool → ℕ → ℕ
weight right_is_even digit = digit_sum (if right_is_even then 2 * digit else digit)

-- the sum of the digits of each digit's product
abbrev pub weighed_sum : List ℕ → ℕ
weighed_sum [] = 0
weighed_sum (digit ∷ right) = weight (length right % 2 == 0) digit + weighed_sum right

-- the check digit that belongs behind a text
abbrev pub check_of : List ℕ → ℕ
check_of text = (10 - weighed_sum (expanded text) % 10) % 10

-- two letters, nine letters or digits, and the check digit of these eleven
pub record IsIsin (text : List ℕ) : Type 0 where
  pub len : length text ≡ 12
  pub prefix : All IsCapital (take 2 text)
  pub body : All IsCodeChar (take 11 text)
  pub check : slice_index text 11 ≡ byte "0" + check_of (take 11 text)

-- Decimal numbers with a comma (ISO 15022, format 15d).
use Rattle.std.specs.Prelude.{◌≡◌, ℕ, zero, suc, ◌<◌, ◌≤◌, ◌+◌, ◌-◌, ◌*◌, ◌/◌, ◌%◌, ◌^◌, ◌==◌, if◌then◌else◌, List, [], ◌∷◌, ◌++◌, length, All, take, drop, replicate, fold, Result, Ok, Err}
use Rattle.std.specs.Fmt.{decimal}
use Rattle.std.specs.Str.{byte}
use Rattle.desk_codes.specs.Characters.{IsDigit}
use Rattle.desk_codes.specs.declared.number.NumberFault.{NumberFault}
use Rattle.desk_codes.specs.declared.number.NumberFault.TheVariants.{Shape, TooLong, Decimals, Zero}

-- digits, a comma, digits, with one at least before the comma
pub record IsShaped (text whole part : List ℕ) : Type 0 where
  pub split : text ≡ whole ++ byte "," ∷ part
  pub some : 0 < length whole
  pub whole_digits : All IsDigit whole
  pub part_digits : All IsDigit part

-- the number that digits write
abbrev pub number_of : List ℕ → ℕ
number_of digits = fold (λ n c. 10 * n + (c - byte "0")) 0 digits

-- the first d digits after the comma, padded with zeros
abbrev pub padded_part : ℕ → List ℕ → List ℕ
padded_part d part = take d (part ++ replicate d (byte "0"))

-- after the first d digits behind the comma only zeros follow
abbrev pub IsExact : ℕ → List ℕ → Type 0
IsExact d part = All (λ c. c ≡ byte "0") (drop d part)

-- a text spells a value in units of d decimals
pub record SpellsNumber (text : List ℕ) (value d : ℕ) : Type 0 where
  pub whole : List ℕ
  pub part : List ℕ
  pub shaped : IsShaped text whole part
  pub exact : IsExact d part
  pub is : value ≡ number_of (whole ++ padded_part d part)

-- What reading a text gives. Of several faults it is the first in this order.
abbrev pub ReadsNumber : List ℕ → ℕ → Result ℕ NumberFault → Type 0
ReadsNumber text d (Ok value) = SpellsNumber text value d × (length text ≤ 15) × (0 < value)
ReadsNumber text d (Err Shape) = (whole part : List ℕ) → IsShaped text whole part → ⊥
ReadsNumber text d (Err TooLong) = (whole part : List ℕ) × IsShaped text whole part × (15 < length text)
ReadsNumber text d (Err Decimals) = (whole part : List ℕ) × IsShaped text whole part × (length text ≤ 15) × (IsExact d part → ⊥)
ReadsNumber text d (Err Zero) = SpellsNumber text 0 d × (length text ≤ 15)

-- the digits of a fraction below 10 ^ d, up to the last that isn't 0
abbrev pub fraction : ℕ → ℕ → List ℕ
fraction zero rest = []
fraction (suc d) rest = if rest == 0 then [] else (byte "0" + rest / 10 ^ d) ∷ fraction d (rest % 10 ^ d)

-- The written form of a value in units of d decimals: no leading zeros but one digit, the comma, no
-- trailing zeros. It is the shortest text that spells the value.
abbrev pub written_number : ℕ → ℕ → List ℕ
written_number value d = decimal (value / 10 ^ d) ++ byte "," ∷ fraction d (value % 10 ^ d)

-- Why a text is no number (ISO 15022, format 15d).
use Rattle.std.specs.Prelude.{◌≡◌, ℕ, List, not, ◌||◌, codes, if◌then◌else◌, Ok, Err}
use Rattle.std.specs.Str.{byte}
use Rattle.desk_codes.specs.Number.{ReadsNumber}
use Rattle.desk_codes.specs.declared.number.NumberFault.TheVariants as faults
use Rattle.desk_reasons.specs.declared.reasons.NumberReason.{NumberReason}
use Rattle.desk_reasons.specs.declared.reasons.NumberReason.TheVariants.{Shape, TooLong, Decimals, Nought, Other as OtherNumber}
use Rattle.desk_reasons.specs.declared.reasons.ShapeReason.{ShapeReason}
use Rattle.desk_reasons.specs.declared.reasons.ShapeReason.TheVariants.{Empty, Space, Sign, Point, Thousands, NotDigit, NoComma, NoWhole, TwoCommas, Other}
use Rattle.desk_reasons.specs.Characters.{stands_in, begins_so, is_empty, behind_first, are_of_numbers}

-- why digits and commas are not digits, one comma, digits: the first of the table that holds
abbrev pub comma_reason : List ℕ → ShapeReason
comma_reason text =
    if not (stands_in (byte ",") text) then NoComma
    else if begins_so text (codes ",") then NoWhole
    else if stands_in (byte ",") (behind_first (byte ",") text) then TwoCommas
    else Other

-- why a text is not digits, one comma, digits: the first of the table that holds
abbrev pub shape_reason : List ℕ → ShapeReason
shape_reason text =
    if is_empty text then Empty
    else if stands_in (byte " ") text then Space
    else if begins_so text (codes "-") || begins_so text (codes "+") then Sign
    else if stands_in (byte ".") text then (if stands_in (byte ",") text then Thousands else Point)
    else if not (are_of_numbers text) then NotDigit
    else comma_reason text

-- Why it is no number with so many decimals at most: what the reader of numbers says of it, and of one that has not its shape, why.
abbrev pub IsNumberReason : ℕ → List ℕ → NumberReason → Type 0
IsNumberReason decimals text (Shape reason) = ReadsNumber text decimals (Err faults.Shape) × (reason ≡ shape_reason text)
IsNumberReason decimals text TooLong = ReadsNumber text decimals (Err faults.TooLong)
IsNumberReason decimals text (Decimals most) = ReadsNumber text decimals (Err faults.Decimals) × (most ≡ decimals)
IsNumberReason decimals text Nought = ReadsNumber text decimals (Err faults.Zero)
IsNumberReason decimals text OtherNumber = (value : ℕ) × ReadsNumber text decimals (Ok value)

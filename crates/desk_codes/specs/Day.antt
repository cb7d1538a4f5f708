-- A day of the Gregorian calendar as eight digits YYYYMMDD (ISO 8601, ISO 15022 format 8!n).
use Rattle.std.specs.Prelude.{◌≡◌, ℕ, List, length, All, take, drop, ℤ, pos}
use Rattle.jiff.specs.Words.{IsDate}
use Rattle.jiff_core.specs.Calendar.{days_from_civil}
use Rattle.desk_codes.specs.Characters.{IsDigit}
use Rattle.desk_codes.specs.Number.{number_of}

-- the year, the month and the day of the month that the digits write
abbrev pub year_of : List ℕ → ℕ
year_of text = number_of (take 4 text)

abbrev pub month_of : List ℕ → ℕ
month_of text = number_of (take 2 (drop 4 text))

abbrev pub day_of_month : List ℕ → ℕ
day_of_month text = number_of (take 2 (drop 6 text))

-- eight digits that name a date which the calendar has
pub record IsDay (text : List ℕ) : Type 0 where
  pub len : length text ≡ 8
  pub digits : All IsDigit text
  pub exists : IsDate (pos (year_of text)) (pos (month_of text)) (pos (day_of_month text))

-- the days since 1 January 1970
abbrev pub day_number : List ℕ → ℤ
day_number text = days_from_civil (pos (year_of text)) (month_of text) (day_of_month text)

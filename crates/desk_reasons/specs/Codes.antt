-- Why texts are no codes: security, party, day, account, reference, type of settlement, function (ISO 15022, fields 35B, 95P, 98A, 98C, 97A, 20C, 22F and 23G).
use Rattle.std.specs.Prelude.{◌≡◌, ◌≢◌, ℕ, ◌⊎◌, true, false, not, nat_lt, List, length, take, drop, All, codes, if◌then◌else◌, Ok, Err}
use Rattle.std.specs.Str.{byte}
use Rattle.desk_codes.specs.Characters.{IsDigit}
use Rattle.desk_codes.specs.Isin.{ReadsIsin}
use Rattle.desk_codes.specs.Bic.{ReadsBic}
use Rattle.desk_codes.specs.Day.{IsDay}
use Rattle.desk_reasons.specs.declared.reasons.SecurityReason.{SecurityReason}
use Rattle.desk_reasons.specs.declared.reasons.SecurityReason.TheVariants as securities
use Rattle.desk_reasons.specs.declared.reasons.PartyReason.{PartyReason}
use Rattle.desk_reasons.specs.declared.reasons.PartyReason.TheVariants as parties
use Rattle.desk_reasons.specs.declared.reasons.DayReason.{DayReason}
use Rattle.desk_reasons.specs.declared.reasons.DayReason.TheVariants as days
use Rattle.desk_reasons.specs.declared.reasons.AccountReason.{AccountReason}
use Rattle.desk_reasons.specs.declared.reasons.AccountReason.TheVariants as accounts
use Rattle.desk_reasons.specs.declared.reasons.ReferenceReason.{ReferenceReason}
use Rattle.desk_reasons.specs.declared.reasons.ReferenceReason.TheVariants as references
use Rattle.desk_reasons.specs.declared.reasons.SettlementReason.{SettlementReason}
use Rattle.desk_reasons.specs.declared.reasons.SettlementReason.TheVariants as settlements
use Rattle.desk_reasons.specs.declared.reasons.FunctionReason.{FunctionReason}
use Rattle.desk_reasons.specs.declared.reasons.FunctionReason.TheVariants as functions
use Rattle.desk_reasons.specs.Characters.{stands_in, begins_so, ends_so, has_lower_case, has_slashes}

-- Why what stands behind `ISIN` and a space is no ISIN: a lower case letter, or what the reader of ISINs says of it.
abbrev pub IsIsinReason : List ℕ → SecurityReason → Type 0
IsIsinReason code securities.LowerCase = has_lower_case code ≡ true
IsIsinReason code (securities.Isin fault) = (has_lower_case code ≡ false) × ReadsIsin code (Err fault)
IsIsinReason code securities.Other = (has_lower_case code ≡ false) × ReadsIsin code (Ok code)
IsIsinReason code reason = ⊥

-- why the first line of a security names none: it does not begin so, or of what stands behind
abbrev pub IsSecurityReason : List ℕ → SecurityReason → Type 0
IsSecurityReason line securities.NoIsin = begins_so line (codes "ISIN ") ≡ false
IsSecurityReason line reason = (begins_so line (codes "ISIN ") ≡ true) × IsIsinReason (drop 5 line) reason

-- Why a text names no party: a lower case letter, or what the reader of BICs says of it.
abbrev pub IsPartyReason : List ℕ → PartyReason → Type 0
IsPartyReason text parties.LowerCase = has_lower_case text ≡ true
IsPartyReason text (parties.Bic fault) = (has_lower_case text ≡ false) × ReadsBic text (Err fault)
IsPartyReason text parties.Other = (has_lower_case text ≡ false) × ((party : List ℕ) × ReadsBic text (Ok party))

-- so many digits, and no more
pub record AreDigits (count : ℕ) (text : List ℕ) : Type 0 where
  pub len : length text ≡ count
  pub digits : All IsDigit text

-- the digits that stand under a tag
abbrev pub HasDigitsOf : List ℕ → List ℕ → Type 0
HasDigitsOf tag text = ((tag ≡ codes "98C") × AreDigits 14 text) ⊎ ((tag ≢ codes "98C") × AreDigits 8 text)

-- whether the calendar has the date of the first eight digits
abbrev pub IsDateReason : List ℕ → DayReason → Type 0
IsDateReason text days.NoSuchDate = ¬ IsDay (take 8 text)
IsDateReason text days.Other = IsDay (take 8 text)
IsDateReason text reason = ⊥

-- Why it is no day: it is not eight digits, under 98C with six more of a time; or the calendar has no such date.
abbrev pub IsDayReason : List ℕ → List ℕ → DayReason → Type 0
IsDayReason tag text days.NotEightDigits = (tag ≢ codes "98C") × ¬ AreDigits 8 text
IsDayReason tag text days.NotFourteenDigits = (tag ≡ codes "98C") × ¬ AreDigits 14 text
IsDayReason tag text reason = HasDigitsOf tag text × IsDateReason text reason

abbrev pub account_reason : List ℕ → AccountReason
account_reason text = if nat_lt 35 (length text) then accounts.TooLong else accounts.Other

-- why it is no reference: the first of the table that holds
abbrev pub reference_reason : List ℕ → ReferenceReason
reference_reason text =
    if nat_lt 16 (length text) then references.TooLong
    else if begins_so text (codes "/") then references.SlashFirst
    else if ends_so text (codes "/") then references.SlashLast
    else if has_slashes text then references.TwoSlashes
    else references.Other

-- why it is no type of settlement: the first of the table that holds
abbrev pub settlement_reason : List ℕ → SettlementReason
settlement_reason text =
    if has_lower_case text then settlements.LowerCase
    else if not (stands_in (byte "/") text) then settlements.NoSlash
    else settlements.Other

abbrev pub function_reason : List ℕ → FunctionReason
function_reason text = if has_lower_case text then functions.LowerCase else functions.Other

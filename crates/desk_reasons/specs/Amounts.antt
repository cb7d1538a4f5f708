-- Why a text is no amount (ISO 15022, field 19A).
use Rattle.std.specs.Prelude.{◌≡◌, ℕ, Bool, List, None, is_some, length, ◌==◌, take, drop, codes, ◌&&◌, if◌then◌else◌}
use Rattle.desk_codes.specs.declared.currency.Ccy.{Ccy}
use Rattle.desk_codes.specs.Currency.{ccy_of, letters_of, decimals_of}
use Rattle.desk_reasons.specs.declared.reasons.AmountReason.{AmountReason}
use Rattle.desk_reasons.specs.declared.reasons.AmountReason.TheVariants.{Currency, Number}
use Rattle.desk_reasons.specs.declared.reasons.CurrencyReason.{CurrencyReason}
use Rattle.desk_reasons.specs.declared.reasons.CurrencyReason.TheVariants.{Negative, LowerCase, NoCurrency, Unknown}
use Rattle.desk_reasons.specs.Characters.{begins_so, has_lower_case, are_capitals}
use Rattle.desk_reasons.specs.Numbers.{IsNumberReason}

-- N, the sign of a negative amount, and a currency behind it
abbrev pub is_negative : List ℕ → Bool
is_negative text = begins_so text (codes "N") && is_some (ccy_of (take 3 (drop 1 text)))

-- why its first three characters are no currency: the first of the table that holds
abbrev pub currency_reason : List ℕ → CurrencyReason
currency_reason text =
    if is_negative text then Negative
    else if has_lower_case (take 3 text) then LowerCase
    else if (length (take 3 text) == 3) && are_capitals (take 3 text) then Unknown
    else NoCurrency

-- Why it is no amount: its currency is none of the desk's, or of the number behind it.
abbrev pub IsAmountReason : List ℕ → AmountReason → Type 0
IsAmountReason text (Currency reason) = (ccy_of (take 3 text) ≡ None) × (reason ≡ currency_reason text)
IsAmountReason text (Number reason) = (ccy : Ccy) × (letters_of ccy ≡ take 3 text) × IsNumberReason (decimals_of ccy) (drop 3 text) reason

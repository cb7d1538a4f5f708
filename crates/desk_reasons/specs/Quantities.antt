-- Why a text is no quantity (ISO 15022, field 36B).
use Rattle.std.specs.Prelude.{◌≡◌, ℕ, Bool, false, true, ◌||◌, List, take, drop, codes, if◌then◌else◌}
use Rattle.desk_reasons.specs.declared.reasons.QuantityReason.{QuantityReason}
use Rattle.desk_reasons.specs.declared.reasons.QuantityReason.TheVariants.{Kind, Number}
use Rattle.desk_reasons.specs.declared.reasons.KindReason.{KindReason}
use Rattle.desk_reasons.specs.declared.reasons.KindReason.TheVariants.{LowerCase, NoSlash, Unknown}
use Rattle.desk_reasons.specs.Characters.{begins_so, has_lower_case}
use Rattle.desk_reasons.specs.Numbers.{IsNumberReason}

-- it begins with a code of how a security is counted, and a slash
abbrev pub has_kind : List ℕ → Bool
has_kind text = begins_so text (codes "UNIT/") || begins_so text (codes "FAMT/")

-- why it does not: the first of the table that holds
abbrev pub kind_reason : List ℕ → KindReason
kind_reason text =
    if has_lower_case (take 4 text) then LowerCase
    else if begins_so text (codes "UNIT") || begins_so text (codes "FAMT") then NoSlash
    else Unknown

-- Why it is no quantity: it begins so, or of the number behind the slash, which has no decimals.
abbrev pub IsQuantityReason : List ℕ → QuantityReason → Type 0
IsQuantityReason text (Kind reason) = (has_kind text ≡ false) × (reason ≡ kind_reason text)
IsQuantityReason text (Number reason) = (has_kind text ≡ true) × IsNumberReason 0 (drop 5 text) reason

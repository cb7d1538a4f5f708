-- Codes as the values of fields spell them.
use Rattle.std.proofs.Common.{ℕ, ◌<◌, ◌≤◌, List, [], ◌∷◌, length, drop, codes, refl, sym, inl, inr, lit≤, Ok, Option, Some, None}
use Rattle.std.specs.Prelude.{nat_eq}
use Rattle.std.specs.Cmp.Lexicographic.{pointwise}
use Rattle.std.proofs.lemmas.Bool.{cases_Bool}
use Rattle.std.proofs.lemmas.List.Elements.{All-cons, All-nil}
use Rattle.desk_codes.specs.Characters.{IsCodeChar}
use Rattle.desk_codes.specs.Bic.{IsBic, ReadsBic}
use Rattle.desk_codes.specs.Number.{written_number, ReadsNumber}
use Rattle.desk_codes.specs.Currency.{decimals_of}
use Rattle.desk_codes.proofs.BicLemmas.{own_branch, same_bytes}
use Rattle.desk_msg.specs.declared.instruction.Cash.{Cash}
use Rattle.desk_msg.specs.Profile.{IsCode}
use Rattle.desk_codes.proofs.CurrencyLemmas.{few_decimals}
use Rattle.desk_msg.proofs.ConfirmationLaws.{IsReadCash, short_number}
use Rattle.desk_rules.proofs.SmallNumbers.{short_is_small}

letters : (a b c d : ℕ) → IsCodeChar a → IsCodeChar b → IsCodeChar c → IsCodeChar d → IsCode 4 (a ∷ b ∷ c ∷ d ∷ [])
letters a b c d h i j k = (refl, All-cons IsCodeChar a (b ∷ c ∷ d ∷ []) h (All-cons IsCodeChar b (c ∷ d ∷ []) i (All-cons IsCodeChar c (d ∷ []) j (All-cons IsCodeChar d [] k (All-nil IsCodeChar)))))

pub newm_code : IsCode 4 (codes "NEWM")
newm_code = letters 78 69 87 77 (inr (lit≤ tt, lit≤ tt)) (inr (lit≤ tt, lit≤ tt)) (inr (lit≤ tt, lit≤ tt)) (inr (lit≤ tt, lit≤ tt))

pub canc_code : IsCode 4 (codes "CANC")
canc_code = letters 67 65 78 67 (inr (lit≤ tt, lit≤ tt)) (inr (lit≤ tt, lit≤ tt)) (inr (lit≤ tt, lit≤ tt)) (inr (lit≤ tt, lit≤ tt))

-- a BIC as it is spelled is read as itself
pub bic_itself : (bic : List ℕ) → IsBic bic → ReadsBic bic (Ok bic)
bic_itself bic is = elim (cases_Bool (pointwise nat_eq (drop 8 bic) (codes "XXX"))) [
  | inl head ↦ absurd (is.branch (same_bytes (drop 8 bic) (codes "XXX") head))
  | inr own ↦ (sym (own_branch bic (drop 8 bic) refl (sym own)), is.len, is.shaped)
]

-- a number with a short written form is read back from it
pub number_itself : (value d : ℕ) → d ≤ 3 → 0 < value → length (written_number value d) ≤ 15 → ReadsNumber (written_number value d) d (Ok value)
number_itself value d few some short = short_number value d (short_is_small value d few short) few some short

pub cash_itself : (cash : Option Cash) → IsReadCash cash
cash_itself None = tt
cash_itself (Some cash) = number_itself cash.amount (decimals_of cash.ccy) (few_decimals cash.ccy) cash.some cash.short

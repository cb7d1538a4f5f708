-- A business identifier code (ISO 9362).
use Rattle.std.specs.Prelude.{◌≡◌, ◌≢◌, ◌⊎◌, ℕ, List, length, All, take, drop, codes, if◌then◌else◌, nat_eq, Result, Ok, Err}
use Rattle.std.specs.Cmp.Lexicographic.{pointwise}
use Rattle.desk_codes.specs.Characters.{IsCapital, IsCodeChar}
use Rattle.desk_codes.specs.declared.fault.CodeFault.{CodeFault}
use Rattle.desk_codes.specs.declared.fault.CodeFault.TheVariants.{Length, Prefix, Body, Check, Shape}

-- eight characters, or eleven with a branch
abbrev pub HasBicLength : List ℕ → Type 0
HasBicLength text = (length text ≡ 8) ⊎ (length text ≡ 11)

-- four letters or digits for the party, two letters for the country, the rest letters or digits
pub record IsBicShaped (text : List ℕ) : Type 0 where
  pub party : All IsCodeChar (take 4 text)
  pub country : All IsCapital (take 2 (drop 4 text))
  pub rest : All IsCodeChar (drop 6 text)

-- the party that a code names: the branch XXX is the head office, which the first eight characters name
abbrev pub party_of : List ℕ → List ℕ
party_of text = if pointwise nat_eq (drop 8 text) (codes "XXX") then take 8 text else text

-- a code in its one spelling, without the branch XXX
pub record IsBic (text : List ℕ) : Type 0 where
  pub len : HasBicLength text
  pub shaped : IsBicShaped text
  pub branch : drop 8 text ≢ codes "XXX"

-- What reading a text gives. Of several faults it is the first in this order.
abbrev pub ReadsBic : List ℕ → Result (List ℕ) CodeFault → Type 0
ReadsBic text (Ok bic) = (bic ≡ party_of text) × HasBicLength text × IsBicShaped text
ReadsBic text (Err Length) = ¬ HasBicLength text
ReadsBic text (Err Shape) = HasBicLength text × ¬ IsBicShaped text
ReadsBic text (Err Prefix) = ⊥
ReadsBic text (Err Body) = ⊥
ReadsBic text (Err (Check digit)) = ⊥

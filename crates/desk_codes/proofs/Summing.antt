-- The sum of the digits' products, from the right.
use Rattle.std.proofs.Common.{◌≡◌, ℕ, ◌%◌, Bool, List, length, eqb, All}
use Rattle.desk_codes.specs.Characters.{IsCodeChar}
use Rattle.desk_codes.specs.CheckDigit.{expanded, weighed_sum}

-- the digits of a text have been summed, and whether their count is even
pub record IsSummed (text : List ℕ) (sum : ℕ) (is_even : Bool) : Type 0 where
  pub sum_is : sum ≡ weighed_sum (expanded text)
  pub even_is : is_even ≡ eqb (length (expanded text) % 2) 0
  pub known : All IsCodeChar text

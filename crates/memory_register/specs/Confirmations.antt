-- What was sent that confirms an instruction, kept beside it. Only private contracts and proofs speak of it.
use Rattle.std.specs.Prelude.{◌≡◌, ℕ, ◌==◌, Bool, ◌&&◌, List}
use Rattle.std.specs.BTreeMap.{get}
use Rattle.std.specs.Ordering.{nat_cmp}
use Rattle.memory_register.specs.declared.sent.confirmations.Confirmations.{Confirmations}
use Rattle.memory_register.specs.declared.sent.heading.Heading.{Heading}
use Rattle.memory_register.specs.FirstNumbers.{first_number}
use Rattle.memory_register.specs.Headings.{is_confirmation}

-- a message confirms the instruction of this number
abbrev pub confirms : ℕ → Heading → Bool
confirms n heading = is_confirmation heading && heading.about == n

-- each instruction that is confirmed has the number of the first message that confirms it, among all
pub record AreConfirmations (confirmations : Confirmations) (headings : List Heading) : Type 0 where
  pub numbers : (n : ℕ) → get nat_cmp confirmations.numbers n ≡ first_number (confirms n) headings

-- What was sent to each participant, kept beside it. Only private contracts and proofs speak of it.
use Rattle.std.specs.Prelude.{◌≡◌, ℕ, Bool, List, bytes_eq}
use Rattle.memory_register.specs.declared.sent.addressed.Addressed.{Addressed}
use Rattle.memory_register.specs.declared.sent.heading.Heading.{Heading}
use Rattle.memory_register.specs.FirstNumbers.{numbers_of}
use Rattle.memory_register.specs.Keys.{text_cmp}
use Rattle.memory_register.specs.NumbersAt.{numbers_at}

-- a message was sent to this participant
abbrev pub is_to : List ℕ → Heading → Bool
is_to bic heading = bytes_eq heading.bic bic

-- each participant has the numbers of its messages among all
pub record AreAddressed (addressed : Addressed) (headings : List Heading) : Type 0 where
  pub numbers : (bic : List ℕ) → numbers_at text_cmp addressed.numbers bic ≡ numbers_of (is_to bic) headings

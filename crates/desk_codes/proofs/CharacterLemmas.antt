-- Tests of the characters of a text, and of its parts.
use Rattle.std.proofs.Common.{ℕ, ◌<◌, List, All, take, drop, arith, inl, inr, subst}
use Rattle.std.proofs.lemmas.List.{take-append-drop}
use Rattle.std.proofs.lemmas.List.Elements.{All-append, All-weaker}
use Rattle.desk_codes.specs.Characters.{IsCapital, IsCodeChar}

pub code_is_ascii : (text : List ℕ) → All IsCodeChar text → All (λ c. c < 128) text
code_is_ascii text a = All-weaker IsCodeChar (λ c. c < 128) (λ c h. elim h [ inl d ↦ omega arith | inr l ↦ omega arith ]) text a

pub capitals_are_codes : (text : List ℕ) → All IsCapital text → All IsCodeChar text
capitals_are_codes text a = All-weaker IsCapital IsCodeChar (λ c h. inr h) text a

-- what holds of a front and of the rest holds of the whole
pub All-split : (P : ℕ → Type 0) (n : ℕ) (text : List ℕ) → All P (take n text) → All P (drop n text) → All P text
All-split P n text front rest = subst (All P) (take-append-drop n text) (All-append P (take n text) (drop n text) front rest)

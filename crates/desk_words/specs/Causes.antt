-- The catalogue of the numbers that are told in place of an answer, each with what it means and what to do about it.
use Rattle.std.specs.Prelude.{◌≡◌, ℕ, ◌==◌, Option, find, map, if◌then◌else◌, nat_lt, IsSome, List, ◌++◌, codes, decimal}
use Rattle.std.specs.Borrow.{Bor}
use Rattle.std.specs.List.{flat_map}
use Rattle.desk_words.specs.declared.causes.TheConstants.{CAUSES}

pub record CauseValue : Type 0 where
  pub number : ℕ
  pub meaning : List ℕ
  pub remedy : List ℕ

abbrev pub value_of_cause : ℕ × Bor (List ℕ) × Bor (List ℕ) → CauseValue
value_of_cause cause = record { number = cause.0; meaning = cause.1.now; remedy = cause.2.now }

-- all causes, in the order of the numbers
unfoldable pub catalogue : List CauseValue
catalogue = map (λ row. record { number = row.0; meaning = row.1.now; remedy = row.2.now }) CAUSES

-- the first of these that has the number
abbrev pub cause_among : ℕ → List CauseValue → Option CauseValue
cause_among number causes = find (λ cause. cause.number == number) causes

abbrev pub cause_with : ℕ → Option CauseValue
cause_with number = cause_among number catalogue

-- the number is that of a cause
abbrev pub IsExplained : ℕ → Type 0
IsExplained number = IsSome (cause_with number)

-- a number from 50 on is that of a fault, which is no refusal
abbrev pub word_of : ℕ → List ℕ
word_of number = if nat_lt number 50 then codes "refused" else codes "fault"

-- how an answer begins that tells the number
abbrev pub heading_of : ℕ → List ℕ
heading_of number = word_of number ++ codes " " ++ decimal number

-- it begins so, with the number of a cause
pub record TellsCause (text : List ℕ) : Type 0 where
  pub number : ℕ
  pub rest : List ℕ
  pub is_explained : IsExplained number
  pub begins : text ≡ heading_of number ++ rest

-- a cause with its words
abbrev pub cause_text : CauseValue → List ℕ
cause_text cause = heading_of cause.number ++ codes ": " ++ cause.meaning ++ codes "\n    " ++ cause.remedy ++ codes "\n"

-- all of them
abbrev pub catalogue_text : List ℕ
catalogue_text = flat_map cause_text catalogue

-- What a file asks, by its name.
use Rattle.std.specs.Prelude.{◌≡◌, ℕ, List, ◌∷◌, ◌++◌, codes}
use Rattle.std.specs.Str.{byte}
use Rattle.desk_msg.specs.MessageType.{digits_of_type}
use Rattle.desk_book.specs.declared.requests.question.Question.{Question}
use Rattle.desk_book.specs.declared.requests.question.Question.TheVariants.{Message, Operator}
use Rattle.desk_book.specs.Asked.{mt_of}
use Rattle.desk_book.specs.Forms.{SpellsBic}

-- A message's name is four parts or more with a full stop between each two: a BIC of the sender, the type, any others, and
-- `fin`. An operator's command has a name that ends in `.json`. No other name asks anything.
abbrev pub IsNameOf : Question → List ℕ → Type 0
IsNameOf (Message sender kind) name =
    (bic others : List ℕ) × SpellsBic bic sender × (name ≡ bic ++ byte "." ∷ (digits_of_type (mt_of kind) ++ byte "." ∷ (others ++ codes ".fin")))
IsNameOf Operator name = (front : List ℕ) × (name ≡ front ++ codes ".json")
IsNameOf question name = ⊥

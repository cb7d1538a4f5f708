-- The lines that ask something.
use Rattle.std.specs.Prelude.{◌≡◌, ℕ, ◌≤◌, false, List, [], ◌∷◌, ◌++◌, length, All, codes, Option, Some, None, Ok}
use Rattle.std.specs.Str.{byte}
use Rattle.desk_book.specs.declared.limits.TheConstants.{LONGEST_LINE, MOST_DIGITS}
use Rattle.desk_codes.specs.Bic.{ReadsBic}
use Rattle.desk_codes.specs.Characters.{IsDigit}
use Rattle.desk_codes.specs.Number.{number_of}
use Rattle.desk_msg.specs.MessageType.{digits_of_type}
use Rattle.desk_book.specs.declared.requests.question.Question.{Question}
use Rattle.desk_book.specs.declared.requests.question.Question.TheVariants.{Message, Operator, Status, Sent, Holdings, Sums}
use Rattle.desk_book.specs.Asked.{Asked, has_text, mt_of}

-- the characters are a BIC of the party
abbrev pub SpellsBic : List ℕ → List ℕ → Type 0
SpellsBic bic party = ReadsBic bic (Ok party)

-- digits that write a number, some and few enough
pub record IsCount (digits : List ℕ) (number : ℕ) : Type 0 where
  pub some : 1 ≤ length digits
  pub short : length digits ≤ MOST_DIGITS
  pub all : All IsDigit digits
  pub is : number ≡ number_of digits

-- the line begins with this word, a BIC of the party and a space, and this stands behind
abbrev pub NamesParty : List ℕ → List ℕ → List ℕ → List ℕ → Type 0
NamesParty word party behind line = (bic : List ℕ) × SpellsBic bic party × (line ≡ word ++ (bic ++ byte " " ∷ behind))

-- The line that asks a question with this text, one equation a form. Single spaces part the words.
abbrev pub IsLineOf : Question → List ℕ → List ℕ → Type 0
IsLineOf (Message sender kind) text line = NamesParty (codes "in ") sender (digits_of_type (mt_of kind)) line
IsLineOf Operator text line = line ≡ codes "op"
IsLineOf (Status sender) text line = NamesParty (codes "status ") sender text line
IsLineOf (Sent receiver number) text line = (digits : List ℕ) × IsCount digits number × NamesParty (codes "sent ") receiver digits line
IsLineOf (Holdings owner) text line = NamesParty (codes "holdings ") owner text line
IsLineOf Sums text line = line ≡ codes "sums"

-- the text stands in a body behind the line, of those questions that have one
abbrev pub body_of : Question → List ℕ → Option (List ℕ)
body_of (Message sender kind) text = Some text
body_of Operator text = Some text
body_of question text = None

-- A line that says this, with this body behind it or none, asks the request. Where a question is asked with no text, it is
-- empty.
pub record Asks (said : List ℕ) (body : Option (List ℕ)) (a : Asked) : Type 0 where
  pub short : length said ≤ LONGEST_LINE
  pub form : IsLineOf a.question a.text said
  pub behind : body_of a.question a.text ≡ body
  pub empty : has_text a.question ≡ false → a.text ≡ []

-- Objects of texts and whole numbers alone, as they are read from the front of a text. Only proofs and private contracts
-- speak of it.
use Rattle.std.specs.Prelude.{◌≡◌, ◌<◌, ◌^◌, ℕ, List, [], ◌∷◌, ◌++◌, decimal}
use Rattle.std.specs.Str.{IsAscii}
use Rattle.json.specs.Lex.{Lexeme, token, colon, lex, between}
use Rattle.json.specs.Token as json
use Rattle.serde_json.specs.Data.{Data, object, Members, no_members, string, number, unsigned, put}
use Rattle.desk_book.specs.declared.requests.flat.Member.{Member}
use Rattle.desk_book.specs.declared.requests.flat.Scalar.{Scalar}
use Rattle.desk_book.specs.declared.requests.flat.Scalar.TheVariants.{Text, Whole}

-- the value that a member has
abbrev pub scalar_data : Scalar → Data
scalar_data (Text text) = string text.now
scalar_data (Whole n) = number (unsigned n)

-- a whole number has at most 64 bits
abbrev pub Fits : Scalar → Type 0
Fits (Text text) = Unit {0}
Fits (Whole n) = n < 2 ^ 64

-- these members, put in one after another
abbrev pub put_all : List Member → Members → Members
put_all [] found = found
put_all (m ∷ ms) found = put_all ms (put m.name.now (scalar_data m.value) found)

-- the object with these members
abbrev pub object_of : List Member → Data
object_of ms = object (put_all ms no_members)

-- the token of a value, and what a member is to the grammar
abbrev pub scalar_token : Scalar → json.Token
scalar_token (Text text) = json.string text.now
scalar_token (Whole n) = json.number (decimal n)

abbrev pub member_lexemes : Member → List Lexeme
member_lexemes m = token (json.string m.name.now) ∷ colon ∷ token (scalar_token m.value) ∷ []

-- these lexemes stand at the front of the text, and the rest behind them; where the rest has seven bits a byte, so has the text
pub record Passes (lexemes : List Lexeme) (text rest : List ℕ) : Type 0 where
  pub lexed : lex between text ≡ lexemes ++ lex between rest
  pub ascii : IsAscii rest → IsAscii text

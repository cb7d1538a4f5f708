-- The paths of the desk (RFC 3986, section 3.3), and what they ask.
use Rattle.std.specs.Prelude.{◌≡◌, ◌≢◌, ◌≤◌, ℕ, List, ◌∷◌, ◌++◌, length, All, codes}
use Rattle.std.specs.Str.{byte}
use Rattle.desk_msg.specs.MessageType.{digits_of_type}
use Rattle.desk_book.specs.declared.requests.question.Question.{Question}
use Rattle.desk_book.specs.declared.requests.question.Question.TheVariants.{Message, Operator, Status, Holdings, Sent, Sums}
use Rattle.desk_book.specs.Asked.{mt_of}
use Rattle.desk_book.specs.Forms.{IsCount, SpellsBic}
use Rattle.desk_http.specs.declared.route.Path.{Path as BorrowedPath}
use Rattle.desk_http.specs.declared.route.Path.TheVariants as borrowed

-- a path of the desk, with its parts as they stand in a target
pub data Path : Type 0 where
  message : (bic mt : List ℕ) → Path
  operator : Path
  status : (bic : List ℕ) → Path
  holdings : (bic : List ℕ) → Path
  sent : (bic number : List ℕ) → Path
  sums : Path

-- a part of a path: some characters, none of them a slash
pub record IsPart (part : List ℕ) : Type 0 where
  pub some : 1 ≤ length part
  pub no_slash : All (λ c. c ≢ byte "/") part

-- The target is this path, one equation a path.
abbrev pub IsPath : Path → List ℕ → Type 0
IsPath (message bic mt) target = IsPart bic × IsPart mt × (target ≡ codes "/in/" ++ (bic ++ byte "/" ∷ mt))
IsPath operator target = target ≡ codes "/ops"
IsPath (status bic) target = IsPart bic × (target ≡ codes "/status/" ++ bic)
IsPath (holdings bic) target = IsPart bic × (target ≡ codes "/holdings/" ++ bic)
IsPath (sent bic number) target = IsPart bic × IsPart number × (target ≡ codes "/out/" ++ (bic ++ byte "/" ∷ number))
IsPath sums target = target ≡ codes "/sums"

-- the path of the code
abbrev pub path_of : BorrowedPath → Path
path_of (borrowed.Message bic mt) = message bic.now mt.now
path_of borrowed.Operator = operator
path_of (borrowed.Status bic) = status bic.now
path_of (borrowed.Holdings bic) = holdings bic.now
path_of (borrowed.Sent bic number) = sent bic.now number.now
path_of borrowed.Sums = sums

-- its method (RFC 9110, section 9)
abbrev pub method_of : Path → List ℕ
method_of (sent bic number) = codes "GET"
method_of sums = codes "GET"
method_of path = codes "POST"

-- The path names this question: its parts are a party's BIC, the digits of an instruction's type, one to nine digits of a
-- number.
abbrev pub Names : Path → Question → Type 0
Names (message bic mt) (Message sender kind) = SpellsBic bic sender × (digits_of_type (mt_of kind) ≡ mt)
Names operator Operator = Unit {0}
Names (status bic) (Status sender) = SpellsBic bic sender
Names (holdings bic) (Holdings owner) = SpellsBic bic owner
Names (sent bic number) (Sent receiver count) = SpellsBic bic receiver × IsCount number count
Names sums Sums = Unit {0}
Names path question = ⊥

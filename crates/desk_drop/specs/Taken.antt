-- A folder, taken.
use Rattle.std.specs.Prelude.{◌≡◌, ℕ, Bool, true, List, [], ◌∷◌, codes, Option, Some, None, Result, Ok, Err}
use Rattle.desk_rules.specs.declared.answers.reply.Reply.{Reply}
use Rattle.desk_rules.specs.Books.{Books}
use Rattle.desk_rules.specs.Reply.{untyped_reply}
use Rattle.desk_register.specs.View.{View}
use Rattle.desk_book.specs.declared.fault.Fault.{Fault}
use Rattle.desk_book.specs.declared.fault.Fault.TheVariants.{Memory}
use Rattle.desk_book.specs.Answered.{AnsweredInTurn, says_closed}
use Rattle.desk_book.specs.Asked.{Asked}
use Rattle.desk_book.specs.Headline.{KeepsPromise}
use Rattle.desk_book.specs.Held.{Holds}

-- the requests among what files ask
abbrev pub asked_in : List (Option Asked) → List Asked
asked_in [] = []
asked_in (Some asked ∷ more) = asked ∷ asked_in more
asked_in (None ∷ more) = asked_in more

-- and the answers to them, among the answers to the files
abbrev pub answers_in : List (Option Asked) → List (Result Reply Fault) → List (Result Reply Fault)
answers_in (Some asked ∷ more) (answer ∷ answers) = answer ∷ answers_in more answers
answers_in (None ∷ more) (answer ∷ answers) = answers_in more answers
answers_in requests answers = []

-- the answer to a file whose name says nothing
abbrev pub name_refused : Reply
name_refused = untyped_reply 422 (codes "refused 40")

-- it is this, or memory is wanting for it
abbrev pub IsNameRefusal : Result Reply Fault → Type 0
IsNameRefusal (Ok reply) = reply ≡ name_refused
IsNameRefusal (Err fault) = fault ≡ Memory

-- Each file has one answer: one whose name says nothing is refused, whatever the desk's state; of the others each that
-- comes behind an answer that the desk is closed is answered so too.
abbrev pub AreAnswered : Bool → List (Option Asked) → List (Result Reply Fault) → Bool → Type 0
AreAnswered was [] [] is = is ≡ was
AreAnswered was (Some asked ∷ more) (answer ∷ answers) is = (was ≡ true → says_closed answer ≡ true) × AreAnswered (says_closed answer) more answers is
AreAnswered was (None ∷ more) (answer ∷ answers) is = IsNameRefusal answer × AreAnswered was more answers is
AreAnswered was requests answers is = ⊥

-- What files ask was answered from these books: the requests among it in turn, to the books that the desk holds then, and
-- with which it keeps its promise.
pub record HasTaken (limit : ℕ) (was : Bool) (books : Books) (requests : List (Option Asked)) (answers : List (Result Reply Fault)) (is : Bool) (view : View) : Type 0 where
  pub last : Books
  pub in_turn : AnsweredInTurn limit was books (asked_in requests) (answers_in requests answers) is last
  pub holds : Holds is view last
  pub promise : KeepsPromise is view last

-- A connection, served.
use Rattle.std.specs.Prelude.{ℕ, Bool, List, [], ◌∷◌, Option, None, IfSome, Result, Ok, Err}
use Rattle.std.specs.Io.KnownBytes.{Appends}
use Rattle.desk_rules.specs.declared.answers.reply.Reply.{Reply}
use Rattle.desk_rules.specs.Books.{Books}
use Rattle.desk_register.specs.View.{View, IfCounted}
use Rattle.desk_book.specs.declared.fault.Fault.{Fault}
use Rattle.desk_book.specs.Answered.{AnsweredInTurn, AreBlamed}
use Rattle.desk_book.specs.Asked.{Asked}
use Rattle.desk_book.specs.Headline.{KeepsPromise}
use Rattle.desk_book.specs.Held.{Holds}
use Rattle.desk_book.specs.WrittenAnswers.{status_of_fault, text_of_fault}
use Rattle.desk_http.specs.declared.refusal.Refusal.{Refusal}
use Rattle.desk_http.specs.Connection.{Connection}
use Rattle.desk_http.specs.Refusals.{refusal_text, status_of_refusal}
use Rattle.desk_http.specs.Response.{response}

-- the response to a request with this answer
abbrev pub answer_response : Result Reply Fault → List ℕ
answer_response (Ok reply) = response reply.status reply.mt reply.text
answer_response (Err fault) = response (status_of_fault fault) None (text_of_fault fault)

-- the response to what is refused
abbrev pub refusal_response : Refusal → List ℕ
refusal_response refusal = response (status_of_refusal refusal) None (refusal_text refusal)

-- what is asked of the desk: the one request of a stream, or nothing
abbrev pub asked_of_desk : Result Asked Refusal → List Asked
asked_of_desk (Ok asked) = asked ∷ []
asked_of_desk (Err refusal) = []

-- the response to a stream whose request, where it asks one, has this answer
abbrev pub response_to : Result Asked Refusal → List (Result Reply Fault) → List ℕ
response_to (Err refusal) answers = refusal_response refusal
response_to (Ok asked) [] = []
response_to (Ok asked) (answer ∷ answers) = answer_response answer

-- What a stream asks was asked of a desk with these books, once, to the books that the desk holds then, and with which it
-- keeps its promise. The device is blamed where it failed in it.
pub record Serves (was : Bool) (books : Books) (input : Option (List ℕ)) (is : Bool) (old new : View) : Type 0 where
  pub outcome : Result Asked Refusal
  pub asks : IfSome input (λ stream. Connection stream outcome)
  pub answers : List (Result Reply Fault)
  pub last : Books
  pub in_turn : AnsweredInTurn old.room was books (asked_of_desk outcome) answers is last
  pub holds : Holds is new last
  pub promise : KeepsPromise is new last
  pub blame : IfCounted new (AreBlamed answers old.device.failures new.device.failures)

-- the same, and the response was written
pub record Responds (was : Bool) (books : Books) (input before after : Option (List ℕ)) (is : Bool) (old new : View) : Type 0 where
  pub served : Serves was books input is old new
  pub written : Appends before after (response_to served.outcome served.answers)

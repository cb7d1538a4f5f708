-- A script, played.
use Rattle.std.specs.Prelude.{ℕ, Bool, List, [], ◌∷◌, ◌++◌, Option, Result, Ok, Err}
use Rattle.std.specs.Io.KnownBytes.{Appends}
use Rattle.desk_rules.specs.declared.answers.reply.Reply.{Reply}
use Rattle.desk_rules.specs.Books.{Books}
use Rattle.desk_register.specs.View.{View, IfCounted}
use Rattle.desk_book.specs.declared.fault.Fault.{Fault}
use Rattle.desk_streams.specs.declared.fault.InputFault.{InputFault}
use Rattle.desk_streams.specs.declared.fault.InputFault.TheVariants.{Memory, ReadFailed, TooLong}
use Rattle.desk_book.specs.declared.fault.PlayFault.{PlayFault}
use Rattle.desk_book.specs.declared.fault.PlayFault.TheVariants as plays
use Rattle.desk_book.specs.Answered.{AnsweredInTurn, AreBlamed}
use Rattle.desk_book.specs.Asked.{Asked}
use Rattle.desk_book.specs.Headline.{KeepsPromise}
use Rattle.desk_book.specs.Held.{Holds}
use Rattle.desk_book.specs.Script.{Item, ask, bad_line, Script}
use Rattle.desk_book.specs.WrittenAnswers.{written_answer, written_fault, written_bad_line}

-- why a script that could not be read was not played
abbrev pub unplayed : InputFault → PlayFault
unplayed Memory = plays.Memory
unplayed ReadFailed = plays.ReadFailed
unplayed TooLong = plays.TooLong

-- what is written for an answer
abbrev pub answer_text : Result Reply Fault → List ℕ
answer_text (Ok reply) = written_answer reply.status reply.mt reply.text
answer_text (Err fault) = written_fault fault

-- the requests among the items of a script
abbrev pub asked_in : List Item → List Asked
asked_in [] = []
asked_in (bad_line ∷ items) = asked_in items
asked_in (ask asked ∷ items) = asked ∷ asked_in items

-- What is written for items whose requests have these answers: item by item, the answer to a bad line, or the next of
-- the answers.
abbrev pub answers_text : List Item → List (Result Reply Fault) → List ℕ
answers_text [] answers = []
answers_text (bad_line ∷ items) answers = written_bad_line ++ answers_text items answers
answers_text (ask asked ∷ items) [] = []
answers_text (ask asked ∷ items) (answer ∷ answers) = answer_text answer ++ answers_text items answers

-- Items were played from these books, and their requests got these answers in turn, to the books that the desk holds
-- then, and with which it keeps its promise. The device is blamed where it failed in them.
pub record HasPlayed (was : Bool) (books : Books) (items : List Item) (answers : List (Result Reply Fault)) (is : Bool) (old new : View) : Type 0 where
  pub last : Books
  pub in_turn : AnsweredInTurn old.room was books (asked_in items) answers is last
  pub holds : Holds is new last
  pub promise : KeepsPromise is new last
  pub blame : IfCounted new (AreBlamed answers old.device.failures new.device.failures)

-- a whole script was played, and its answers written
pub record PlaysScript (was : Bool) (books : Books) (script : List ℕ) (before after : Option (List ℕ)) (is : Bool) (old new : View) : Type 0 where
  pub items : List Item
  pub spells : Script script items
  pub answers : List (Result Reply Fault)
  pub played : HasPlayed was books items answers is old new
  pub written : Appends before after (answers_text items answers)

-- The first items of a script were played; what stands behind them spells the items that follow.
pub record PlaysFront (was : Bool) (books : Books) (script : List ℕ) (is : Bool) (old new : View) : Type 0 where
  pub front : List Item
  pub behind : List ℕ
  pub spells : (items : List Item) → Script behind items → Script script (front ++ items)
  pub answers : List (Result Reply Fault)
  pub played : HasPlayed was books front answers is old new

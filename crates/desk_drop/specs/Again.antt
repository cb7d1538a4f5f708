-- A folder that is taken again.
use Rattle.std.specs.Prelude.{ℕ, List, [], ◌∷◌, Result, Ok, Err}
use Rattle.desk_rules.specs.declared.answers.reply.Reply.{Reply}
use Rattle.desk_rules.specs.declared.answers.verdict.Verdict.TheVariants.{Accept}
use Rattle.desk_rules.specs.declared.history.entry.Entry.{Entry}
use Rattle.desk_rules.specs.Books.{Books}
use Rattle.desk_rules.specs.Verdict.{IsVerdict}
use Rattle.desk_book.specs.declared.fault.Fault.{Fault}
use Rattle.desk_book.specs.declared.requests.task.Task.TheVariants.{Decide}
use Rattle.desk_book.specs.Answered.{Step}
use Rattle.desk_book.specs.Asked.{Asked}
use Rattle.desk_book.specs.Task.{IsTask}

-- the request is one that these books accept
pub record IsAccepted (limit : ℕ) (books : Books) (asked : Asked) : Type 0 where
  pub entry : Entry
  pub reads : IsTask asked (Decide entry)
  pub accepts : IsVerdict limit books entry Accept

-- Requests were answered in turn, and later the same ones again: from the first books the first time, from the second books the
-- second time, to the last books. What was accepted the first time gets the same reply the second time, and changes nothing
-- then. A fault changes nothing. What changed nothing the first time is answered anew, by the books of then.
pub data AnsweredAgain (limit : ℕ) : Books → Books → List Asked → List (Result Reply Fault) → List (Result Reply Fault) → Books → Type 0 where
  ended : {books last : Books} → AnsweredAgain limit books last [] [] [] last
  repeated : {books next now last : Books} {asked : Asked} {reply : Reply} {more : List Asked} {firsts seconds : List (Result Reply Fault)} → IsAccepted limit books asked
      → Step limit books asked (Ok reply) next → AnsweredAgain limit next now more firsts seconds last → AnsweredAgain limit books now (asked ∷ more) (Ok reply ∷ firsts) (Ok reply ∷ seconds) last
  failed : {books next now last : Books} {asked : Asked} {answer : Result Reply Fault} {fault : Fault} {more : List Asked} {firsts seconds : List (Result Reply Fault)}
      → Step limit books asked answer next → AnsweredAgain limit next now more firsts seconds last → AnsweredAgain limit books now (asked ∷ more) (answer ∷ firsts) (Err fault ∷ seconds) last
  anew : {books now then last : Books} {asked : Asked} {answer : Result Reply Fault} {reply : Reply} {more : List Asked} {firsts seconds : List (Result Reply Fault)}
      → Step limit books asked answer books → Step limit now asked (Ok reply) then → AnsweredAgain limit books then more firsts seconds last
      → AnsweredAgain limit books now (asked ∷ more) (answer ∷ firsts) (Ok reply ∷ seconds) last

-- What `desk report` and `desk journal` answer: what stands at a moment, and what led to it.
use Rattle.std.specs.Prelude.{◌≡◌, ◌≢◌, ◌⊎◌, ◌≤◌, ℕ, Bool, true, false, List, [], ◌++◌, length, All, Option, Result, Ok, Err, codes, unwrap_or}
use Rattle.desk_rules.specs.declared.answers.reply.Reply.{Reply}
use Rattle.desk_rules.specs.declared.limits.TheConstants.{MOST_ENTRIES}
use Rattle.desk_rules.specs.Books.{Books}
use Rattle.desk_rules.specs.Content.{Content}
use Rattle.desk_register.specs.View.{View}
use Rattle.desk_engine.specs.Applied.{Keeps, no_books}
use Rattle.desk_register.specs.declared.fault.WalkFault.{WalkFault}
use Rattle.desk_register.specs.declared.fault.WalkFault.TheVariants as walks
use Rattle.desk_msg.specs.declared.writing.statement_row.SinkFault.TheVariants as sinks
use Rattle.desk_book.specs.declared.fault.Fault.{Fault}
use Rattle.desk_streams.specs.declared.fault.InputFault.{InputFault}
use Rattle.desk_book.specs.declared.fault.PlayFault.{PlayFault}
use Rattle.desk_book.specs.declared.fault.PlayFault.TheVariants as plays
use Rattle.desk_book.specs.declared.limits.TheConstants.{LONGEST_SCRIPT}
use Rattle.desk_book.specs.Answered.{AnsweredInTurn}
use Rattle.desk_engine.specs.Ready.{IsReady, KeepsFormed}
use Rattle.desk_book.specs.Played.{asked_in}
use Rattle.desk_book.specs.Script.{Item, Script}
use Rattle.desk_report.specs.declared.format.Format.{Format}
use Rattle.desk_report.specs.declared.format.Format.TheVariants.{Text, Json}
use Rattle.desk_journal.specs.Journal.{IsJournalText}
use Rattle.desk_report.specs.Report.{IsReportText}
use Rattle.desk.specs.Input.{Came, MayGiveNone, failure_of}
use Rattle.desk.specs.PlayAnswer.{AreKept, IsReplyOrMemory}
use Rattle.desk.specs.Status.{IsFailureTold, IsMemoryOr, IsUnopened, failure_line}
use Rattle.desk.specs.declared.answers.report.Shown.{Shown}
use Rattle.desk.specs.declared.answers.report.Shown.TheVariants.{Journal, Report}
use Rattle.desk.specs.declared.status.Failure.{Failure}
use Rattle.desk.specs.declared.status.Failure.TheVariants.{Memory, Storage, Input}
use Rattle.desk.specs.declared.status.Status.{Status}
use Rattle.desk.specs.declared.status.Status.TheVariants.{Done, Fault as Failed}

-- the text of what is shown, as JSON: the report of these parts, or the journal from a number on, or all of it
abbrev pub IsShownText : Books → Content → Shown → List ℕ → Type 0
IsShownText books content (Report parts) text = IsReportText books content parts text
IsShownText books content (Journal from) text = IsJournalText books (unwrap_or from 1) text

-- what is shown by the tables of these books, as JSON
pub record Stands (shown : Shown) (books : Books) (text : List ℕ) : Type 0 where
  pub content : Content
  pub keeps : Keeps MOST_ENTRIES books content
  pub is_shown : IsShownText books content shown text

-- It was printed in a line; or a front of it, and why it ends there in a line behind it.
pub data IsObjectFrom (shown : Shown) (books : Books) (status : Status) (IsPrinted : List ℕ → Type 0) : Type 0 where
  told_report : (text : List ℕ) → Stands shown books text → status ≡ Done → IsPrinted (text ++ codes "\n") → IsObjectFrom shown books status IsPrinted
  told_front : (front rest : List ℕ) → Stands shown books (front ++ rest) → (failure : Failure) → IsMemoryOr Storage failure → status ≡ Failed → IsPrinted (front ++ (codes "\n" ++ (failure_line failure ++ codes "\n")))
      → IsObjectFrom shown books status IsPrinted

-- What is told of these books. Of lines for people the status alone is said.
abbrev pub IsOverviewFrom : Format → Shown → Books → Status → (List ℕ → Type 0) → Type 0
IsOverviewFrom Json shown books status IsPrinted = IsObjectFrom shown books status IsPrinted
IsOverviewFrom Text shown books status IsPrinted = (status ≡ Done) ⊎ (status ≡ Failed)

-- what ends the last line: a JSON object has no line end of its own
abbrev pub line_end : Format → List ℕ
line_end Json = codes "\n"
line_end Text = []

-- the last line ends within it, and why is told behind
abbrev pub IsBrokenOffAs : Failure → Format → Status → (List ℕ → Type 0) → Type 0
IsBrokenOffAs failure format status IsPrinted = (status ≡ Failed) × IsPrinted (line_end format ++ (failure_line failure ++ codes "\n"))

-- what is told behind what was written, or behind a front of it; where the writer failed nothing is
abbrev pub IsOverviewEnd : Result (Unit {0}) WalkFault → Format → Status → (List ℕ → Type 0) → Type 0
IsOverviewEnd (Ok done) format status IsPrinted = (status ≡ Done) × IsPrinted (line_end format)
IsOverviewEnd (Err (walks.Sink sinks.Write)) format status IsPrinted = ⊥
IsOverviewEnd (Err walks.Storage) format status IsPrinted = IsBrokenOffAs Storage format status IsPrinted
IsOverviewEnd (Err fault) format status IsPrinted = IsBrokenOffAs Memory format status IsPrinted

-- A whole script was played on a desk of no history, in memory, to these books.
pub record PlaysTo (script : List ℕ) (books : Books) : Type 0 where
  pub items : List Item
  pub answers : List (Result Reply Fault)
  pub short : length script ≤ LONGEST_SCRIPT
  pub spells : Script script items
  pub in_turn : AnsweredInTurn MOST_ENTRIES false no_books (asked_in items) answers false books
  pub in_memory : All IsReplyOrMemory answers

-- The script that came was played, and the register keeps the books that it came to.
pub record IsAfterScript (given : Option (List ℕ)) (view : View) : Type 0 where
  pub script : List ℕ
  pub books : Books
  pub came : Came given script
  pub plays : PlaysTo script books
  pub room : view.room ≡ MOST_ENTRIES
  pub ready : IsReady false view
  pub keeps : KeepsFormed MOST_ENTRIES books view.content

-- the failure that is told for a script that was not played
abbrev pub failure_of_played : PlayFault → Failure
failure_of_played plays.ReadFailed = Input
failure_of_played plays.TooLong = Input
failure_of_played fault = Memory

-- no script was played, for this failure
abbrev pub MayPlayNone : Option (List ℕ) → Type 0 → Bool → Failure → Type 0
MayPlayNone given IsUnread may_fail failure = (fault : InputFault) × MayGiveNone LONGEST_SCRIPT given IsUnread may_fail fault × (failure ≡ failure_of fault)

-- What stands after the script that came is told; or why none could be played, alone, as a fault.
pub data IsOverviewAnswer (shown : Shown) (format : Format) (given : Option (List ℕ)) (IsUnread : Type 0) (may_fail : Bool) (status : Status) (IsPrinted : List ℕ → Type 0) : Type 0 where
  told_after : (script : List ℕ) (books : Books) → Came given script → PlaysTo script books → IsOverviewFrom format shown books status IsPrinted
      → IsOverviewAnswer shown format given IsUnread may_fail status IsPrinted
  told_no_script : (fault : InputFault) → MayGiveNone LONGEST_SCRIPT given IsUnread may_fail fault → IsFailureTold (failure_of fault) status IsPrinted
      → IsOverviewAnswer shown format given IsUnread may_fail status IsPrinted

-- the whole of it, as JSON, and behind it that the file could not be closed
abbrev pub IsUnclosed : Format → Shown → Books → (List ℕ → Type 0) → Type 0
IsUnclosed Json shown books IsPrinted = (text : List ℕ) × Stands shown books text × IsPrinted ((text ++ codes "\n") ++ (failure_line Storage ++ codes "\n"))
IsUnclosed Text shown books IsPrinted = Unit {0}

-- What is told by these books of a file that was opened, which was closed then, or could not be: what stands; or that, and that the
-- file could not be closed is told behind.
pub data IsOpenOverviewAnswer (has_closed : Bool) (shown : Shown) (format : Format) (books : Books) (status : Status) (IsPrinted : List ℕ → Type 0) : Type 0 where
  told_from : IsOverviewFrom format shown books status IsPrinted → (status ≢ Failed → has_closed ≡ true) → IsOpenOverviewAnswer has_closed shown format books status IsPrinted
  told_unclosed : has_closed ≡ false → status ≡ Failed → IsUnclosed format shown books IsPrinted → IsOpenOverviewAnswer has_closed shown format books status IsPrinted

-- The file was not opened, which is told alone; or what stands is told by the books of some accepted history. (Which that is, is said
-- of what tells of the register that was opened.)
pub data IsFileOverviewAnswer (shown : Shown) (format : Format) (status : Status) (IsPrinted : List ℕ → Type 0) : Type 0 where
  told_unopened : IsUnopened status IsPrinted → IsFileOverviewAnswer shown format status IsPrinted
  told_opened : (books : Books) → AreKept books → (has_closed : Bool) → IsOpenOverviewAnswer has_closed shown format books status IsPrinted → IsFileOverviewAnswer shown format status IsPrinted

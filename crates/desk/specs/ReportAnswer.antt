-- What is told of what a desk holds: `desk holdings` and `desk sums`.
use Rattle.std.specs.Prelude.{◌≡◌, ◌≢◌, ◌⊎◌, ◌==◌, ℕ, Bool, true, false, List, [], ◌++◌, Option, Some, None, Result, Ok, Err, IfOk, codes, if◌then◌else◌}
use Rattle.desk_rules.specs.Books.{Books}
use Rattle.desk_rules.specs.declared.answers.reply.Reply.{Reply}
use Rattle.desk_rules.specs.declared.limits.TheConstants.{MOST_ENTRIES}
use Rattle.desk_book.specs.Answered.{Step}
use Rattle.desk_book.specs.Asked.{Asked, asked_with}
use Rattle.desk_book.specs.declared.fault.ToFault.{ToFault}
use Rattle.desk_book.specs.declared.fault.ToFault.TheVariants as to
use Rattle.desk_book.specs.declared.requests.question.Question.TheVariants as questions
use Rattle.desk_book.specs.WrittenTo.{reply_with}
use Rattle.desk_book.specs.declared.answers.head.Head.{Head}
use Rattle.desk.specs.PlayAnswer.{AreKept}
use Rattle.desk.specs.Status.{IsMemoryOr, IsUnopened, failure_line}
use Rattle.desk.specs.declared.status.Failure.{Failure}
use Rattle.desk.specs.declared.status.Failure.TheVariants.{Memory, Storage, Closed}
use Rattle.desk.specs.declared.status.Status.{Status}
use Rattle.desk.specs.declared.status.Status.TheVariants.{Done, Refused, Fault}

-- the question that is answered: of an account of a participant, or of the totals where none is named
abbrev pub asked_for : Option (List ℕ) → List ℕ → Asked
asked_for (Some owner) account = asked_with (questions.Holdings owner) account
asked_for None account = asked_with questions.Sums []

-- the exit status of an answer: 200 answers what was asked
abbrev pub status_of_answer : ℕ → Status
status_of_answer number = if number == 200 then Done else Refused

-- a text is a front of an answer's, if there is any of it
abbrev pub IsFrontOf : ℕ → Books → Asked → List ℕ → Type 0
IsFrontOf limit books asked front = front ≢ [] → (head : Head) × (rest : List ℕ) × Step limit books asked (Ok (reply_with head (front ++ rest))) books

-- a line ends within an answer, and why is told behind it
abbrev pub IsBrokenOff : Failure → Status → (List ℕ → Type 0) → Type 0
IsBrokenOff failure status IsPrinted = (status ≡ Fault) × IsPrinted (codes "\n" ++ (failure_line failure ++ codes "\n"))

-- what is told behind an answer that was written, or behind a front of one; where the writer failed nothing is
abbrev pub IsReportTold : Result Head ToFault → Status → (List ℕ → Type 0) → Type 0
IsReportTold (Ok head) status IsPrinted = (status ≡ status_of_answer head.status) × IsPrinted (codes "\n")
IsReportTold (Err to.WriteFailed) status IsPrinted = ⊥
IsReportTold (Err to.Memory) status IsPrinted = IsBrokenOff Memory status IsPrinted
IsReportTold (Err to.Storage) status IsPrinted = IsBrokenOff Storage status IsPrinted
IsReportTold (Err to.Closed) status IsPrinted = IsBrokenOff Closed status IsPrinted
IsReportTold (Err to.Lost) status IsPrinted = IsBrokenOff Closed status IsPrinted

-- why an answer ends before its end
abbrev pub IsBreak : Failure → Type 0
IsBreak failure = IsMemoryOr Storage failure ⊎ (failure ≡ Closed)

-- The whole answer by these books was printed, in a line; or a front of it, and why it ends there in a line behind it.
pub data IsReportFrom (limit : ℕ) (books : Books) (asked : Asked) (status : Status) (IsPrinted : List ℕ → Type 0) : Type 0 where
  told_answer : (reply : Reply) → Step limit books asked (Ok reply) books → status ≡ status_of_answer reply.status → IsPrinted (reply.text ++ codes "\n") → IsReportFrom limit books asked status IsPrinted
  told_front : (front : List ℕ) → IsFrontOf limit books asked front → (failure : Failure) → IsBreak failure → status ≡ Fault → IsPrinted (front ++ (codes "\n" ++ (failure_line failure ++ codes "\n")))
      → IsReportFrom limit books asked status IsPrinted

-- Whichever of these books a desk holds, the question is answered so by it, and it is left with them; where that tells no fault it is
-- open still.
pub record ReportsFrom {E : Type 0} (limit : ℕ) (AreBooks : Books → Type 0) (IsLeftSo : Bool → Books → Type 0) (asked : Asked) (result : Result Status E) (IsPrinted : List ℕ → Type 0) : Type 0 where
  pub told : (books : Books) → AreBooks books → IfOk result (λ status. IsReportFrom limit books asked status IsPrinted)
  pub left : (books : Books) → AreBooks books → (is_closed : Bool) × IsLeftSo is_closed books
  pub stays : (books : Books) → AreBooks books → IfOk result (λ status. status ≢ Fault → IsLeftSo false books)

-- What is told by these books of a file that was opened, which was closed then, or could not be: the answer; or that, and that the
-- file could not be closed is told behind.
pub data IsOpenReportAnswer (has_closed : Bool) (books : Books) (asked : Asked) (status : Status) (IsPrinted : List ℕ → Type 0) : Type 0 where
  told_from : IsReportFrom MOST_ENTRIES books asked status IsPrinted → (status ≢ Fault → has_closed ≡ true) → IsOpenReportAnswer has_closed books asked status IsPrinted
  told_unclosed : (reply : Reply) → Step MOST_ENTRIES books asked (Ok reply) books → has_closed ≡ false → status ≡ Fault → IsPrinted ((reply.text ++ codes "\n") ++ (failure_line Storage ++ codes "\n"))
      → IsOpenReportAnswer has_closed books asked status IsPrinted

-- The file was not opened, which is told alone; or the answer is told by the books of some accepted history. (Which that is, is said
-- of what reports on the register that was opened.)
pub data IsReportAnswer (asked : Asked) (status : Status) (IsPrinted : List ℕ → Type 0) : Type 0 where
  told_unopened : IsUnopened status IsPrinted → IsReportAnswer asked status IsPrinted
  told_opened : (books : Books) → AreKept books → (has_closed : Bool) → IsOpenReportAnswer has_closed books asked status IsPrinted → IsReportAnswer asked status IsPrinted

-- a report left its books as they were, and the desk open where it was told without a fault
pub record LeavesBooks {E : Type 0} (told : Result Status E) (IsLeftSo : Bool → Books → Type 0) (books : Books) : Type 0 where
  pub is_closed : Bool
  pub left : IsLeftSo is_closed books
  pub stays : IfOk told (λ status. status ≢ Fault → IsLeftSo false books)

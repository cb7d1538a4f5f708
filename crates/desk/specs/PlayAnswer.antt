-- What `desk play` answers.
use Rattle.std.specs.Prelude.{◌≡◌, ◌≢◌, ◌⊎◌, ◌≤◌, ℕ, Bool, true, false, List, ◌++◌, length, All, Option, Result, Ok, Err, IfOk, OnErr, codes}
use Rattle.desk_book.specs.declared.limits.TheConstants.{LONGEST_SCRIPT}
use Rattle.desk_rules.specs.declared.answers.reply.Reply.{Reply}
use Rattle.desk_rules.specs.Books.{Books}
use Rattle.desk_rules.specs.Content.{Content}
use Rattle.desk_rules.specs.declared.limits.TheConstants.{MOST_ENTRIES}
use Rattle.desk_register.specs.View.{View}
use Rattle.desk_book.specs.declared.fault.Fault.{Fault}
use Rattle.desk_book.specs.declared.fault.Fault.TheVariants as desk_fault
use Rattle.desk_streams.specs.declared.fault.InputFault.{InputFault}
use Rattle.desk_book.specs.declared.fault.PlayFault.{PlayFault}
use Rattle.desk_book.specs.declared.fault.PlayFault.TheVariants as plays
use Rattle.desk_book.specs.Answered.{AnsweredInTurn}
use Rattle.desk_book.specs.Headline.{Headline}
use Rattle.desk_engine.specs.Ready.{KeepsFormed}
use Rattle.desk_book.specs.Played.{answers_text, asked_in}
use Rattle.desk_book.specs.Script.{Item, Script}
use Rattle.desk.specs.Input.{Came, MayGiveNone, failure_of}
use Rattle.desk.specs.Status.{IsFailureTold, IsUnopened, failure_line}
use Rattle.desk.specs.declared.status.Failure.TheVariants.{Memory, Storage, Input}
use Rattle.desk.specs.declared.status.Status.{Status}
use Rattle.desk.specs.declared.status.Status.TheVariants as exit

-- a desk in memory has no other fault than want of memory
abbrev pub IsReplyOrMemory : Result Reply Fault → Type 0
IsReplyOrMemory (Ok reply) = Unit {0}
IsReplyOrMemory (Err fault) = fault ≡ desk_fault.Memory

-- The whole script, of at most `LONGEST_SCRIPT` bytes, was played on a desk that held these books, and is never closed, since it
-- is in memory; this is the text of its answers, and what the desk held then keeps its promise.
pub record IsPlayed (books : Books) (script text : List ℕ) : Type 0 where
  pub items : List Item
  pub answers : List (Result Reply Fault)
  pub last : Books
  pub held : Content
  pub short : length script ≤ LONGEST_SCRIPT
  pub spells : Script script items
  pub in_turn : AnsweredInTurn MOST_ENTRIES false books (asked_in items) answers false last
  pub promise : Headline MOST_ENTRIES last held
  pub in_memory : All IsReplyOrMemory answers
  pub written : text ≡ answers_text items answers

-- The answers of the script that came were written, with the status done; or why none could be read is told alone, as a
-- fault.
pub data IsPlayAnswer (books : Books) (given : Option (List ℕ)) (IsUnread : Type 0) (may_fail : Bool) (status : Status) (IsPrinted : List ℕ → Type 0) : Type 0 where
  told_answers : (script text : List ℕ) → Came given script → IsPlayed books script text → status ≡ exit.Done → IsPrinted text → IsPlayAnswer books given IsUnread may_fail status IsPrinted
  told_no_script : (fault : InputFault) → MayGiveNone LONGEST_SCRIPT given IsUnread may_fail fault → IsFailureTold (failure_of fault) status IsPrinted
      → IsPlayAnswer books given IsUnread may_fail status IsPrinted

-- What is told once a script was played: nothing more where it was, and else why not, alone. Where the writer failed nothing is.
abbrev pub IsPlayTold : Result (Unit {0}) PlayFault → Status → Type 0 → (List ℕ → Type 0) → Type 0
IsPlayTold (Ok done) status IsUnwritten IsPrinted = (status ≡ exit.Done) × IsUnwritten
IsPlayTold (Err plays.Memory) status IsUnwritten IsPrinted = IsFailureTold Memory status IsPrinted
IsPlayTold (Err plays.ReadFailed) status IsUnwritten IsPrinted = IsFailureTold Input status IsPrinted
IsPlayTold (Err plays.TooLong) status IsUnwritten IsPrinted = IsFailureTold Input status IsPrinted
IsPlayTold (Err plays.WriteFailed) status IsUnwritten IsPrinted = ⊥

-- The whole script was played on a desk that kept these books, and this is the text of its answers. There are tables of the books
-- that it came to, unless the desk was closed, that keep its promise; and this is what was left of it.
pub record IsPlayedFrom (limit : ℕ) (IsLeftSo : Bool → Books → Type 0) (books : Books) (script text : List ℕ) : Type 0 where
  pub items : List Item
  pub answers : List (Result Reply Fault)
  pub is_closed : Bool
  pub last : Books
  pub short : length script ≤ LONGEST_SCRIPT
  pub spells : Script script items
  pub in_turn : AnsweredInTurn limit false books (asked_in items) answers is_closed last
  pub promise : is_closed ≡ false → (held : Content) × Headline limit last held
  pub left : IsLeftSo is_closed last
  pub written : text ≡ answers_text items answers

-- as `IsPlayAnswer`, from these books; where no script was read the desk was left as it was
pub data IsPlayAnswerFrom (limit : ℕ) (IsLeftSo : Bool → Books → Type 0) (books : Books) (given : Option (List ℕ)) (IsUnread : Type 0) (may_fail : Bool) (status : Status) (IsPrinted : List ℕ → Type 0) : Type 0 where
  told_answers_from : (script text : List ℕ) → Came given script → IsPlayedFrom limit IsLeftSo books script text → status ≡ exit.Done → IsPrinted text
      → IsPlayAnswerFrom limit IsLeftSo books given IsUnread may_fail status IsPrinted
  told_no_script_from : (fault : InputFault) → MayGiveNone LONGEST_SCRIPT given IsUnread may_fail fault → IsFailureTold (failure_of fault) status IsPrinted → IsLeftSo false books
      → IsPlayAnswerFrom limit IsLeftSo books given IsUnread may_fail status IsPrinted

-- The first items of a script that came were played on a desk that kept these books, and what stands behind them spells the items
-- that follow; this is what was left of it.
pub record IsPlayedInFront (limit : ℕ) (IsLeftSo : Bool → Books → Type 0) (books : Books) (given : Option (List ℕ)) : Type 0 where
  pub script : List ℕ
  pub came : Came given script
  pub short : length script ≤ LONGEST_SCRIPT
  pub front : List Item
  pub behind : List ℕ
  pub spells : (items : List Item) → Script behind items → Script script (front ++ items)
  pub answers : List (Result Reply Fault)
  pub is_closed : Bool
  pub last : Books
  pub in_turn : AnsweredInTurn limit false books (asked_in front) answers is_closed last
  pub left : IsLeftSo is_closed last

-- What was played where a writer failed: nothing, or the first items of the script.
abbrev pub IsPlayedInPart : ℕ → (Bool → Books → Type 0) → Books → Option (List ℕ) → Type 0
IsPlayedInPart limit IsLeftSo books given = IsLeftSo false books ⊎ IsPlayedInFront limit IsLeftSo books given

-- these books an open desk holds whose register shows the first, where no wrong answer of a device was taken as true up to the second
abbrev pub AreHeld : View → View → Books → Type 0
AreHeld old new books = new.is_honest × KeepsFormed old.room books old.content

-- a register that shows this keeps these books, with room for as many entries as a desk may have
abbrev pub KeptBy : View → Books → Type 0
KeptBy view books = KeepsFormed MOST_ENTRIES books view.content

-- What a script is answered, whichever of these books a desk holds, and what it leaves, which a failed writer does not change.
pub record PlaysFrom {E : Type 0} (limit : ℕ) (AreBooks : Books → Type 0) (IsLeftSo : Bool → Books → Type 0) (given : Option (List ℕ)) (IsUnread : Type 0) (may_fail : Bool) (result : Result Status E) (IsPrinted : List ℕ → Type 0) : Type 0 where
  pub told : (books : Books) → AreBooks books → IfOk result (λ status. IsPlayAnswerFrom limit IsLeftSo books given IsUnread may_fail status IsPrinted)
  pub stands : (books : Books) → AreBooks books → OnErr result (IsPlayedInPart limit IsLeftSo books given)

-- of what is left nothing is said
abbrev pub IsLeftAnyhow : Bool → Books → Type 0
IsLeftAnyhow is_closed books = Unit {0}

-- some desk keeps these books: an accepted history of well-formed entries, with their replies
abbrev pub AreKept : Books → Type 0
AreKept books = (content : Content) × KeepsFormed MOST_ENTRIES books content

-- What is told of a script over a file that was opened, which was closed then, or could not be: the script was played from these
-- books; or that, and that the file could not be closed is told behind.
pub data IsOpenPlayAnswer (has_closed : Bool) (IsLeftSo : Bool → Books → Type 0) (books : Books) (given : Option (List ℕ)) (IsUnread : Type 0) (may_fail : Bool) (status : Status) (IsPrinted : List ℕ → Type 0) : Type 0 where
  told_from : IsPlayAnswerFrom MOST_ENTRIES IsLeftSo books given IsUnread may_fail status IsPrinted → (status ≢ exit.Fault → has_closed ≡ true) → IsOpenPlayAnswer has_closed IsLeftSo books given IsUnread may_fail status IsPrinted
  told_unclosed : (script text : List ℕ) → Came given script → IsPlayedFrom MOST_ENTRIES IsLeftSo books script text → has_closed ≡ false → status ≡ exit.Fault → IsPrinted (text ++ (failure_line Storage ++ codes "\n"))
      → IsOpenPlayAnswer has_closed IsLeftSo books given IsUnread may_fail status IsPrinted

-- what was played over a file where a writer failed: nothing, the first items of the script, or the whole of it
abbrev pub IsPlayedAnyhow : (Bool → Books → Type 0) → Books → Option (List ℕ) → Type 0
IsPlayedAnyhow IsLeftSo books given = IsPlayedInPart MOST_ENTRIES IsLeftSo books given ⊎ ((script text : List ℕ) × Came given script × IsPlayedFrom MOST_ENTRIES IsLeftSo books script text)

-- What `desk play --db` answers: the file was not opened, which is told alone, and nothing was read; or the script was played, from
-- the books of some accepted history. (Which that is, and what the file holds then, is said of what plays over the register that
-- was opened.)
pub data IsFilePlayAnswer (given : Option (List ℕ)) (IsUnread : Type 0) (may_fail : Bool) (status : Status) (IsPrinted : List ℕ → Type 0) : Type 0 where
  told_unopened : IsUnread → IsUnopened status IsPrinted → IsFilePlayAnswer given IsUnread may_fail status IsPrinted
  told_opened : (books : Books) → AreKept books → (has_closed : Bool) → IsOpenPlayAnswer has_closed IsLeftAnyhow books given IsUnread may_fail status IsPrinted → IsFilePlayAnswer given IsUnread may_fail status IsPrinted

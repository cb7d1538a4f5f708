-- What `desk drop` answers.
use Rattle.std.specs.Prelude.{◌≡◌, ℕ, Bool, true, false, List, [], ◌++◌, codes, map, Result, Ok, Err}
use Rattle.desk_rules.specs.Books.{Books}
use Rattle.desk_rules.specs.Content.{Content}
use Rattle.desk_book.specs.Answered.{AnsweredInTurn}
use Rattle.desk_book.specs.Headline.{Headline}
use Rattle.desk_drop.specs.declared.file.DropReply.{DropReply}
use Rattle.desk_drop.specs.Folder.{File, IsOnlyFolder, Item}
use Rattle.desk_drop.specs.Taken.{AreAnswered, answers_in, asked_in}
use Rattle.desk.specs.Status.{IsFailureTold, IsMemoryOr, IsUnopened}
use Rattle.desk.specs.declared.status.Failure.{Failure}
use Rattle.desk.specs.declared.status.Failure.TheVariants.{Input, Storage}
use Rattle.desk.specs.declared.status.Status.{Status}
use Rattle.desk.specs.declared.status.Status.TheVariants.{Done}

-- Files were taken on a desk that kept these books, and got these replies; there are tables of the books that they came to, unless the
-- desk was closed, that keep its promise, and this is what was left of it.
pub record AreTakenFrom (limit : ℕ) (IsLeftSo : Bool → Books → Type 0) (books : Books) (files : List File) (replies : List DropReply) : Type 0 where
  pub items : List Item
  pub only : IsOnlyFolder files items
  pub told : map (λ reply. reply.index) replies ≡ map (λ item. item.index) items
  pub is_closed : Bool
  pub answered : AreAnswered false (map (λ item. item.request) items) (map (λ reply. reply.answer) replies) is_closed
  pub last : Books
  pub in_turn : AnsweredInTurn limit false books (asked_in (map (λ item. item.request) items)) (answers_in (map (λ item. item.request) items) (map (λ reply. reply.answer) replies)) is_closed last
  pub promise : is_closed ≡ false → (held : Content) × Headline limit last held
  pub left : IsLeftSo is_closed last

-- the name of the file in which the answer to a file of this name stands
abbrev pub answer_name : List ℕ → List ℕ
answer_name name = name ++ codes ".out"

-- why a folder is not taken, or its answers are not written
abbrev pub IsFolderFailure : Failure → Type 0
IsFolderFailure failure = IsMemoryOr Input failure

-- what is told of a folder: nothing where each answer is written, and else why not, alone
abbrev pub IsFolderTold : Result (Unit {0}) Failure → Status → Type 0 → (List ℕ → Type 0) → Type 0
IsFolderTold (Ok done) status IsUnwritten IsPrinted = (status ≡ Done) × IsUnwritten
IsFolderTold (Err failure) status IsUnwritten IsPrinted = IsFailureTold failure status IsPrinted

-- it is done, and nothing is told; or, alone, what failed of the folders
pub data IsFolderEnd (status : Status) (IsPrinted : List ℕ → Type 0) : Type 0 where
  told_done : status ≡ Done → IsPrinted [] → IsFolderEnd status IsPrinted
  told_undone : (failure : Failure) → IsFolderFailure failure → IsFailureTold failure status IsPrinted → IsFolderEnd status IsPrinted

-- What is told of a folder over a file that was opened, which was closed then, or could not be: nothing where each answer is written;
-- or, alone, what failed of the folders, or that the file could not be closed.
pub data IsOpenDropAnswer (has_closed : Bool) (status : Status) (IsPrinted : List ℕ → Type 0) : Type 0 where
  told_nothing : status ≡ Done → has_closed ≡ true → IsPrinted [] → IsOpenDropAnswer has_closed status IsPrinted
  told_failed : (failure : Failure) → IsFolderFailure failure → IsFailureTold failure status IsPrinted → IsOpenDropAnswer has_closed status IsPrinted
  told_unclosed : has_closed ≡ false → IsFailureTold Storage status IsPrinted → IsOpenDropAnswer has_closed status IsPrinted

-- Why the file was not opened, alone; or what is told over one that was.
pub data IsDropAnswer (status : Status) (IsPrinted : List ℕ → Type 0) : Type 0 where
  told_unopened : IsUnopened status IsPrinted → IsDropAnswer status IsPrinted
  told_opened : (has_closed : Bool) → IsOpenDropAnswer has_closed status IsPrinted → IsDropAnswer status IsPrinted

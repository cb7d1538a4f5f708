-- What a run finds in the files of a desk, and what it leaves: in the desk itself, in its tables, and in its files, which were closed.
use Rattle.std.specs.Prelude.{◌≡◌, ℕ, Bool, false, is_some, IfOk, IsTrue, List, Option, Result, Ok, Err}
use Rattle.sqlite.specs.Closing.{HoldsAlone}
use Rattle.sqlite.specs.Effect.{Database}
use Rattle.sqlite.specs.Files.{file_state, image_of}
use Rattle.sqlite.specs.Held.{Held}
use Rattle.sqlite.specs.State.{State, HasCleanDisk}
use Rattle.sqlite_disk.specs.declared.Disk.{Ghosts}
use Rattle.sqlite_disk.specs.declared.Files.{Files}
use Rattle.sqlite_store.specs.declared.store.FileStore.{FileStore}
use Rattle.sqlite_store.specs.FileStore as store
use Rattle.sqlite_trees.specs.View.{IsClean}
use Rattle.sqlite_wal.specs.Files.{outcomes}
use Rattle.sqlite_wal.specs.Reads.{AreClean}
use Rattle.sqlite_wal.specs.Recovery.{Image}
use Rattle.desk_rules.specs.Books.{Books}
use Rattle.desk_rules.specs.Content.{Content}
use Rattle.desk_rules.specs.declared.answers.reply.Reply.{Reply}
use Rattle.desk_rules.specs.declared.limits.TheConstants.{MOST_ENTRIES}
use Rattle.desk_engine.specs.Ready.{KeepsFormed}
use Rattle.desk_register.specs.View.{View}
use Rattle.memory_register.specs.ListsView.{view_of_lists}
use Rattle.memory_register.specs.declared.list_register.ListRegister.{ListRegister}
use Rattle.desk_file.specs.Both.{Both}
use Rattle.sql_register.specs.Kept.{Kept}
use Rattle.desk_book.specs.Answered.{AnsweredInTurn}
use Rattle.desk_book.specs.Asked.{Asked}
use Rattle.desk_book.specs.Held.{Holds}
use Rattle.desk_file.specs.Opened.{FindsIn}
use Rattle.desk_file.specs.Said.{SaysBooks}
use Rattle.desk_book.specs.declared.fault.Fault.{Fault}

-- What was opened is what files held that hold this, where no wrong answer of the device was taken as true.
abbrev pub IsFoundIn : {D : Type 0} {g : Ghosts D} → Image → Both ListRegister (Kept (Held (FileStore D g))) → Type 0
IsFoundIn image both = HasCleanDisk (file_state both.tables.connection) → FindsIn image (file_state both.tables.connection).committed (view_of_lists both.memory).content

-- Files that hold this image hold tables that say these books; or no table yet, and the books are those of no history.
pub record HeldBooks (image : Image) (books : Books) : Type 0 where
  pub content : Content
  pub keeps : KeepsFormed MOST_ENTRIES books content
  pub db : Database
  pub finds : FindsIn image db content

-- what is committed says these books, where no wrong answer of the device was taken as true and the device has not shut the store
abbrev pub TablesSay : State → Books → Type 0
TablesSay s books = HasCleanDisk s → IsTrue s.is_open → SaysBooks s.committed books

-- A desk was given up: closed exactly where this mark is there, and where it was open to its end this is said of its books.
pub record IsGivenUp {C : Type 0} (mark : Option C) (Says : Books → Type 0) (is_closed : Bool) (books : Books) : Type 0 where
  pub closed : is_some mark ≡ is_closed
  pub says : is_closed ≡ false → Says books

-- of a desk that was open to its end the tables say these books
abbrev pub AreSaid : {C : Type 0} → Option C → State → Bool → Books → Type 0
AreSaid mark s = IsGivenUp mark (TablesSay s)

-- files hold by themselves tables that say these books, and so does what a crash leaves of them
pub record HoldBooks {D : Type 0} (g : Ghosts D) (files : Files D) (books : Books) : Type 0 where
  pub db : Database
  pub says : SaysBooks db books
  pub seen : HoldsAlone (image_of g files) db.trees
  pub left : (image : Image) → outcomes g files.log files.db image → HoldsAlone image db.trees

-- so they do where no wrong answer of the device was taken as true
abbrev pub FilesSay : {D : Type 0} (g : Ghosts D) → Files D → Books → Type 0
FilesSay g files books = AreClean g files.log files.db → HoldBooks g files books

-- Of a desk that was open to its end the files say these books, where they could be closed.
abbrev pub AreLeft : {C D E : Type 0} → Ghosts D → Option C → Result (Files D) E → Bool → Books → Type 0
AreLeft g mark closed = IsGivenUp mark (λ books. IfOk closed (λ files. FilesSay g files books))

-- no wrong answer of the device was taken as true, as the files that were closed tell, or their store that could not be
abbrev pub IsCleanBehind : {D : Type 0} {g : Ghosts D} → Result (Files D) (FileStore D g) → Type 0
IsCleanBehind {D} {g} (Ok files) = AreClean g files.log files.db
IsCleanBehind (Err it) = IsClean (store.view it)

-- A desk is given back: closed exactly where this is so, and an open one holds these books.
pub record IsLeft (gives : Bool) (view : View) (is_closed : Bool) (books : Books) : Type 0 where
  pub closed : gives ≡ is_closed
  pub holds : Holds is_closed view books

-- what is left of a desk is known of what stands in its place
pub record PassesOn (IsLeftSo AreLeftSo : Bool → Books → Type 0) : Type 0 where
  pub each : (is_closed : Bool) (books : Books) → IsLeftSo is_closed books → AreLeftSo is_closed books

-- Some requests, or none, were asked of an open desk with these books, one after another, and this is what was left of it.
pub record LeavesSome (limit : ℕ) (books : Books) (IsLeftSo : Bool → Books → Type 0) : Type 0 where
  pub requests : List Asked
  pub answers : List (Result Reply Fault)
  pub is_closed : Bool
  pub last : Books
  pub in_turn : AnsweredInTurn limit false books requests answers is_closed last
  pub left : IsLeftSo is_closed last

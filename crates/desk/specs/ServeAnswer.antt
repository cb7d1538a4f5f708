-- What is told by who serves.
use Rattle.std.specs.Prelude.{◌≡◌, ◌≢◌, ℕ, Bool, true, false, List, ◌++◌, Result, codes, decimal}
use Rattle.desk_rules.specs.declared.answers.reply.Reply.{Reply}
use Rattle.desk_rules.specs.Books.{Books}
use Rattle.desk_register.specs.View.{View}
use Rattle.desk_book.specs.declared.fault.Fault.{Fault as DeskFault}
use Rattle.desk_book.specs.Answered.{AnsweredInTurn}
use Rattle.desk_book.specs.Asked.{Asked}
use Rattle.desk_book.specs.Headline.{KeepsPromise}
use Rattle.desk_book.specs.Held.{Holds}
use Rattle.desk.specs.Status.{IsMemoryOr, IsUnopened, failure_line}
use Rattle.desk.specs.declared.status.Failure.{Failure}
use Rattle.desk.specs.declared.status.Failure.TheVariants.{Input, Storage}
use Rattle.desk.specs.declared.status.Status.{Status}
use Rattle.desk.specs.declared.status.Status.TheVariants.{Done, Fault}

-- the line that tells where clients may come
abbrev pub listening_line : ℕ → List ℕ
listening_line port = codes "listening " ++ decimal port ++ codes "\n"

-- It is done, and told where it listened, or it is a fault, and one is told: there is nobody at the port, or memory is
-- wanting for the routes. What connections get is said of `serve_one`, and what they leave of the desk by `HoldsOn`.
abbrev pub IsServeAnswer : ℕ → Status → (List ℕ → Type 0) → Type 0
IsServeAnswer port Done Told = Told (listening_line port)
IsServeAnswer port Fault Told = (failure : Failure) × IsMemoryOr Input failure × Told (failure_line failure ++ codes "\n")
IsServeAnswer port status Told = ⊥

-- What who serves tells over a file that was opened, which was closed then, or could not be: what who serves tells; or that, and that
-- the file could not be closed is told behind.
pub data IsOpenServeAnswer (has_closed : Bool) (port : ℕ) (status : Status) (Told : List ℕ → Type 0) : Type 0 where
  told_served : IsServeAnswer port status Told → (status ≢ Fault → has_closed ≡ true) → IsOpenServeAnswer has_closed port status Told
  told_unclosed : has_closed ≡ false → status ≡ Fault → Told (listening_line port ++ (failure_line Storage ++ codes "\n")) → IsOpenServeAnswer has_closed port status Told

-- What who serves with `--db` tells: why the file was not opened, alone; or what is told over one that was.
pub data IsFileServeAnswer (port : ℕ) (status : Status) (Told : List ℕ → Type 0) : Type 0 where
  told_unopened : IsUnopened status Told → IsFileServeAnswer port status Told
  told_opened : (has_closed : Bool) → IsOpenServeAnswer has_closed port status Told → IsFileServeAnswer port status Told

-- What connections leave of a desk with these books: some requests were asked of it, one after another, to the books that
-- it holds then, and with which it keeps its promise.
pub record Leaves (was : Bool) (books : Books) (is : Bool) (old new : View) : Type 0 where
  pub requests : List Asked
  pub answers : List (Result Reply DeskFault)
  pub last : Books
  pub in_turn : AnsweredInTurn old.room was books requests answers is last
  pub holds : Holds is new last
  pub promise : KeepsPromise is new last

-- whatever books an open desk held
abbrev pub HoldsOn : Bool → View → Bool → View → Type 0
HoldsOn was old is new = (books : Books) → Holds was old books → Leaves was books is old new

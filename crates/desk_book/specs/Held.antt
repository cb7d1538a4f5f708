-- What a desk holds.
use Rattle.std.specs.Prelude.{◌≡◌, ℕ, Bool, false, Result}
use Rattle.desk_rules.specs.declared.answers.reply.Reply.{Reply}
use Rattle.desk_rules.specs.Books.{Books}
use Rattle.desk_engine.specs.Ready.{KeepsFormed}
use Rattle.desk_register.specs.View.{View}
use Rattle.desk_book.specs.Answered.{Step}
use Rattle.desk_book.specs.Asked.{Asked}
use Rattle.desk_book.specs.DeskValue.{DeskValue}
use Rattle.desk_book.specs.Headline.{KeepsPromise}
use Rattle.desk_book.specs.declared.fault.Fault.{Fault}

-- an open desk keeps these books; of a closed one nothing is said
abbrev pub Holds : Bool → View → Books → Type 0
Holds is_closed view books = is_closed ≡ false → KeepsFormed view.room books view.content

-- Where no wrong answer of the device was taken as true up to a call's end, this holds of all books that the desk held as
-- it began. What contracts see of the desk's register is told by `view`.
abbrev pub IfHolds : {R : Type 0} → (R → View) → DeskValue R → DeskValue R → (Books → Type 0) → Type 0
IfHolds view old new Fact = (books : Books) → (view new.register).is_honest → Holds old.is_closed (view old.register) books → Fact books

-- one step of a desk, what it holds then, and what may be relied on
pub record Steps (limit : ℕ) (books : Books) (asked : Asked) (result : Result Reply Fault) (is_closed : Bool) (view : View) : Type 0 where
  pub next : Books
  pub step : Step limit books asked result next
  pub holds : Holds is_closed view next
  pub promise : KeepsPromise is_closed view next

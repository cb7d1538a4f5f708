-- How an answer comes about. Only private contracts speak of it.
use Rattle.std.specs.Prelude.{◌≡◌, ◌≢◌, ℕ, Bool, false, [], ◌∷◌, ◌++◌, Result, Ok, Err, OnErr}
use Rattle.desk_rules.specs.declared.history.entry.Entry.{Entry}
use Rattle.desk_rules.specs.declared.answers.reply.Reply.{Reply}
use Rattle.desk_rules.specs.Books.{Books}
use Rattle.desk_rules.specs.Content.{Content}
use Rattle.desk_rules.specs.Reply.{reply_to}
use Rattle.desk_register.specs.declared.register.Fault.{Fault as RegisterFault}
use Rattle.desk_register.specs.declared.register.Fault.TheVariants as registers
use Rattle.desk_register.specs.declared.register.Stage.TheVariants.{Idle}
use Rattle.desk_register.specs.View.{View, IsLater}
use Rattle.desk_engine.specs.declared.accepting.Failure.{Failure}
use Rattle.desk_engine.specs.declared.accepting.Failure.TheVariants.{Undone, Lost}
use Rattle.desk_engine.specs.Applied.{Keeps}
use Rattle.desk_book.specs.Answered.{says_closed, BlamesRequest, IsAnswer, IsDecided}
use Rattle.desk_book.specs.Held.{Holds}
use Rattle.desk_engine.specs.Ready.{KeepsFormed}
use Rattle.desk_book.specs.declared.requests.task.Task.{Task}
use Rattle.desk_book.specs.declared.fault.Fault.{Fault}
use Rattle.desk_book.specs.declared.fault.Fault.TheVariants.{Memory, Storage, Closed}

-- How a request to an open desk ends. Unless it closes the desk, no `begin` is open and the register shows what it
-- holds; and after a fault that is what it held.
pub record Ends (result : Result Reply Fault) (old new : View) : Type 0 where
  pub stage : says_closed result ≡ false → new.stage ≡ Idle
  pub sure : says_closed result ≡ false → new.is_honest → new.is_sure
  pub device : says_closed result ≡ false → new.device.is_honest → new.device.is_sure
  pub same : says_closed result ≡ false → new.is_honest → OnErr result (new.content ≡ old.content)
  pub later : IsLater old new
  pub blame : BlamesRequest result old new

-- an entry was decided on, and this is what is kept then
pub record Decides (limit : ℕ) (books : Books) (entry : Entry) (reply : Reply) (content : Content) : Type 0 where
  pub after : Books
  pub decided : IsDecided limit books entry reply after
  pub keeps : Keeps limit after content

-- the desk's fault of a register's
abbrev pub fault_of_register : RegisterFault → Fault
fault_of_register registers.Memory = Memory
fault_of_register registers.Storage = Storage

-- what the desk answers to a failure of a step
abbrev pub fault_of_failure : Failure → Fault
fault_of_failure (Undone fault) = fault_of_register fault
fault_of_failure Lost = Closed

-- What is answered to a fault: the fault, once the register shows this content with no `begin` open; else the desk is
-- closed.
pub record AnswersFault (fault answer : Fault) (old : View) (content : Content) (new : View) : Type 0 where
  pub is : answer ≢ Closed → answer ≡ fault
  pub stage : answer ≢ Closed → new.stage ≡ Idle
  pub sure : answer ≢ Closed → new.is_honest → new.is_sure
  pub device : answer ≢ Closed → new.device.is_honest → new.device.is_sure
  pub held : answer ≢ Closed → new.is_honest → old.is_sure
  pub same : answer ≢ Closed → new.is_honest → new.content ≡ content
  pub later : IsLater old new

-- an entry was taken in, and this is its reply
pub record IsPut (limit : ℕ) (books : Books) (entry : Entry) (reply : Reply) (content : Content) : Type 0 where
  pub after : Books
  pub longer : after.history ≡ books.history ++ entry ∷ []
  pub keeps : Keeps limit after content
  pub replied : reply ≡ reply_to after entry

-- what is answered to a task, and what is kept then
pub record Answers (limit : ℕ) (books : Books) (task : Task) (reply : Reply) (content : Content) : Type 0 where
  pub after : Books
  pub answer : IsAnswer limit books task reply after
  pub keeps : KeepsFormed limit after content

-- what is answered to what a request is read as, where there was memory to read it
abbrev pub AnswersTask : {E : Type 0} → ℕ → Books → Result Task E → Result Reply Fault → Books → Type 0
AnswersTask limit books (Ok task) (Ok reply) after = IsAnswer limit books task reply after
AnswersTask limit books (Ok task) (Err fault) after = after ≡ books
AnswersTask limit books (Err want) (Ok reply) after = ⊥
AnswersTask limit books (Err want) (Err fault) after = after ≡ books

pub record IsPerformed {E : Type 0} (limit : ℕ) (books : Books) (task : Result Task E) (result : Result Reply Fault) (is_closed : Bool) (view : View) : Type 0 where
  pub next : Books
  pub answer : AnswersTask limit books task result next
  pub holds : Holds is_closed view next

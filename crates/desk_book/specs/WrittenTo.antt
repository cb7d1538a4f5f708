-- What is said of an answer whose text is written straight to a writer.
use Rattle.std.specs.Prelude.{◌≡◌, ◌≢◌, ◌<◌, ℕ, Bool, true, false, List, [], ◌++◌, Option, Result, Ok, Err}
use Rattle.std.specs.Io.KnownBytes.{Appends}
use Rattle.desk_rules.specs.declared.answers.reply.Reply.{Reply}
use Rattle.desk_rules.specs.Books.{Books}
use Rattle.desk_register.specs.View.{View, IfCounted}
use Rattle.desk_book.specs.Answered.{Step}
use Rattle.desk_book.specs.Asked.{Asked}
use Rattle.desk_book.specs.declared.fault.ToFault.{ToFault}
use Rattle.desk_book.specs.declared.fault.ToFault.TheVariants.{WriteFailed, Storage, Closed, Lost}
use Rattle.desk_book.specs.declared.answers.head.Head.{Head}

-- the reply of a head and a text
abbrev pub reply_with : Head → List ℕ → Reply
reply_with head text = record { status = head.status; mt = head.mt; text = text }

-- the text of an answer was written behind what the writer held
pub record WritesAnswer (IsAnswer : Reply → Type 0) (head : Head) (before after : Option (List ℕ)) : Type 0 where
  pub text : List ℕ
  pub written : Appends before after text
  pub is_answer : IsAnswer (reply_with head text)

-- some text, or none, was written behind what the writer held: a front of the text of an answer
pub record WritesFront (IsAnswer : Reply → Type 0) (before after : Option (List ℕ)) : Type 0 where
  pub text : List ℕ
  pub written : Appends before after text
  pub front : text ≢ [] → (head : Head) × (rest : List ℕ) × IsAnswer (reply_with head (text ++ rest))

-- What was written: the text of an answer; or, where memory was wanting or the device failed, a front of one; of a closed
-- desk nothing. Of a writer that failed nothing is said.
abbrev pub Writes : (Reply → Type 0) → Result Head ToFault → Option (List ℕ) → Option (List ℕ) → Type 0
Writes IsAnswer (Ok head) before after = WritesAnswer IsAnswer head before after
Writes IsAnswer (Err WriteFailed) before after = Unit {0}
Writes IsAnswer (Err Closed) before after = after ≡ before
Writes IsAnswer (Err fault) before after = WritesFront IsAnswer before after

-- What was written of the answer to what is asked, by these books, which stay: the text that the abstract desk answers, with
-- its status and type, or a front of it.
abbrev pub WritesAsked : ℕ → Books → Asked → Result Head ToFault → Option (List ℕ) → Option (List ℕ) → Type 0
WritesAsked limit books asked result before after = Writes (λ reply. Step limit books asked (Ok reply) books) result before after

-- it is told so that the desk is closed: it was, or is from then on
abbrev pub leaves_closed : Result Head ToFault → Bool
leaves_closed (Err Closed) = true
leaves_closed (Err Lost) = true
leaves_closed result = false

-- The device is blamed where it failed: the count of its failures has grown after a storage fault.
pub record BlamesDevice (result : Result Head ToFault) (old new : View) : Type 0 where
  pub storage : result ≡ Err Storage → IfCounted new (old.device.failures < new.device.failures)

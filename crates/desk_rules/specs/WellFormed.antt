-- An entry is well formed: each of its values is one that a message or a command can say.
use Rattle.std.specs.Prelude.{ℕ, ◌<◌, ◌≤◌, List, Contains, Ok}
use Rattle.desk_codes.specs.Account.{IsAccount}
use Rattle.desk_codes.specs.Bic.{IsBic}
use Rattle.desk_codes.specs.CheckDigit.{IsIsin}
use Rattle.desk_codes.specs.Day.{IsDay}
use Rattle.desk_codes.specs.Reference.{IsReference}
use Rattle.desk_text.specs.Fields.{Found}
use Rattle.desk_msg.specs.declared.instruction.Message.{Message}
use Rattle.desk_msg.specs.declared.instruction.Message.TheVariants.{New, Cancel as CancelMessage}
use Rattle.desk_msg.specs.declared.mt.Mt.{Mt}
use Rattle.desk_msg.specs.Reads.{ReadsFields}
use Rattle.desk_rules.specs.declared.history.entry.Movement.{Movement}
use Rattle.desk_rules.specs.declared.history.entry.Payment.{Payment}
use Rattle.desk_rules.specs.declared.history.entry.Entry.{Entry}
use Rattle.desk_rules.specs.declared.history.entry.Entry.TheVariants.{Participant, Account, Security, Issue, Redeem, PayIn, PayOut, Instruct, Cancel, Run}
use Rattle.desk_rules.specs.declared.limits.TheConstants.{MOST_PAID, MOST_QUANTITY}
use Rattle.desk_rules.specs.Books.{AreBooks, Books}
use Rattle.desk_rules.specs.Verdict.{WasAccepted}

-- the fields of some message of this type read as it
abbrev pub IsReadable : Mt → Message → Type 0
IsReadable mt message = (fields : List Found) × ReadsFields mt fields (Ok message)

pub record IsMovement (movement : Movement) : Type 0 where
  pub reference : IsReference movement.reference
  pub account : IsAccount movement.account
  pub isin : IsIsin movement.isin
  pub some : 0 < movement.quantity
  pub within : movement.quantity ≤ MOST_QUANTITY

pub record IsPayment (payment : Payment) : Type 0 where
  pub reference : IsReference payment.reference
  pub bic : IsBic payment.bic
  pub some : 0 < payment.amount
  pub within : payment.amount ≤ MOST_PAID

-- (That an instruction and a cancellation have a participant as sender, the others the operator, and that a run names
-- its rule, is so of every entry.)
abbrev pub IsWellFormed : Entry → Type 0
IsWellFormed (Participant reference bic) = IsReference reference × IsBic bic
IsWellFormed (Account reference bic account) = IsReference reference × IsBic bic × IsAccount account
IsWellFormed (Security reference isin kind) = IsReference reference × IsIsin isin
IsWellFormed (Issue movement) = IsMovement movement
IsWellFormed (Redeem movement) = IsMovement movement
IsWellFormed (PayIn payment) = IsPayment payment
IsWellFormed (PayOut payment) = IsPayment payment
IsWellFormed (Instruct sender i) = IsBic sender × IsReadable i.mt (New i)
IsWellFormed (Cancel sender order) = IsBic sender × IsReadable order.mt (CancelMessage order)
IsWellFormed (Run reference day rule) = IsReference reference × IsDay day

-- each entry of a history is
pub record AreWellFormed (history : List Entry) : Type 0 where
  pub each : (entry : Entry) → Contains history entry → IsWellFormed entry

-- the books of a history of which each entry was accepted in its turn, and is well formed
pub record AreAccepted (limit : ℕ) (books : Books) : Type 0 where
  pub are : AreBooks books
  pub accepted : WasAccepted limit books.history
  pub formed : AreWellFormed books.history

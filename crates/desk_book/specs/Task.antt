-- What a request is read as.
use Rattle.std.specs.Prelude.{◌≡◌, ℕ, List, codes, Some, None, Ok, Err}
use Rattle.desk_codes.specs.Account.{IsAccount}
use Rattle.desk_codes.specs.Bic.{IsBic}
use Rattle.desk_codes.specs.Reference.{IsReference}
use Rattle.desk_msg.specs.declared.mt.Mt.{Mt}
use Rattle.desk_msg.specs.declared.instruction.Message.{Message}
use Rattle.desk_msg.specs.declared.instruction.Message.TheVariants.{New, Cancel as CancelMessage}
use Rattle.desk_msg.specs.declared.reading.refusal.TextRefusal.{TextRefusal}
use Rattle.desk_msg.specs.declared.reading.refusal.ReadFault.TheVariants.{Refused}
use Rattle.desk_msg.specs.Refused.{ReadsText, refusal_line}
use Rattle.desk_rules.specs.declared.history.entry.Entry.{Entry}
use Rattle.desk_rules.specs.declared.history.entry.Entry.TheVariants.{Instruct, Cancel}
use Rattle.desk_rules.specs.declared.answers.reply.Reply.{Reply}
use Rattle.desk_rules.specs.Reply.{untyped_reply}
use Rattle.desk_rules.specs.WellFormed.{IsWellFormed}
use Rattle.desk_book.specs.declared.requests.question.Question.{Question}
use Rattle.desk_book.specs.declared.requests.question.Question.TheVariants as questions
use Rattle.desk_book.specs.Asked.{Asked, mt_of}
use Rattle.desk_book.specs.Command.{SpellsCommand}
use Rattle.desk_book.specs.declared.requests.task.Task.{Task}
use Rattle.desk_book.specs.declared.requests.task.Task.TheVariants.{Answer, Decide, Holdings, Sent, Status, Totals}

-- the entry that a participant's message asks for
abbrev pub entry_of_message : List ℕ → Message → Entry
entry_of_message sender (New instruction) = Instruct sender instruction
entry_of_message sender (CancelMessage order) = Cancel sender order

-- A message is an instruction or a cancellation to decide on, of a sender with a BIC; a text that is no message is
-- refused, with its own refusal.
abbrev pub IsMessageTask : List ℕ → Mt → List ℕ → Task → Type 0
IsMessageTask sender mt text (Decide entry) = (m : Message) × ReadsText mt text (Ok m) × (entry ≡ entry_of_message sender m) × IsBic sender
IsMessageTask sender mt text (Answer reply) = (r : TextRefusal) × ReadsText mt text (Err (Refused r)) × (reply ≡ untyped_reply 400 (refusal_line r))
IsMessageTask sender mt text task = ⊥

-- the answer to an operator's text that spells no command
abbrev pub no_command : Reply
no_command = untyped_reply 400 (codes "refused 30")

-- An operator's text is a command to decide on, or is refused.
abbrev pub IsCommandTask : List ℕ → Task → Type 0
IsCommandTask text (Decide entry) = SpellsCommand text entry
IsCommandTask text (Answer reply) = ((entry : Entry) → ¬ SpellsCommand text entry) × (reply ≡ no_command)
IsCommandTask text task = ⊥

-- A participant asks for the message with a reference; what is no reference names no message.
abbrev pub IsStatusTask : List ℕ → List ℕ → Task → Type 0
IsStatusTask sender text (Status bic (Some reference)) = (bic ≡ sender) × (reference ≡ text) × IsReference text
IsStatusTask sender text (Status bic None) = (bic ≡ sender) × ¬ IsReference text
IsStatusTask sender text task = ⊥

-- A participant asks for the holdings of an account; what names no account is nobody's.
abbrev pub IsHoldingsTask : List ℕ → List ℕ → Task → Type 0
IsHoldingsTask owner text (Holdings bic (Some account)) = (bic ≡ owner) × (account ≡ text) × IsAccount text
IsHoldingsTask owner text (Holdings bic None) = (bic ≡ owner) × ¬ IsAccount text
IsHoldingsTask owner text task = ⊥

-- What a question gives the desk to do that is asked with this text, one equation a question.
abbrev pub IsTaskOf : Question → List ℕ → Task → Type 0
IsTaskOf (questions.Message sender kind) text task = IsMessageTask sender (mt_of kind) text task
IsTaskOf questions.Operator text task = IsCommandTask text task
IsTaskOf (questions.Status sender) text task = IsStatusTask sender text task
IsTaskOf (questions.Sent receiver number) text task = task ≡ Sent receiver number
IsTaskOf (questions.Holdings owner) text task = IsHoldingsTask owner text task
IsTaskOf questions.Sums text task = task ≡ Totals

-- and what a request does
abbrev pub IsTask : Asked → Task → Type 0
IsTask asked task = IsTaskOf asked.question asked.text task

-- a command to decide on is well formed
abbrev pub IsFormed : Task → Type 0
IsFormed (Decide entry) = IsWellFormed entry
IsFormed task = Unit {0}

-- What the desk answers to the questions of a participant, by its books now: how a message of its own stands, and
-- what was sent to it. A question that is refused has no message type.
use Rattle.std.specs.Prelude.{ℕ, zero, suc, ◌==◌, Bool, ◌&&◌, if◌then◌else◌, List, length, bytes_eq, filter, slice_get, Option, Some, None}
use Rattle.std.specs.List.{find}
use Rattle.desk_msg.specs.declared.instruction.Instruction.{Instruction}
use Rattle.desk_msg.specs.declared.mt.Mt.{Mt}
use Rattle.desk_msg.specs.declared.writing.status.Own.TheVariants.{Answer}
use Rattle.desk_msg.specs.declared.writing.status.Case.{Case}
use Rattle.desk_msg.specs.declared.writing.status.Case.TheVariants as cases
use Rattle.desk_msg.specs.StatusText.{advice}
use Rattle.desk_rules.specs.declared.history.entry.Entry.{Entry}
use Rattle.desk_rules.specs.declared.history.entry.Entry.TheVariants.{Instruct, Cancel}
use Rattle.desk_rules.specs.declared.history.entry.Sender.TheVariants.{Participant as FromParticipant}
use Rattle.desk_rules.specs.declared.answers.reply.Reply.{Reply}
use Rattle.desk_rules.specs.declared.answers.reply.Sent.{Sent}
use Rattle.desk_rules.specs.declared.history.standing.State.{State}
use Rattle.desk_rules.specs.declared.history.standing.State.TheVariants.{NoInstruction, Unmatched, Matched, Cancelled, Settled}
use Rattle.desk_rules.specs.declared.answers.verdict.Refusal.TheVariants.{NoSuchInstruction, SenderUnknown}
use Rattle.desk_rules.specs.Refusals.{number_of_refusal}
use Rattle.desk_rules.specs.History.{entry_at, number_of_key}
use Rattle.desk_rules.specs.Facts.{is_participant}
use Rattle.desk_rules.specs.Books.{Books}
use Rattle.desk_rules.specs.Standing.{state_of}
use Rattle.desk_rules.specs.Verdict.{named_by}
use Rattle.desk_rules.specs.Reply.{refused_text, untyped_reply, advice_reply, cancellation_case}
use Rattle.desk_rules.specs.Sent.{sent_of}
use Rattle.desk_rules.specs.Confirmations.{is_confirmation}

-- there is no such message
abbrev pub no_message : ℕ
no_message = 42

abbrev pub refused_question : ℕ → Reply
refused_question number = untyped_reply 422 (refused_text number)

-- a sent message as an answer
abbrev pub sent_text_reply : Option Sent → Reply
sent_text_reply None = refused_question no_message
sent_text_reply (Some message) = record { status = 200; mt = Some message.mt; text = message.text }

-- the confirmation sent about an instruction
abbrev pub confirms_it : ℕ → Sent → Bool
confirms_it n message = is_confirmation message && message.about == n

abbrev pub confirmation_of : Books → ℕ → Option Sent
confirmation_of books n = find (confirms_it n) (sent_of books)

-- an advice of now, about the message of this type and reference
abbrev pub standing_reply : Books → Mt → List ℕ → Case → Reply
standing_reply books mt reference about = advice_reply 200 (advice (Answer (length books.history)) mt reference about)

-- an instruction: how it stands now or, once it is settled, its confirmation exactly as it was sent
abbrev pub instruction_reply : Books → ℕ → Instruction → State → Reply
instruction_reply books n i NoInstruction = refused_question (number_of_refusal NoSuchInstruction)
instruction_reply books n i Unmatched = standing_reply books i.mt i.reference cases.Unmatched
instruction_reply books n i (Matched reason) = standing_reply books i.mt i.reference (cases.Matched reason)
instruction_reply books n i Cancelled = standing_reply books i.mt i.reference cases.Cancelled
instruction_reply books n i Settled = sent_text_reply (confirmation_of books n)

-- a message of this number; no participant sends an entry of the operator
abbrev pub message_reply : Books → ℕ → Entry → Reply
message_reply books n (Instruct sender i) = instruction_reply books n i (state_of books n)
message_reply books n (Cancel sender order) = standing_reply books order.mt order.reference (cancellation_case books (named_by books.history sender order))
message_reply books n entry = refused_question (number_of_refusal NoSuchInstruction)

abbrev pub entry_reply : Books → ℕ → Option Entry → Reply
entry_reply books n None = refused_question (number_of_refusal NoSuchInstruction)
entry_reply books n (Some entry) = message_reply books n entry

abbrev pub named_reply : Books → Option ℕ → Reply
named_reply books None = refused_question (number_of_refusal NoSuchInstruction)
named_reply books (Some n) = entry_reply books n (entry_at books.history n)

-- How the message of a participant with this reference stands: 10 where it is no participant, 17 where it used no
-- such reference. (A text that is no reference is one that it never used.)
abbrev pub status_reply : Books → List ℕ → List ℕ → Reply
status_reply books bic reference =
    if is_participant books.history bic
    then named_reply books (number_of_key books.history (FromParticipant bic) reference)
    else refused_question (number_of_refusal SenderUnknown)

-- what was sent to a participant, in order, and the k-th of it, from 1
abbrev pub sent_to : Books → List ℕ → List Sent
sent_to books bic = filter (λ message. bytes_eq message.bic bic) (sent_of books)

abbrev pub sent_at : List Sent → ℕ → Option Sent
sent_at messages zero = None
sent_at messages (suc k) = slice_get messages k

-- The k-th message that was sent to a participant: 10 where it is none, 42 where there is no such message.
abbrev pub sent_reply : Books → List ℕ → ℕ → Reply
sent_reply books bic k = if is_participant books.history bic then sent_text_reply (sent_at (sent_to books bic) k) else refused_question (number_of_refusal SenderUnknown)

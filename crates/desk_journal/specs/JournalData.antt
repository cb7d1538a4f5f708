-- The rows of the journal as JSON objects. The members of an object stand in the order of their names. Quantities and amounts
-- are whole numbers, in units, by face amount or in minor units, as the commands have them.
use Rattle.std.specs.Prelude.{ℕ, List, map, codes, Option}
use Rattle.serde_json.specs.Data.{Data, null, string, object, array, Members, no_members, member}
use Rattle.serde_json.specs.View.{items_of}
use Rattle.desk_codes.specs.Currency.{letters_of}
use Rattle.desk_msg.specs.MessageType.{number_of_type}
use Rattle.desk_msg.specs.Profile.{code_of_kind}
use Rattle.desk_msg.specs.StatusText.{code_of_reason}
use Rattle.desk_msg.specs.declared.instruction.CancelOrder.{CancelOrder}
use Rattle.desk_msg.specs.declared.instruction.Instruction.{Instruction}
use Rattle.desk_msg.specs.declared.instruction.Kind.{Kind}
use Rattle.desk_rules.specs.declared.history.entry.Entry.{Entry}
use Rattle.desk_rules.specs.declared.history.entry.Entry.TheVariants.{Participant, Account, Security, Issue, Redeem, PayIn, PayOut, Instruct, Cancel, Run}
use Rattle.desk_rules.specs.declared.history.entry.Movement.{Movement}
use Rattle.desk_rules.specs.declared.history.entry.Payment.{Payment}
use Rattle.desk_rules.specs.declared.history.entry.Sender.{Sender}
use Rattle.desk_rules.specs.declared.history.entry.Sender.TheVariants.{Operator, Participant as FromParticipant}
use Rattle.desk_rules.specs.History.{reference_of, sender_of}
use Rattle.desk_book.specs.Command.{text_member, number_member}
use Rattle.desk_report.specs.RowData.{amount_data, ccy_data, number_data, or_null}
use Rattle.desk_journal.specs.declared.rows.journal.JournalRow.{JournalRow}
use Rattle.desk_journal.specs.declared.rows.journal.MessageKey.{MessageKey}
use Rattle.desk_journal.specs.declared.rows.journal.Outcome.{Outcome}
use Rattle.desk_journal.specs.declared.rows.journal.Outcome.TheVariants.{Booked, Unmatched, Matched, Settled, Cancelled, CancelDone, CancelWaits, CancelLate, Ran}

-- a message that was sent
abbrev pub key_data : MessageKey → Data
key_data key = object (text_member (codes "bic") key.bic (number_member (codes "mt") key.mt (number_member (codes "number") key.number no_members)))

-- a security issued to an account, or redeemed from it
abbrev pub movement_data : List ℕ → Movement → Data
movement_data op movement =
    object (text_member (codes "account") movement.account (text_member (codes "isin") movement.isin (text_member (codes "op") op
    (number_member (codes "quantity") movement.quantity no_members))))

-- cash paid in, or paid out
abbrev pub payment_data : List ℕ → Payment → Data
payment_data op payment =
    object (number_member (codes "amount") payment.amount (text_member (codes "bic") payment.bic (text_member (codes "ccy") (letters_of payment.ccy)
    (text_member (codes "op") op no_members))))

-- an instruction of a participant
abbrev pub instruct_data : Instruction → Data
instruct_data instruction =
    object (text_member (codes "account") instruction.account (member (codes "amount") (amount_data instruction.cash) (member (codes "ccy") (ccy_data instruction.cash)
    (text_member (codes "counterparty") instruction.counterparty (text_member (codes "day") instruction.day (text_member (codes "isin") instruction.isin
    (text_member (codes "kind") (code_of_kind instruction.kind) (number_member (codes "mt") (number_of_type instruction.mt) (text_member (codes "op") (codes "instruct")
    (number_member (codes "quantity") instruction.quantity no_members))))))))))

-- a participant, an account, a security that is registered
abbrev pub participant_data : List ℕ → Data
participant_data bic = object (text_member (codes "bic") bic (text_member (codes "op") (codes "participant") no_members))

abbrev pub account_data : List ℕ → List ℕ → Data
account_data bic account = object (text_member (codes "account") account (text_member (codes "bic") bic (text_member (codes "op") (codes "account") no_members)))

abbrev pub security_data : List ℕ → Kind → Data
security_data isin kind = object (text_member (codes "isin") isin (text_member (codes "kind") (code_of_kind kind) (text_member (codes "op") (codes "security") no_members)))

-- a participant's order to cancel
abbrev pub order_data : CancelOrder → Data
order_data order =
    object (number_member (codes "mt") (number_of_type order.mt) (text_member (codes "op") (codes "cancel") (text_member (codes "previous") order.previous no_members)))

-- a run
abbrev pub run_data : List ℕ → Data
run_data day = object (text_member (codes "day") day (text_member (codes "op") (codes "run") no_members))

-- what an entry asks for
abbrev pub command_data : Entry → Data
command_data (Participant reference bic) = participant_data bic
command_data (Account reference bic account) = account_data bic account
command_data (Security reference isin kind) = security_data isin kind
command_data (Issue movement) = movement_data (codes "issue") movement
command_data (Redeem movement) = movement_data (codes "redeem") movement
command_data (PayIn payment) = payment_data (codes "payin") payment
command_data (PayOut payment) = payment_data (codes "payout") payment
command_data (Instruct sender instruction) = instruct_data instruction
command_data (Cancel sender order) = order_data order
command_data (Run reference day rule) = run_data day

-- who sent an entry; null for the operator
abbrev pub sender_data : Sender → Data
sender_data Operator = null
sender_data (FromParticipant bic) = string bic

-- a member that is an entry's number, or null
abbrev pub entry_member : List ℕ → Option ℕ → Members → Members
entry_member name number more = member name (or_null number_data number) more

-- how a cancellation fares
abbrev pub cancel_data : Option ℕ → List ℕ → Data
cancel_data instruction state = object (entry_member (codes "instruction") instruction (text_member (codes "state") state no_members))

-- how what has no more to tell fares
abbrev pub state_data : List ℕ → Data
state_data state = object (text_member (codes "state") state no_members)

-- how an entry fares by now
abbrev pub outcome_data : Outcome → Data
outcome_data Booked = state_data (codes "booked")
outcome_data Unmatched = state_data (codes "unmatched")
outcome_data (Matched mate reason) =
    object (entry_member (codes "mate") mate (text_member (codes "reason") (code_of_reason reason) (text_member (codes "state") (codes "matched") no_members)))
outcome_data (Settled mate run day) =
    object (member (codes "day") (or_null string day) (entry_member (codes "entry") run (entry_member (codes "mate") mate
    (text_member (codes "state") (codes "settled") no_members))))
outcome_data (Cancelled mate) = object (entry_member (codes "mate") mate (text_member (codes "state") (codes "cancelled") no_members))
outcome_data (CancelDone instruction) = cancel_data instruction (codes "done")
outcome_data (CancelWaits instruction) = cancel_data instruction (codes "waits")
outcome_data (CancelLate instruction) = cancel_data instruction (codes "late")
outcome_data (Ran settled waiting) =
    object (number_member (codes "settled") settled (text_member (codes "state") (codes "ran") (number_member (codes "waiting") waiting no_members)))

-- an accepted entry, how it fares by now, and the messages that were sent because of it
abbrev pub journal_data : JournalRow → List MessageKey → Data
journal_data row keys =
    object (member (codes "command") (command_data row.entry) (member (codes "messages") (array (items_of (map key_data keys)))
    (number_member (codes "number") row.number (member (codes "outcome") (outcome_data row.outcome)
    (text_member (codes "ref") (reference_of row.entry) (member (codes "sender") (sender_data (sender_of row.entry)) no_members))))))

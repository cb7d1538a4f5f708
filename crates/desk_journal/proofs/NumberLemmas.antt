-- No number of a row is a float, so the text of its JSON is known.
use Rattle.std.proofs.Common.{◌≡◌, ℕ, false, List, [], ◌∷◌, map, Option, Some, None, refl}
use Rattle.serde_json.specs.Data.{string}
use Rattle.serde_json.specs.View.{items_of}
use Rattle.serde_json.specs.Written.{has_float, items_have_float}
use Rattle.desk_msg.specs.declared.instruction.Cash.{Cash}
use Rattle.desk_msg.specs.declared.instruction.Instruction.{Instruction}
use Rattle.desk_rules.specs.declared.history.entry.Entry.{Entry}
use Rattle.desk_rules.specs.declared.history.entry.Entry.TheVariants.{Participant, Account, Security, Issue, Redeem, PayIn, PayOut, Instruct, Cancel, Run}
use Rattle.desk_rules.specs.declared.history.entry.Sender.{Sender}
use Rattle.desk_rules.specs.declared.history.entry.Sender.TheVariants.{Operator, Participant as FromParticipant}
use Rattle.desk_rules.specs.History.{sender_of}
use Rattle.desk_report.specs.RowData.{amount_data, ccy_data, number_data, or_null}
use Rattle.desk_journal.specs.JournalData.{command_data, instruct_data, journal_data, key_data, outcome_data, sender_data}
use Rattle.desk_journal.specs.declared.rows.journal.JournalRow.{JournalRow}
use Rattle.desk_journal.specs.declared.rows.journal.MessageKey.{MessageKey}
use Rattle.desk_journal.specs.declared.rows.journal.Outcome.{Outcome}
use Rattle.desk_journal.specs.declared.rows.journal.Outcome.TheVariants.{Booked, Unmatched, Matched, Settled, Cancelled, CancelDone, CancelWaits, CancelLate, Ran}

number_known : (number : Option ℕ) → has_float (or_null number_data number) ≡ false
number_known None = refl
number_known (Some n) = refl

day_known : (day : Option (List ℕ)) → has_float (or_null string day) ≡ false
day_known None = refl
day_known (Some day) = refl

amount_known : (cash : Option Cash) → has_float (amount_data cash) ≡ false
amount_known None = refl
amount_known (Some cash) = refl

ccy_known : (cash : Option Cash) → has_float (ccy_data cash) ≡ false
ccy_known None = refl
ccy_known (Some cash) = refl

instruct_known : (instruction : Instruction) → has_float (instruct_data instruction) ≡ false
instruct_known instruction = simp (amount_known instruction.cash, ccy_known instruction.cash)

command_known : (entry : Entry) → has_float (command_data entry) ≡ false
command_known (Participant reference bic) = refl
command_known (Account reference bic account) = refl
command_known (Security reference isin kind) = refl
command_known (Issue movement) = refl
command_known (Redeem movement) = refl
command_known (PayIn payment) = refl
command_known (PayOut payment) = refl
command_known (Instruct sender instruction) = instruct_known instruction
command_known (Cancel sender order) = refl
command_known (Run reference day rule) = refl

sender_known : (sender : Sender) → has_float (sender_data sender) ≡ false
sender_known Operator = refl
sender_known (FromParticipant bic) = refl

outcome_known : (outcome : Outcome) → has_float (outcome_data outcome) ≡ false
outcome_known Booked = refl
outcome_known Unmatched = refl
outcome_known (Matched mate reason) = simp (number_known mate)
outcome_known (Settled mate run day) = simp (day_known day, number_known run, number_known mate)
outcome_known (Cancelled mate) = simp (number_known mate)
outcome_known (CancelDone instruction) = simp (number_known instruction)
outcome_known (CancelWaits instruction) = simp (number_known instruction)
outcome_known (CancelLate instruction) = simp (number_known instruction)
outcome_known (Ran settled waiting) = refl

keys_known : (keys : List MessageKey) → items_have_float (items_of (map key_data keys)) ≡ false
keys_known [] = refl
keys_known (key ∷ keys) = keys_known keys

pub row_known : (row : JournalRow) (keys : List MessageKey) → has_float (journal_data row keys) ≡ false
row_known row keys = simp (command_known row.entry, keys_known keys, outcome_known row.outcome, sender_known (sender_of row.entry))

-- A history is the list of the accepted entries, numbered from 1. Nothing else is state.
use Rattle.std.specs.Prelude.{ℕ, zero, suc, ◌+◌, ◌-◌, Bool, true, false, ◌&&◌, if◌then◌else◌, List, [], ◌∷◌, take, bytes_eq, slice_get, Option, Some, None, option_and_then}
use Rattle.desk_codes.specs.Number.{number_of}
use Rattle.desk_rules.specs.declared.history.entry.Sender.{Sender}
use Rattle.desk_rules.specs.declared.history.entry.Sender.TheVariants.{Operator, Participant as FromParticipant}
pub use Rattle.desk_rules.specs.declared.history.entry.Instructed.{Instructed}
use Rattle.desk_rules.specs.declared.history.entry.RunRule.{RunRule}
use Rattle.desk_rules.specs.declared.history.entry.RunRule.TheVariants.{OnePass}
use Rattle.desk_rules.specs.declared.history.entry.Entry.{Entry}
use Rattle.desk_rules.specs.declared.history.entry.Entry.TheVariants.{Participant, Account, Security, Issue, Redeem, PayIn, PayOut, Instruct, Cancel, Run}

-- the entry of a number
abbrev pub entry_at : List Entry → ℕ → Option Entry
entry_at history zero = None
entry_at history (suc n) = slice_get history n

-- the entries numbered below n
abbrev pub before : ℕ → List Entry → List Entry
before n history = take (n - 1) history

-- what an entry instructs
abbrev pub instructed : Entry → Option Instructed
instructed (Instruct sender instruction) = Some (record { sender = sender; instruction = instruction })
instructed entry = None

-- the instruction of a number
abbrev pub instruction_at : List Entry → ℕ → Option Instructed
instruction_at history n = option_and_then instructed (entry_at history n)

-- the day of a run, as the number YYYYMMDD
abbrev pub run_day : Entry → Option ℕ
run_day (Run reference day rule) = Some (number_of day)
run_day entry = None

-- the rule of a run
abbrev pub run_rule : Entry → Option RunRule
run_rule (Run reference day rule) = Some rule
run_rule entry = None

-- An entry as it was asked for: the rule of a run is no part of the command, and here is always the same.
abbrev pub as_asked : Entry → Entry
as_asked (Run reference day rule) = Run reference day OnePass
as_asked entry = entry

-- who sent an entry, and its reference
abbrev pub sender_of : Entry → Sender
sender_of (Instruct sender instruction) = FromParticipant sender
sender_of (Cancel sender order) = FromParticipant sender
sender_of entry = Operator

abbrev pub reference_of : Entry → List ℕ
reference_of (Participant reference bic) = reference
reference_of (Account reference bic account) = reference
reference_of (Security reference isin kind) = reference
reference_of (Issue movement) = movement.reference
reference_of (Redeem movement) = movement.reference
reference_of (PayIn payment) = payment.reference
reference_of (PayOut payment) = payment.reference
reference_of (Instruct sender instruction) = instruction.reference
reference_of (Cancel sender order) = order.reference
reference_of (Run reference day rule) = reference

abbrev pub same_sender : Sender → Sender → Bool
same_sender Operator Operator = true
same_sender (FromParticipant a) (FromParticipant b) = bytes_eq a b
same_sender a b = false

-- an entry of this sender and reference
abbrev pub has_key : Sender → List ℕ → Entry → Bool
has_key sender reference entry = same_sender (sender_of entry) sender && bytes_eq (reference_of entry) reference

-- the number of the first entry with this key, where the first of these entries has the number n
abbrev pub number_from : ℕ → Sender → List ℕ → List Entry → Option ℕ
number_from n sender reference [] = None
number_from n sender reference (entry ∷ entries) = if has_key sender reference entry then Some n else number_from (n + 1) sender reference entries

-- the number of the entry with this key
abbrev pub number_of_key : List Entry → Sender → List ℕ → Option ℕ
number_of_key history sender reference = number_from 1 sender reference history

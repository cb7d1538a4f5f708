-- Where each key stands, kept beside the entries. Only private contracts and proofs speak of it.
use Rattle.std.specs.Prelude.{◌≡◌, ℕ, List}
use Rattle.std.specs.BTreeMap.{get}
use Rattle.std.specs.Cmp.Lexicographic.{slice_cmp}
use Rattle.std.specs.Ordering.{nat_cmp, ordering_then}
use Rattle.std.specs.declared.cmp.Ordering.{Ordering}
use Rattle.desk_rules.specs.declared.history.entry.Entry.{Entry}
use Rattle.desk_rules.specs.declared.history.entry.Sender.TheVariants.{Operator, Participant as FromParticipant}
use Rattle.desk_rules.specs.History.{number_of_key}
use Rattle.memory_register.specs.declared.entries.keys.Keys.{Keys}
use Rattle.memory_register.specs.TailNumber.{tail_number}

-- the order of texts, and of a sender's BIC with a reference
abbrev pub text_cmp : List ℕ → List ℕ → Ordering
text_cmp = slice_cmp nat_cmp

abbrev pub sender_cmp : List ℕ × List ℕ → List ℕ × List ℕ → Ordering
sender_cmp a b = ordering_then (text_cmp a.0 b.0) (text_cmp a.1 b.1)

-- a command's key and a message's, each behind the tail number of its reference, and their orders
abbrev pub command_key : List ℕ → ℕ × List ℕ
command_key reference = (tail_number reference, reference)

abbrev pub command_cmp : ℕ × List ℕ → ℕ × List ℕ → Ordering
command_cmp a b = ordering_then (nat_cmp a.0 b.0) (text_cmp a.1 b.1)

abbrev pub message_key : List ℕ → List ℕ → ℕ × (List ℕ × List ℕ)
message_key bic reference = (tail_number reference, (bic, reference))

abbrev pub message_cmp : ℕ × (List ℕ × List ℕ) → ℕ × (List ℕ × List ℕ) → Ordering
message_cmp a b = ordering_then (nat_cmp a.0 b.0) (sender_cmp a.1 b.1)

-- the keys have the number of the first entry with each key
pub record AreKeysOf (keys : Keys) (history : List Entry) : Type 0 where
  pub commands : (reference : List ℕ) → get command_cmp keys.commands (command_key reference) ≡ number_of_key history Operator reference
  pub messages : (bic reference : List ℕ) → get message_cmp keys.messages (message_key bic reference) ≡ number_of_key history (FromParticipant bic) reference

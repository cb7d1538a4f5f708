-- The instructions that accepted cancellations name (ISO 15022, function CANC with a link PREV).
use Rattle.std.specs.Prelude.{◌≡◌, ℕ, Bool, true, false, ◌&&◌, ◌==◌, List, drop, bytes_eq, Option, Some, None}
use Rattle.std.specs.List.{list_any}
use Rattle.desk_msg.specs.MessageType.{number_of_type}
use Rattle.desk_rules.specs.declared.history.entry.Entry.{Entry}
use Rattle.desk_rules.specs.declared.history.entry.Entry.TheVariants.{Cancel}
use Rattle.desk_rules.specs.declared.history.pair.Pair.{Pair}
use Rattle.desk_rules.specs.History.{Instructed, entry_at, instruction_at}

-- An entry requests that an instruction be cancelled: it is a cancellation, and names its sender's own instruction of
-- its type by the reference of it.
abbrev pub requests_cancel : Entry → Instructed → Bool
requests_cancel (Cancel sender order) i = bytes_eq sender i.sender && number_of_type order.mt == number_of_type i.instruction.mt && bytes_eq order.previous i.instruction.reference
requests_cancel entry i = false

abbrev pub is_cancel_requested_by : List Entry → Option Instructed → Bool
is_cancel_requested_by entries None = false
is_cancel_requested_by entries (Some i) = list_any (λ entry. requests_cancel entry i) entries

-- An entry after it requests that the instruction of a number be cancelled. An instruction in no pair is cancelled by
-- that; in a pair it takes requests for both sides.
abbrev pub is_cancel_requested : List Entry → ℕ → Bool
is_cancel_requested history k = is_cancel_requested_by (drop k history) (instruction_at history k)

-- requests name both sides of a pair
abbrev pub is_cancelled_pair : List Entry → Pair → Bool
is_cancelled_pair history p = is_cancel_requested history p.earlier && is_cancel_requested history p.later

-- the entry m requests that the instruction k be cancelled
pub record IsRequestFor (history : List Entry) (m k : ℕ) : Type 0 where
  pub entry : Entry
  pub instructed : Instructed
  pub is_entry : entry_at history m ≡ Some entry
  pub is_instructed : instruction_at history k ≡ Some instructed
  pub requests : requests_cancel entry instructed ≡ true

-- The unmatched instructions of a desk's tables, each with the nearest one to it, in the order of their numbers.
use Rattle.std.specs.Prelude.{◌≡◌, ℕ, Bool, false, not, ◌&&◌, ◌||◌, ◌==◌, if◌then◌else◌, List, length, map, bytes_eq, Option, Some, None, option_and_then, option_map}
use Rattle.std.specs.List.{filter_map, find, range_with_len}
use Rattle.desk_msg.specs.declared.instruction.Cash.{Cash}
use Rattle.desk_msg.specs.MessageType.{is_delivery, is_against_payment}
use Rattle.desk_rules.specs.declared.history.entry.Instructed.{Instructed}
use Rattle.desk_rules.specs.Balances.{same_ccy}
use Rattle.desk_rules.specs.Content.{Content}
use Rattle.desk_rules.specs.Facts.{is_of_kind}
use Rattle.desk_book.specs.Sums.{rows_text}
use Rattle.desk_report.specs.RowData.{unmatched_data}
use Rattle.desk_report.specs.declared.rows.unmatched.Differences.{Differences}
use Rattle.desk_report.specs.declared.rows.unmatched.Nearest.{Nearest}
use Rattle.desk_report.specs.declared.rows.unmatched.UnmatchedInstruction.{UnmatchedInstruction}
use Rattle.desk_rules.specs.Unmatched.{unmatched_in}

-- the numbers of the entries, from 1 on
abbrev pub numbers_of : Content → List ℕ
numbers_of content = range_with_len 1 (length content.register)

-- one of two holds, and the other does not
abbrev pub differ : Bool → Bool → Bool
differ a b = if a then not b else b

-- Another instruction is near to one: of one security, the one delivers and the other receives, and each names the other's
-- sender.
abbrev pub is_near : Instructed → Instructed → Bool
is_near one other =
    bytes_eq other.instruction.isin one.instruction.isin
    && bytes_eq other.sender one.instruction.counterparty
    && bytes_eq other.instruction.counterparty one.sender
    && differ (is_delivery other.instruction.mt) (is_delivery one.instruction.mt)

-- both are against payment, in different currencies
abbrev pub currencies_differ : Option Cash → Option Cash → Bool
currencies_differ (Some a) (Some b) = not (same_ccy a.ccy b.ccy)
currencies_differ a b = false

-- both are against payment in one currency, for different amounts
abbrev pub amounts_differ : Option Cash → Option Cash → Bool
amounts_differ (Some a) (Some b) = same_ccy a.ccy b.ccy && not (a.amount == b.amount)
amounts_differ a b = false

-- in what two instructions differ that are near to each other
abbrev pub differences_of : Instructed → Instructed → Differences
differences_of one other = record {
  kind = not (is_of_kind one.instruction.kind (Some other.instruction.kind));
  quantity = not (one.instruction.quantity == other.instruction.quantity);
  day = not (bytes_eq one.instruction.day other.instruction.day);
  payment = differ (is_against_payment one.instruction.mt) (is_against_payment other.instruction.mt);
  currency = currencies_differ one.instruction.cash other.instruction.cash;
  amount = amounts_differ one.instruction.cash other.instruction.cash;
}

-- two differ in something
abbrev pub any_differs : Differences → Bool
any_differs d = d.kind || d.quantity || d.day || d.payment || d.currency || d.amount

-- there is an instruction, and it is near
abbrev pub is_some_near : Instructed → Option Instructed → Bool
is_some_near one None = false
is_some_near one (Some other) = is_near one other

-- the least number of an unmatched instruction that is near to one
abbrev pub nearest_number : Content → Instructed → Option ℕ
nearest_number content one = find (λ n. is_some_near one (unmatched_in content n)) (numbers_of content)

-- what is told of the instruction of a number that is nearest to one
abbrev pub nearest_told : Instructed → ℕ → Instructed → Nearest
nearest_told one n other = record { number = n; reference = other.instruction.reference; differs = differences_of one other }

-- the nearest to an instruction; none where there is none
abbrev pub nearest_of : Content → Instructed → Option Nearest
nearest_of content one = option_and_then (λ n. option_map (nearest_told one n) (unmatched_in content n)) (nearest_number content one)

-- the row of an unmatched instruction
abbrev pub row_of : Content → ℕ → Instructed → UnmatchedInstruction
row_of content n one = record { number = n; instructed = one; nearest = nearest_of content one }

-- the row of a number; none where no unmatched instruction has it
abbrev pub unmatched_row : Content → ℕ → Option UnmatchedInstruction
unmatched_row content n = option_map (row_of content n) (unmatched_in content n)

-- the rows of all unmatched instructions, in the order of their numbers
abbrev pub unmatched_of : Content → List UnmatchedInstruction
unmatched_of content = filter_map (unmatched_row content) (numbers_of content)

-- their text as JSON, without the brackets of the array
abbrev pub IsUnmatchedText : Content → List ℕ → Type 0
IsUnmatchedText content text = text ≡ rows_text false (map unmatched_data (unmatched_of content))

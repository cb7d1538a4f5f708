-- How the entries of a history fare by now.
use Rattle.std.specs.Prelude.{ℕ, Option, Some, None, option_and_then}
use Rattle.desk_rules.specs.declared.history.entry.Entry.{Entry}
use Rattle.desk_rules.specs.declared.history.entry.Entry.TheVariants.{Cancel, Instruct, Run}
use Rattle.desk_rules.specs.declared.history.standing.State.{State}
use Rattle.desk_rules.specs.declared.history.standing.State.TheVariants as states
use Rattle.desk_rules.specs.Books.{Books}
use Rattle.desk_rules.specs.Pairing.{mate_of}
use Rattle.desk_rules.specs.Settlement.{settled_count}
use Rattle.desk_rules.specs.Standing.{state_of}
use Rattle.desk_rules.specs.Verdict.{named_by}
use Rattle.desk_journal.specs.Runs.{day_of_number, left_waiting, settled_in}
use Rattle.desk_journal.specs.declared.rows.journal.Outcome.{Outcome}
use Rattle.desk_journal.specs.declared.rows.journal.Outcome.TheVariants as outcomes

-- an instruction, by its state
abbrev pub instructed_outcome : Books → ℕ → State → Outcome
instructed_outcome books n states.Unmatched = outcomes.Unmatched
instructed_outcome books n (states.Matched reason) = outcomes.Matched (mate_of books.pairs n) reason
instructed_outcome books n states.Settled = outcomes.Settled (mate_of books.pairs n) (settled_in books n) (option_and_then (day_of_number books) (settled_in books n))
instructed_outcome books n states.Cancelled = outcomes.Cancelled (mate_of books.pairs n)
instructed_outcome books n state = outcomes.Booked

-- where the instruction of a number stands, if there is one
abbrev pub state_if : Books → Option ℕ → State
state_if books None = states.NoInstruction
state_if books (Some n) = state_of books n

-- a cancellation, by the state of the instruction that it names
abbrev pub cancel_outcome : Option ℕ → State → Outcome
cancel_outcome named states.Cancelled = outcomes.CancelDone named
cancel_outcome named states.Settled = outcomes.CancelLate named
cancel_outcome named state = outcomes.CancelWaits named

-- The entry of a number. An instruction and a cancellation are told as they stand now, a run as it ended.
abbrev pub outcome_of : Books → ℕ → Entry → Outcome
outcome_of books n (Instruct sender instruction) = instructed_outcome books n (state_of books n)
outcome_of books n (Cancel sender order) = cancel_outcome (named_by books.history sender order) (state_if books (named_by books.history sender order))
outcome_of books n (Run reference day rule) = outcomes.Ran (settled_count books.settled n) (left_waiting books n)
outcome_of books n entry = outcomes.Booked

-- Where the entry of a number stands: its mate and its state.
use Rattle.std.specs.Prelude.{ℕ, zero, suc, ◌+◌, Bool, not, ◌&&◌, if◌then◌else◌, List, length, Option, Some, None, false}
use Rattle.desk_msg.specs.declared.writing.status.Reason.{Reason}
use Rattle.desk_msg.specs.declared.writing.status.Reason.TheVariants.{Future, Lack as LackReason, Money as MoneyReason}
use Rattle.desk_rules.specs.declared.history.entry.Entry.{Entry}
use Rattle.desk_rules.specs.declared.history.pair.Pair.{Pair}
use Rattle.desk_rules.specs.declared.history.pair.Lack.{Lack}
use Rattle.desk_rules.specs.declared.history.pair.Lack.TheVariants.{Securities, Money}
use Rattle.desk_rules.specs.declared.history.standing.State.{State}
use Rattle.desk_rules.specs.declared.history.standing.State.TheVariants as states
use Rattle.desk_rules.specs.declared.history.standing.Standing.{Standing}
use Rattle.desk_rules.specs.History.{Instructed, before, instruction_at}
use Rattle.desk_rules.specs.Cancelled.{is_cancel_requested, is_cancelled_pair}
use Rattle.desk_rules.specs.Pairing.{pair_of, mate_of}
use Rattle.desk_rules.specs.Covered.{lack_of}
use Rattle.desk_rules.specs.Settlement.{is_due, settled_before, passes_of}
use Rattle.desk_rules.specs.Books.{Books, is_settled}

-- What is not settled is cancelled: in no pair by a request for it, in a pair by requests for both sides.
abbrev pub is_called_off : List Entry → ℕ → Option Pair → Bool
is_called_off history n None = is_cancel_requested history n
is_called_off history n (Some p) = is_cancelled_pair history p

-- an instruction is cancelled
abbrev pub is_cancelled : Books → ℕ → Bool
is_cancelled books n = not (is_settled books n) && is_called_off books.history n (pair_of books.pairs n)

abbrev pub reason_of_lack : Option Lack → Reason
reason_of_lack None = Future
reason_of_lack (Some Securities) = LackReason
reason_of_lack (Some Money) = MoneyReason

-- Why a pair is not settled, by the last run below a number that tried it: what it lacked in that run's last pass.
-- Where no run has tried it yet its day is told as to come.
abbrev pub reason_below : Books → Pair → ℕ → Reason
reason_below books p zero = Future
reason_below books p (suc n) =
    if is_due books.history n p
    then reason_of_lack (lack_of (before n books.history) (settled_before books.history (record { run = n; pass = passes_of books.history books.settled n; pair = p }) books.settled) p)
    else reason_below books p n

-- how an instruction stands that is neither settled nor cancelled, by the pair that it is in
abbrev pub open_state : Books → Option Pair → State
open_state books None = states.Unmatched
open_state books (Some p) = states.Matched (reason_below books p (length books.history + 1))

abbrev pub instruction_state : Books → ℕ → Option Instructed → State
instruction_state books n None = states.NoInstruction
instruction_state books n (Some i) =
    if is_settled books n then states.Settled
    else (if is_called_off books.history n (pair_of books.pairs n) then states.Cancelled else open_state books (pair_of books.pairs n))

abbrev pub state_of : Books → ℕ → State
state_of books n = instruction_state books n (instruction_at books.history n)

-- where what is no instruction stands
abbrev pub no_standing : Standing
no_standing = record { mate = None; state = states.NoInstruction; cancel_requested = false }

-- where the entry of a number stands; a request for its cancellation stays noted, whatever came of it
abbrev pub standing_of : Books → ℕ → Standing
standing_of books n = record { mate = mate_of books.pairs n; state = state_of books n; cancel_requested = is_cancel_requested books.history n }

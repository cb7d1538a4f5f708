-- What a cancellation calls off, by where entries stand, and what becomes of a content by that. Only private contracts
-- speak of it.
use Rattle.std.specs.Prelude.{ℕ, nat_lt, if◌then◌else◌, Option, Some, None}
use Rattle.desk_rules.specs.declared.history.pair.Pair.{Pair}
use Rattle.desk_rules.specs.declared.history.standing.State.{State}
use Rattle.desk_rules.specs.declared.history.standing.State.TheVariants as states
use Rattle.desk_rules.specs.declared.history.standing.State.TheVariants.{NoInstruction, Unmatched, Matched}
use Rattle.desk_rules.specs.declared.history.standing.Standing.{Standing}
use Rattle.desk_rules.specs.Content.{Content}
use Rattle.desk_register.specs.Changes.{cancelled, pair_cancelled}
use Rattle.desk_engine.specs.declared.cancelling.CallsOff.{CallsOff}
use Rattle.desk_engine.specs.declared.cancelling.CallsOff.TheVariants.{Alone, Both, Nothing}

-- the pair of an instruction and its mate, the earlier one first
abbrev pub pair_with : ℕ → ℕ → Pair
pair_with n m = if nat_lt m n then record { earlier = m; later = n } else record { earlier = n; later = m }

-- of what is matched, both sides where the other one asked before
abbrev pub off_with : (ℕ → Standing) → ℕ → State → Option ℕ → CallsOff
off_with standing n state None = Nothing state
off_with standing n state (Some m) = if (standing m).cancel_requested then Both (pair_with n m) else Nothing state

abbrev pub off_by_state : (ℕ → Standing) → ℕ → Option ℕ → State → CallsOff
off_by_state standing n mate Unmatched = Alone n
off_by_state standing n mate (Matched reason) = off_with standing n (Matched reason) mate
off_by_state standing n mate state = Nothing state

-- what a request to cancel the instruction that is named calls off
abbrev pub off_by : (ℕ → Standing) → Option ℕ → CallsOff
off_by standing None = Nothing NoInstruction
off_by standing (Some n) = off_by_state standing n (standing n).mate (standing n).state

-- where the instruction stands then that is named
abbrev pub state_then : CallsOff → State
state_then (Alone n) = states.Cancelled
state_then (Both p) = states.Cancelled
state_then (Nothing state) = state

-- the content in which what is called off stands cancelled
abbrev pub called_off : CallsOff → Content → Content
called_off (Alone n) content = cancelled n content
called_off (Both p) content = pair_cancelled p.earlier p.later content
called_off (Nothing state) content = content

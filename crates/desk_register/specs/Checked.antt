-- Why a register sees an entry refused, whose key is new and whose sender is known.
use Rattle.std.specs.Prelude.{nat_lt, Bool, true, false, not, if◌then◌else◌, List, [], ◌∷◌, Option, Some, None, is_none}
use Rattle.desk_rules.specs.declared.history.entry.Entry.{Entry}
use Rattle.desk_rules.specs.declared.history.entry.Entry.TheVariants.{Redeem, PayOut, Cancel}
use Rattle.desk_rules.specs.declared.history.standing.State.{State}
use Rattle.desk_rules.specs.declared.history.standing.State.TheVariants as states
use Rattle.desk_rules.specs.declared.answers.verdict.Refusal.{Refusal}
use Rattle.desk_rules.specs.declared.answers.verdict.Refusal.TheVariants.{NoSuchInstruction, AlreadyCancelled, AlreadySettled, CancellationWaits, ParticipantUnknown, AccountUnknown, SecurityUnknown, NotEnough}
use Rattle.desk_rules.specs.Content.{Content, history_of}
use Rattle.desk_rules.specs.Facts.{is_participant, kind_of, owner_of}
use Rattle.desk_rules.specs.Books.{Books}
use Rattle.desk_rules.specs.Verdict.{Check, check, checks_of, holds_of, named_by}

-- the refusal of the first check that fails
abbrev pub first_refusal : List Check → Option Refusal
first_refusal [] = None
first_refusal (c ∷ checks) = if c.fails then Some c.refusal else first_refusal checks

-- a history of which nothing is paired or settled: most checks read no more
abbrev pub with_history : List Entry → Books
with_history history = record { history = history; pairs = []; settled = [] }

abbrev pub is_cancelled_state : State → Bool
is_cancelled_state states.Cancelled = true
is_cancelled_state state = false

abbrev pub is_settled_state : State → Bool
is_settled_state states.Settled = true
is_settled_state state = false

-- The checks of an entry whose key is new, as a register sees them: balances and states for what the history says of
-- credits, debits, pairs and settlements.
abbrev pub checks_in : Content → Entry → List Check
checks_in content (Redeem movement) =
    check (is_none (owner_of (history_of content) movement.account)) AccountUnknown
    ∷ check (is_none (kind_of (history_of content) movement.isin)) SecurityUnknown
    ∷ check (nat_lt (content.position movement.account movement.isin) movement.quantity) NotEnough ∷ []
checks_in content (PayOut payment) =
    check (not (is_participant (history_of content) payment.bic)) ParticipantUnknown
    ∷ check (nat_lt (content.cash payment.bic payment.ccy) payment.amount) NotEnough ∷ []
checks_in content (Cancel sender order) =
    let named = named_by (history_of content) sender order in
    check (is_none named) NoSuchInstruction
    ∷ check (holds_of (λ k. is_cancelled_state (content.standing k).state) named) AlreadyCancelled
    ∷ check (holds_of (λ k. is_settled_state (content.standing k).state) named) AlreadySettled
    ∷ check (holds_of (λ k. (content.standing k).cancel_requested) named) CancellationWaits ∷ []
checks_in content entry = checks_of (with_history (history_of content)) entry

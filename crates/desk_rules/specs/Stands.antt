-- Where an entry stands in books, said by relations: the form that steps of a register are proved in. Only proofs and
-- private contracts speak of it; proofs/StandsLemmas.antt shows that it says what `standing_of` computes.
use Rattle.std.specs.Prelude.{◌≡◌, ◌⊎◌, ℕ, ◌+◌, ◌<◌, Bool, true, false, length, Contains, Option, Some, None}
use Rattle.desk_msg.specs.declared.writing.status.Reason.{Reason}
use Rattle.desk_msg.specs.declared.writing.status.Reason.TheVariants.{Future}
use Rattle.desk_rules.specs.declared.history.entry.Instructed.{Instructed}
use Rattle.desk_rules.specs.declared.history.pair.Pair.{Pair}
use Rattle.desk_rules.specs.declared.history.pair.Settled.{Settled}
use Rattle.desk_rules.specs.declared.history.standing.State.{State}
use Rattle.desk_rules.specs.declared.history.standing.State.TheVariants as states
use Rattle.desk_rules.specs.declared.history.standing.State.TheVariants.{NoInstruction, Unmatched, Matched, Cancelled}
use Rattle.desk_rules.specs.declared.history.standing.Standing.{Standing}
use Rattle.desk_rules.specs.History.{before}
use Rattle.desk_rules.specs.Cancelled.{is_cancel_requested, is_cancelled_pair}
use Rattle.desk_rules.specs.Pairing.{IsFree, IsSide, mate_in}
use Rattle.desk_rules.specs.Covered.{lack_of}
use Rattle.desk_rules.specs.Settlement.{IsUnsettled, is_due, settled_before, passes_of}
use Rattle.desk_rules.specs.Books.{Books}
use Rattle.desk_rules.specs.Standing.{no_standing, reason_of_lack}

-- what the last pass of a run, in which a pair is due, found
abbrev pub reason_found : Books → Pair → ℕ → Reason
reason_found books p run = reason_of_lack (lack_of (before run books.history) (settled_before books.history (record { run = run; pass = passes_of books.history books.settled run; pair = p }) books.settled) p)

-- no run below a number tried the pair, or the last that did found this
pub record IsUntriedBelow (books : Books) (p : Pair) (n : ℕ) (reason : Reason) : Type 0 where
  pub none : (run : ℕ) → run < n → is_due books.history run p ≡ true → ⊥
  pub future : reason ≡ Future

pub record IsTriedBelow (books : Books) (p : Pair) (n : ℕ) (reason : Reason) : Type 0 where
  pub run : ℕ
  pub below : run < n
  pub due : is_due books.history run p ≡ true
  pub last : (later : ℕ) → run < later → later < n → is_due books.history later p ≡ true → ⊥
  pub found : reason ≡ reason_found books p run

abbrev pub IsReasonBelow : Books → Pair → ℕ → Reason → Type 0
IsReasonBelow books p n reason = IsUntriedBelow books p n reason ⊎ IsTriedBelow books p n reason

-- why a pair of these books is not settled
abbrev pub IsReason : Books → Pair → Reason → Type 0
IsReason books p reason = IsReasonBelow books p (length books.history + 1) reason

-- an instruction is in no pair, and its cancellation was requested, or was not
pub record IsAlone (books : Books) (k : ℕ) (mate : Option ℕ) (is_gone : Bool) : Type 0 where
  pub none : mate ≡ None
  pub free : IsFree books.pairs k
  pub gone : is_cancel_requested books.history k ≡ is_gone

-- it is in a pair that is not settled, and is cancelled, or is not
pub record IsInPair (books : Books) (k : ℕ) (mate : Option ℕ) (pair : Pair) (is_gone : Bool) : Type 0 where
  pub paired : Contains books.pairs pair
  pub side : IsSide pair k
  pub other : mate ≡ Some (mate_in pair k)
  pub unsettled : IsUnsettled books.settled pair
  pub gone : is_cancelled_pair books.history pair ≡ is_gone

pub record IsMatched (books : Books) (k : ℕ) (mate : Option ℕ) (reason : Reason) : Type 0 where
  pub pair : Pair
  pub in_pair : IsInPair books k mate pair false
  pub why : IsReason books pair reason

pub record IsCancelledSide (books : Books) (k : ℕ) (mate : Option ℕ) : Type 0 where
  pub pair : Pair
  pub in_pair : IsInPair books k mate pair true

-- it is in a settled pair
pub record IsSettledSide (books : Books) (k : ℕ) (mate : Option ℕ) : Type 0 where
  pub settlement : Settled
  pub settled : Contains books.settled settlement
  pub side : IsSide settlement.pair k
  pub other : mate ≡ Some (mate_in settlement.pair k)

abbrev pub StandsSo : Books → ℕ → Option ℕ → State → Type 0
StandsSo books k mate NoInstruction = ⊥
StandsSo books k mate Unmatched = IsAlone books k mate false
StandsSo books k mate Cancelled = IsAlone books k mate true ⊎ IsCancelledSide books k mate
StandsSo books k mate (Matched reason) = IsMatched books k mate reason
StandsSo books k mate states.Settled = IsSettledSide books k mate

-- an instruction stands so, and its cancellation was requested, or was not
pub record InstructionStands (books : Books) (k : ℕ) (standing : Standing) : Type 0 where
  pub so : StandsSo books k standing.mate standing.state
  pub requested : standing.cancel_requested ≡ is_cancel_requested books.history k

abbrev pub StandsAt : Books → ℕ → Option Instructed → Standing → Type 0
StandsAt books k None standing = standing ≡ no_standing
StandsAt books k (Some i) standing = InstructionStands books k standing

-- What a run comes to, pass by pass, before the run itself is added. Only proofs and private contracts speak of it.
use Rattle.std.specs.Prelude.{◌≡◌, ℕ, ◌+◌, ◌*◌, ◌<◌, ◌≤◌, ◌&&◌, Bool, true, false, not, List, [], ◌∷◌, ◌++◌, length, count_by, Contains, ◌⊎◌, Option, Some, None}
use Rattle.desk_msg.specs.declared.writing.status.Reason.{Reason}
use Rattle.desk_rules.specs.declared.history.entry.Entry.{Entry}
use Rattle.desk_rules.specs.declared.history.entry.Entry.TheVariants.{Run}
use Rattle.desk_rules.specs.declared.history.entry.Instructed.{Instructed}
use Rattle.desk_rules.specs.declared.history.entry.RunRule.{RunRule}
use Rattle.desk_rules.specs.declared.history.pair.Pair.{Pair}
use Rattle.desk_rules.specs.declared.history.pair.Place.{Place}
use Rattle.desk_rules.specs.declared.history.pair.Settled.{Settled}
use Rattle.desk_rules.specs.declared.history.standing.State.{State}
use Rattle.desk_rules.specs.declared.history.standing.State.TheVariants as states
use Rattle.desk_rules.specs.declared.history.standing.State.TheVariants.{NoInstruction, Unmatched, Matched, Cancelled}
use Rattle.desk_rules.specs.declared.history.standing.Standing.{Standing}
use Rattle.desk_rules.specs.declared.answers.verdict.Verdict.TheVariants.{Accept}
use Rattle.desk_rules.specs.History.{instruction_at}
use Rattle.desk_rules.specs.Cancelled.{is_cancel_requested}
use Rattle.desk_rules.specs.Covered.{lack_of}
use Rattle.desk_rules.specs.Settlement.{is_past, passes_of, is_due, settled_before, pass_begins, settled_count, IsSettlement}
use Rattle.desk_rules.specs.Underway.{is_above}
use Rattle.desk_rules.specs.Books.{Books, AreBooks}
use Rattle.desk_rules.specs.Standing.{no_standing, reason_of_lack}
use Rattle.desk_rules.specs.Verdict.{IsVerdict, WasAccepted}
use Rattle.desk_rules.specs.Reply.{is_settled_pair, waiting_count}
use Rattle.desk_rules.specs.Content.{Content, history_of}
use Rattle.desk_rules.specs.Tables.{AreCashBalances, ArePositions}
use Rattle.desk_rules.specs.Stands.{IsReason, IsAlone, IsInPair, IsCancelledSide, IsSettledSide, StandsAt}
use Rattle.desk_rules.specs.Underway.{IsSettledAsFar}
use Rattle.desk_codes.specs.Number.{number_of}
use Rattle.desk_rules.specs.declared.limits.TheConstants.{SENT_A_PAIR}
use Rattle.desk_rules.specs.Sent.{sent_of}
use Rattle.desk_register.specs.Changes.{CanSettle, TriesPair}
use Rattle.desk_register.specs.Looked.{IsDuePairAfter}
use Rattle.desk_register.specs.Short.{IsToTryAfter}
use Rattle.desk_register.specs.declared.outcome.Outcome.{Outcome}
use Rattle.desk_register.specs.declared.outcome.Outcome.TheVariants as outcomes
use Rattle.desk_register.specs.declared.outcome.Outcome.TheVariants.{Lacks}
use Rattle.desk_engine.specs.declared.settlement_run.Ran.{Ran}
use Rattle.desk_engine.specs.declared.settlement_run.Taken.{Taken}
use Rattle.desk_engine.specs.Sending.{with_both_confirmed}
use Rattle.desk_engine.specs.Tables.{Tables}

-- the books with the run, where this is settled
abbrev pub books_after : Books → Entry → List Settled → Books
books_after books run settled = record { history = books.history ++ run ∷ []; pairs = books.pairs; settled = settled }

-- A run has made its passes, and this is settled: what the register holds before the run itself is added.
pub record HasPassed (books : Books) (run : Entry) (settled : List Settled) (content : Content) : Type 0 where
  pub history : history_of content ≡ books.history
  pub settlement : IsSettlement (books.history ++ run ∷ []) books.pairs settled
  pub standing : (k : ℕ) → StandsAt (books_after books run settled) k (instruction_at books.history k) (content.standing k)
  pub position : ArePositions books.history settled content.position
  pub cash : AreCashBalances books.history settled content.cash

-- what was sent in a run so far, and before it
abbrev pub HasToldSoFar : Books → Entry → List Settled → Content → Type 0
HasToldSoFar books run settled content = content.sent ≡ sent_of (books_after books run settled)

-- The desk accepts a run, and it has made its passes.
pub record IsPassed (limit : ℕ) (run : Entry) (content : Content) : Type 0 where
  pub books : Books
  pub are_books : AreBooks books
  pub accepted : WasAccepted limit books.history
  pub verdict : IsVerdict limit books run Accept
  pub settled : List Settled
  pub passed : HasPassed books run settled content
  pub told : HasToldSoFar books run settled content

-- what is told of a pair that was tried, by the numbers of its sides and the earlier instruction: its settlement to both
-- parties, and of what it lacks nothing
abbrev pub told_of_try : ℕ → ℕ → Instructed → List ℕ → Outcome → Content → Content
told_of_try m n earlier day outcomes.Settled content = with_both_confirmed m n earlier day content
told_of_try m n earlier day (Lacks lack) content = content

-- A pair was tried by a run of a day, and told if it settled.
pub record IsTried (old : Content) (n : ℕ) (day : List ℕ) (outcome : Outcome) (new : Content) : Type 0 where
  pub between : Content
  pub tried : TriesPair old n outcome between
  pub told : new ≡ told_of_try tried.mate n tried.earlier day outcome between

-- a pair that was tried, and how it fared
pub record Tried : Type 0 where
  pub place : Place
  pub outcome : Outcome

-- the next due pair past a place, tried; or there is none
abbrev pub IsTaken : Content → List ℕ → Option Place → Option Tried → Content → Type 0
IsTaken old day place None new = IsDuePairAfter old (number_of day) place None × (new ≡ old)
IsTaken old day place (Some taken) new = IsDuePairAfter old (number_of day) place (Some taken.place) × IsTried old taken.place.number day taken.outcome new

-- a pair settles by a try
abbrev pub has_settled : Outcome → Bool
has_settled outcomes.Settled = true
has_settled (Lacks lack) = false

-- A pair settles, or not, as by a try: whether it was tried, or is known to stay short, makes no difference.
pub record Fares (old : Content) (n : ℕ) (day : List ℕ) (settles : Bool) (new : Content) : Type 0 where
  pub outcome : Outcome
  pub settled : has_settled outcome ≡ settles
  pub tried : IsTried old n day outcome new

-- the next pair that a pass takes past a place: the first due one, or where the run goes over them again one before which
-- all stay short
abbrev pub IsNextPair : Bool → Content → ℕ → Option Place → Option Place → Type 0
IsNextPair false content day place next = IsDuePairAfter content day place next
IsNextPair true content day place next = IsToTryAfter content day place next

-- this pair is taken; or there is none
abbrev pub Takes : Bool → Content → List ℕ → Option Place → Option Taken → Content → Type 0
Takes again old day place None new = IsNextPair again old (number_of day) place None × (new ≡ old)
Takes again old day place (Some taken) new = IsNextPair again old (number_of day) place (Some taken.place) × Fares old taken.place.number day taken.settles new

-- what was taken past a place is past it
abbrev pub IsTakenPast : Option Place → Option Taken → Type 0
IsTakenPast place None = Unit {0}
IsTakenPast place (Some taken) = is_past place taken.place ≡ true

-- a pair can be tried: it can settle, and both parties be told
pub record CanTry (limit : ℕ) (content : Content) (n day : ℕ) : Type 0 where
  pub settle : CanSettle content n day
  pub room : length content.sent + 1 < SENT_A_PAIR * limit

-- how many pairs settled in one try
abbrev pub settled_of : Outcome → ℕ
settled_of outcomes.Settled = 1
settled_of (Lacks lack) = 0

-- one where a pair settles
abbrev pub one_if : Bool → ℕ
one_if true = 1
one_if false = 0

-- Within a pass.

module _ (books : Books) (run : Entry) where
  -- the history with the run, and the run's number
  abbrev pub with_run : List Entry
  with_run = books.history ++ run ∷ []

  abbrev pub run_number : ℕ
  run_number = length books.history + 1

  -- what a pass of the run finds of a pair that is not settled
  abbrev pub found_in : ℕ → List Settled → Pair → Reason
  found_in pass settled p = reason_of_lack (lack_of books.history (settled_before with_run (record { run = run_number; pass = pass; pair = p }) settled) p)

  module _ (pass : ℕ) (is_tried : Pair → Bool) (settled : List Settled) where
    -- An instruction in a pair that is not settled so far: where the pair is not due in the run, it stands as before
    -- the run; where the pass has tried it, it stands as the pass found. (Between, anything may stand there.)
    pub record IsWaiting (k : ℕ) (mate : Option ℕ) (reason : Reason) : Type 0 where
      pub pair : Pair
      pub in_pair : IsInPair (record books { settled = settled }) k mate pair false
      pub not_due : is_due with_run run_number pair ≡ false → IsReason books pair reason
      pub tried : is_due with_run run_number pair ≡ true → is_tried pair ≡ true → reason ≡ found_in pass settled pair

    abbrev pub PassesSo : ℕ → Option ℕ → State → Type 0
    PassesSo k mate NoInstruction = ⊥
    PassesSo k mate Unmatched = IsAlone books k mate false
    PassesSo k mate Cancelled = IsAlone books k mate true ⊎ IsCancelledSide (record books { settled = settled }) k mate
    PassesSo k mate (Matched reason) = IsWaiting k mate reason
    PassesSo k mate states.Settled = IsSettledSide (record books { settled = settled }) k mate

    pub record InstructionPasses (k : ℕ) (standing : Standing) : Type 0 where
      pub so : PassesSo k standing.mate standing.state
      pub requested : standing.cancel_requested ≡ is_cancel_requested books.history k

    abbrev pub PassesAt : ℕ → Option Instructed → Standing → Type 0
    PassesAt k None standing = standing ≡ no_standing
    PassesAt k (Some i) standing = InstructionPasses k standing

    -- the content, within the pass
    pub record IsPassing (content : Content) : Type 0 where
      pub history : history_of content ≡ books.history
      pub standing : (k : ℕ) → PassesAt k (instruction_at books.history k) (content.standing k)
      pub position : ArePositions books.history settled content.position
      pub cash : AreCashBalances books.history settled content.cash

  -- what the run has settled so far, behind what earlier runs did; in all no more pairs than there are
  pub record IsFurther (settled : List Settled) : Type 0 where
    pub more : List Settled
    pub is_more : settled ≡ books.settled ++ more
    pub of_run : (s : Settled) → Contains more s → s.run ≡ run_number
    pub few : length settled + count_by (λ p. not (is_settled_pair settled p)) books.pairs ≤ length books.pairs

  -- a pass tries pairs in order: those not above the place it has tried
  abbrev pub is_below : Option Place → Pair → Bool
  is_below place p = not (is_above with_run place p)

  -- A pass has come to a place.
  pub record IsUnderway (pass : ℕ) (place : Option Place) (settled : List Settled) (content : Content) : Type 0 where
    pub passing : IsPassing pass (is_below place) settled content
    pub reached : IsSettledAsFar with_run books.pairs run_number pass place settled
    pub begun : pass_begins with_run settled run_number pass ≡ true
    pub further : IsFurther settled

  -- how many pairs are due in the run and not settled
  abbrev pub due_left : List Settled → ℕ
  due_left settled = count_by (λ p. is_due with_run run_number p && not (is_settled_pair settled p)) books.pairs

  -- A pass is over: it has tried all due pairs, so many settled in it, and so many that are due are not settled.
  pub record IsOver (pass : ℕ) (before settled : List Settled) (settled_so waiting_so : ℕ) (content : Content) : Type 0 where
    pub passing : IsPassing pass (λ p. true) settled content
    pub reached : IsSettledAsFar with_run books.pairs run_number (pass + 1) None settled
    pub begun : pass_begins with_run settled run_number pass ≡ true
    pub further : IsFurther settled
    pub here : List Settled
    pub is_here : settled ≡ before ++ here
    pub earlier : (s : Settled) → Contains before s → s.run ≡ run_number → s.pass < pass
    pub of_pass : (s : Settled) → Contains here s → (s.run ≡ run_number) × (s.pass ≡ pass)
    pub counted : length here ≡ settled_so
    pub waits : count_by (λ p. is_due with_run run_number p && not (is_settled_pair settled p)) books.pairs ≡ waiting_so

-- A register at the beginning of a pass of a run, in books of which each entry was accepted.
pub record IsAtPass (limit : ℕ) (books : Books) (run : Entry) (pass : ℕ) (settled : List Settled) (content : Content) : Type 0 where
  pub are_books : AreBooks books
  pub accepted : WasAccepted limit books.history
  pub underway : IsUnderway books run pass None settled content
  pub told : HasToldSoFar books run settled content

-- A run has made these passes, and may make one more: the register is at its beginning, with so much settled so far.
pub record HasMade (limit : ℕ) (books : Books) (run : Entry) (ran : Ran) (settled : List Settled) (content : Content) : Type 0 where
  pub at_pass : IsAtPass limit books run (ran.passes + 1) settled content
  pub so_far : length settled ≡ length books.settled + ran.settled
  pub waits : 0 < ran.passes → due_left books run settled ≡ ran.waiting

pub record CanPass (limit : ℕ) (day : List ℕ) (ran : Ran) (content : Content) : Type 0 where
  pub books : Books
  pub reference : List ℕ
  pub rule : RunRule
  pub settled : List Settled
  pub made : HasMade limit books (Run reference day rule) ran settled content

-- the pass is over, with so much settled in it, and so much that is due left
pub record PassEnds (books : Books) (run : Entry) (pass : ℕ) (before : List Settled) (settled_so waiting_so : ℕ) (content : Content) : Type 0 where
  pub settled : List Settled
  pub over : IsOver books run pass before settled settled_so waiting_so content
  pub told : HasToldSoFar books run settled content

-- a register with the tables of an accepted history
pub record CanRun (limit : ℕ) (content : Content) : Type 0 where
  pub books : Books
  pub tables : Tables limit books content

-- what a run came to: its passes are made, so many settled in the run, and so many were due in it and are not settled
pub record RanTo (books : Books) (run : Entry) (settled_so waiting_so passes_so : ℕ) (content : Content) : Type 0 where
  pub settled : List Settled
  pub passed : HasPassed books run settled content
  pub told : HasToldSoFar books run settled content
  pub settles : settled_count settled (length books.history + 1) ≡ settled_so
  pub waits : waiting_count (books_after books run settled) (length books.history + 1) ≡ waiting_so
  pub passes : passes_of (books.history ++ run ∷ []) settled (length books.history + 1) ≡ passes_so

-- What the desk decides on an entry: the first check that fails, in the order of the table, else Accept.
use Rattle.std.specs.Prelude.{◌≡◌, ℕ, ◌+◌, nat_lt, nat_le, ◌==◌, Bool, false, not, if◌then◌else◌, List, [], ◌∷◌, length, bytes_eq, MatchBool, Option, Some, None, is_none, is_some, option_and_then, option_map}
use Rattle.desk_codes.specs.Number.{number_of}
use Rattle.desk_msg.specs.declared.instruction.CancelOrder.{CancelOrder}
use Rattle.desk_msg.specs.Depository.{desk_bic}
use Rattle.desk_msg.specs.MessageType.{number_of_type}
use Rattle.desk_rules.specs.declared.history.entry.Sender.{Sender}
use Rattle.desk_rules.specs.declared.history.entry.Sender.TheVariants.{Operator, Participant as FromParticipant}
use Rattle.desk_rules.specs.declared.history.entry.Entry.{Entry}
use Rattle.desk_rules.specs.declared.history.entry.Entry.TheVariants.{Participant, Account, Security, Issue, Redeem, PayIn, PayOut, Instruct, Cancel, Run}
use Rattle.desk_rules.specs.declared.answers.verdict.Refusal.{Refusal}
use Rattle.desk_rules.specs.declared.answers.verdict.Refusal.TheVariants.{SenderUnknown, ReferenceReused, PlaceNotUs, UnknownSecurity, KindDiffers, AccountNotSenders, CounterpartyUnknown, NoSuchInstruction, AlreadyCancelled, AlreadySettled, Full, CancellationWaits, CommandReused, Exists, ParticipantUnknown, AccountUnknown, SecurityUnknown, OverLimit, NotEnough, DayGoesBack}
use Rattle.desk_rules.specs.declared.answers.verdict.Verdict.{Verdict}
use Rattle.desk_rules.specs.declared.answers.verdict.Verdict.TheVariants.{Accept, Repeat, Refuse}
use Rattle.desk_rules.specs.declared.limits.TheConstants.{MOST_PAID, MOST_QUANTITY}
use Rattle.desk_rules.specs.History.{Instructed, as_asked, entry_at, before, instruction_at, sender_of, reference_of, number_of_key}
use Rattle.desk_rules.specs.Facts.{is_participant, owner_of, kind_of, last_run, is_of_kind, is_owner, is_after}
use Rattle.desk_rules.specs.Balances.{issued, redeemed, credits, debits, paid_in, paid_out, cash_credits, cash_debits}
use Rattle.desk_rules.specs.Cancelled.{is_cancel_requested}
use Rattle.desk_rules.specs.Books.{Books, AreBooks, is_settled}
use Rattle.desk_rules.specs.Standing.{is_cancelled}

-- the number of the instruction that a cancellation names: the sender's, of that reference and type
abbrev pub if_of_type : ℕ → ℕ → Option Instructed → Option ℕ
if_of_type mt k None = None
if_of_type mt k (Some i) = if number_of_type i.instruction.mt == mt then Some k else None

abbrev pub named_by : List Entry → List ℕ → CancelOrder → Option ℕ
named_by history sender order =
    option_and_then (λ k. if_of_type (number_of_type order.mt) k (instruction_at history k)) (number_of_key history (FromParticipant sender) order.previous)

abbrev pub holds_of : (ℕ → Bool) → Option ℕ → Bool
holds_of test None = false
holds_of test (Some k) = test k

-- One line of the table: a test, and the refusal where it holds.
pub record Check : Type 0 where
  pub fails : Bool
  pub refusal : Refusal

abbrev pub check : Bool → Refusal → Check
check fails refusal = record { fails = fails; refusal = refusal }

-- The checks of an entry whose key is new, in their order.
abbrev pub checks_of : Books → Entry → List Check
checks_of books (Participant reference bic) =
    check (is_participant books.history bic) Exists ∷ []
checks_of books (Account reference bic account) =
    check (is_some (owner_of books.history account)) Exists
    ∷ check (not (is_participant books.history bic)) ParticipantUnknown ∷ []
checks_of books (Security reference isin kind) =
    check (is_some (kind_of books.history isin)) Exists ∷ []
checks_of books (Issue movement) =
    check (is_none (owner_of books.history movement.account)) AccountUnknown
    ∷ check (is_none (kind_of books.history movement.isin)) SecurityUnknown
    ∷ check (nat_lt (redeemed books.history movement.isin + MOST_QUANTITY) (issued books.history movement.isin + movement.quantity)) OverLimit ∷ []
checks_of books (Redeem movement) =
    check (is_none (owner_of books.history movement.account)) AccountUnknown
    ∷ check (is_none (kind_of books.history movement.isin)) SecurityUnknown
    ∷ check (nat_lt (credits books.history books.settled movement.account movement.isin) (debits books.history books.settled movement.account movement.isin + movement.quantity)) NotEnough ∷ []
checks_of books (PayIn payment) =
    check (not (is_participant books.history payment.bic)) ParticipantUnknown
    ∷ check (nat_lt (paid_out books.history payment.ccy + MOST_PAID) (paid_in books.history payment.ccy + payment.amount)) OverLimit ∷ []
checks_of books (PayOut payment) =
    check (not (is_participant books.history payment.bic)) ParticipantUnknown
    ∷ check (nat_lt (cash_credits books.history books.settled payment.bic payment.ccy) (cash_debits books.history books.settled payment.bic payment.ccy + payment.amount)) NotEnough ∷ []
checks_of books (Instruct sender i) =
    check (not (bytes_eq i.place desk_bic)) PlaceNotUs
    ∷ check (is_none (kind_of books.history i.isin)) UnknownSecurity
    ∷ check (not (is_of_kind i.kind (kind_of books.history i.isin))) KindDiffers
    ∷ check (not (is_owner sender (owner_of books.history i.account))) AccountNotSenders
    ∷ check (not (is_participant books.history i.counterparty)) CounterpartyUnknown ∷ []
checks_of books (Cancel sender order) =
    let named = named_by books.history sender order in
    check (is_none named) NoSuchInstruction
    ∷ check (holds_of (is_cancelled books) named) AlreadyCancelled
    ∷ check (holds_of (is_settled books) named) AlreadySettled
    ∷ check (holds_of (is_cancel_requested books.history) named) CancellationWaits ∷ []
checks_of books (Run reference day rule) =
    check (is_after (last_run books.history) (number_of day)) DayGoesBack ∷ []

-- the first refusal, else Full where the desk holds as many entries as it may, else Accept
abbrev pub first_failing : List Check → Bool → Verdict
first_failing [] is_full = if is_full then Refuse Full else Accept
first_failing (c ∷ checks) is_full = if c.fails then Refuse c.refusal else first_failing checks is_full

-- a message of a sender that is no participant
abbrev pub is_from_stranger : List Entry → Sender → Bool
is_from_stranger history Operator = false
is_from_stranger history (FromParticipant bic) = not (is_participant history bic)

-- the refusal of a reference that its sender used for something else
abbrev pub reused_by : Sender → Refusal
reused_by Operator = CommandReused
reused_by (FromParticipant bic) = ReferenceReused

-- The entry of a number asks for the same as this one: the type and the content, but the rule of a run.
abbrev pub AsksTheSame : List Entry → ℕ → Entry → Type 0
AsksTheSame history n entry = option_map as_asked (entry_at history n) ≡ Some (as_asked entry)

-- The verdict on an entry whose key has this number, if any. A repeat asks for the same as that entry.
abbrev pub IsVerdictAt : ℕ → Books → Entry → Option ℕ → Verdict → Type 0
IsVerdictAt limit books entry None verdict =
    verdict ≡ first_failing (checks_of books entry) (nat_le limit (length books.history))
IsVerdictAt limit books entry (Some n) Accept = ⊥
IsVerdictAt limit books entry (Some n) (Repeat k) = (k ≡ n) × AsksTheSame books.history n entry
IsVerdictAt limit books entry (Some n) (Refuse refusal) = (refusal ≡ reused_by (sender_of entry)) × (AsksTheSame books.history n entry → ⊥)

-- What the desk decides on an entry, where it may hold `limit` entries: first the sender, then a repeat, then a
-- reference used before, then the checks of the entry.
abbrev pub IsVerdict : ℕ → Books → Entry → Verdict → Type 0
IsVerdict limit books entry verdict =
    MatchBool (is_from_stranger books.history (sender_of entry))
    (verdict ≡ Refuse SenderUnknown)
    (IsVerdictAt limit books entry (number_of_key books.history (sender_of entry) (reference_of entry)) verdict)

-- each entry of a history was accepted in its turn
pub record WasAccepted (limit : ℕ) (history : List Entry) : Type 0 where
  pub each : (n : ℕ) (entry : Entry) (books : Books) → entry_at history n ≡ Some entry → books.history ≡ before n history
      → AreBooks books → IsVerdict limit books entry Accept

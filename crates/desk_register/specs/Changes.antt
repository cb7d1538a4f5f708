-- What the calls of a register make of its content.
use Rattle.std.specs.Prelude.{◌≡◌, ℕ, ◌+◌, ◌-◌, ◌<◌, ◌≤◌, ◌^◌, ◌==◌, ◌&&◌, true, false, if◌then◌else◌, List, [], ◌∷◌, ◌++◌, length, bytes_eq, Option, Some, None}
use Rattle.desk_codes.specs.declared.currency.Ccy.{Ccy}
use Rattle.desk_codes.specs.Number.{number_of}
use Rattle.desk_msg.specs.declared.instruction.Cash.{Cash}
use Rattle.desk_msg.specs.declared.writing.status.Reason.{Reason}
use Rattle.desk_msg.specs.declared.writing.status.Reason.TheVariants.{Future, Lack, Money as LackOfMoney}
use Rattle.desk_msg.specs.MessageType.{is_delivery}
use Rattle.desk_rules.specs.declared.limits.TheConstants.{MOST_PAID, MOST_QUANTITY, MOST_SENT}
use Rattle.desk_rules.specs.declared.history.entry.Entry.{Entry}
use Rattle.desk_rules.specs.declared.history.entry.Entry.TheVariants.{Issue, Redeem, PayIn, PayOut, Instruct, Cancel}
use Rattle.desk_rules.specs.declared.history.entry.Instructed.{Instructed}
use Rattle.desk_rules.specs.declared.history.pair.Lack.TheVariants.{Securities, Money as LacksMoney}
use Rattle.desk_rules.specs.declared.answers.reply.Reply.{Reply}
use Rattle.desk_rules.specs.declared.answers.reply.Sent.{Sent}
use Rattle.desk_rules.specs.declared.history.standing.State.{State}
use Rattle.desk_rules.specs.declared.history.standing.State.TheVariants.{Cancelled, Matched, Settled, Unmatched}
use Rattle.desk_rules.specs.declared.history.standing.Standing.{Standing}
use Rattle.desk_rules.specs.History.{instruction_at, number_of_key, reference_of, sender_of}
use Rattle.desk_rules.specs.Opposite.{AreOpposite}
use Rattle.desk_rules.specs.Balances.{delivering, issued, paid_in, paid_out, receiving, redeemed, same_ccy}
use Rattle.desk_rules.specs.Content.{CashBalances, Content, Positions, history_of}
use Rattle.desk_rules.specs.Standing.{no_standing}
use Rattle.desk_rules.specs.Verdict.{is_from_stranger, named_by}
use Rattle.desk_register.specs.Checked.{checks_in, first_refusal}
use Rattle.desk_register.specs.declared.outcome.Outcome.{Outcome}
use Rattle.desk_register.specs.declared.outcome.Outcome.TheVariants as outcomes
use Rattle.desk_register.specs.declared.outcome.Outcome.TheVariants.{Lacks}

-- one position is another, and the rest is as before
abbrev pub moved_to : Positions → List ℕ → List ℕ → ℕ → Positions
moved_to position account isin quantity a i = if bytes_eq account a && bytes_eq isin i then quantity else position a i

-- one balance of cash is another, and the rest is as before
abbrev pub cash_at : CashBalances → List ℕ → Ccy → ℕ → CashBalances
cash_at cash bic ccy amount b c = if bytes_eq bic b && same_ccy ccy c then amount else cash b c

-- one entry stands otherwise
abbrev pub standing_at : (ℕ → Standing) → ℕ → Standing → ℕ → Standing
standing_at standing n new k = if k == n then new else standing k

-- the content that holds nothing
abbrev pub empty_content : Content
empty_content = record { register = []; standing = λ n. no_standing; position = λ account isin. 0; cash = λ bic ccy. 0; sent = [] }

-- where an entry stands as it is accepted
abbrev pub first_standing : Entry → Standing
first_standing (Instruct sender instruction) = record { mate = None; state = Unmatched; cancel_requested = false }
first_standing entry = no_standing

-- the positions after an entry: an issue is put on its account, a redemption taken off
abbrev pub positions_after : Entry → Positions → Positions
positions_after (Issue movement) position = moved_to position movement.account movement.isin (position movement.account movement.isin + movement.quantity)
positions_after (Redeem movement) position = moved_to position movement.account movement.isin (position movement.account movement.isin - movement.quantity)
positions_after entry position = position

-- the cash after an entry: what is paid in is put on the participant's balance, what is paid out taken off
abbrev pub cash_after : Entry → CashBalances → CashBalances
cash_after (PayIn payment) cash = cash_at cash payment.bic payment.ccy (cash payment.bic payment.ccy + payment.amount)
cash_after (PayOut payment) cash = cash_at cash payment.bic payment.ccy (cash payment.bic payment.ccy - payment.amount)
cash_after entry cash = cash

-- what the balances must allow: what is issued or paid in can be counted, and what is redeemed or paid out is there
abbrev pub BalancesAllow : Entry → Content → Type 0
BalancesAllow (Issue movement) content =
    (content.position movement.account movement.isin + movement.quantity < 2 ^ 63)
    × (issued (history_of content) movement.isin + movement.quantity ≤ redeemed (history_of content) movement.isin + MOST_QUANTITY)
BalancesAllow (Redeem movement) content =
    (movement.quantity ≤ content.position movement.account movement.isin) × (redeemed (history_of content) movement.isin + movement.quantity ≤ issued (history_of content) movement.isin)
BalancesAllow (PayIn payment) content =
    (content.cash payment.bic payment.ccy + payment.amount < 2 ^ 63)
    × (paid_in (history_of content) payment.ccy + payment.amount ≤ paid_out (history_of content) payment.ccy + MOST_PAID)
BalancesAllow (PayOut payment) content =
    (payment.amount ≤ content.cash payment.bic payment.ccy) × (paid_out (history_of content) payment.ccy + payment.amount ≤ paid_in (history_of content) payment.ccy)
BalancesAllow entry content = Unit {0}

-- An entry can be added with its reply, where at most `room` entries fit: its sender is known and has used its reference
-- for none before, no refusal fits it, there is room for it, the reply tells that it was accepted, and the balances allow
-- it. (That each of its values is one that a message or a command can say, its types say.)
pub record CanAppend (room : ℕ) (entry : Entry) (reply : Reply) (content : Content) : Type 0 where
  pub known_sender : is_from_stranger (history_of content) (sender_of entry) ≡ false
  pub new_key : number_of_key (history_of content) (sender_of entry) (reference_of entry) ≡ None
  pub not_refused : first_refusal (checks_in content entry) ≡ None
  pub has_room : length content.register < room
  pub accepted : reply.status ≡ 200
  pub balances : BalancesAllow entry content

-- the cancellation of an instruction, if one is named, is requested
abbrev pub with_request : Option ℕ → (ℕ → Standing) → ℕ → Standing
with_request None standing = standing
with_request (Some k) standing = standing_at standing k (record (standing k) { cancel_requested = true })

-- the instruction whose cancellation an entry requests, if it is a cancellation and names one
abbrev pub requested_by : List Entry → Entry → Option ℕ
requested_by history (Cancel sender order) = named_by history sender order
requested_by history entry = None

-- where entries stand once the request of an entry is noted
abbrev pub requests_noted : List Entry → Entry → (ℕ → Standing) → ℕ → Standing
requests_noted history entry standing = with_request (requested_by history entry) standing

-- the content with one entry more
abbrev pub appended : Entry → Reply → Content → Content
appended entry reply content = record content {
  register = content.register ++ record { entry = entry; reply = reply } ∷ [];
  standing = standing_at (requests_noted (history_of content) entry content.standing) (length content.register + 1) (first_standing entry);
  position = positions_after entry content.position;
  cash = cash_after entry content.cash;
}

-- both instructions of a pair stand so, as each other's mates
abbrev pub standing_both : (ℕ → Standing) → ℕ → ℕ → State → ℕ → Standing
standing_both standing m n state =
    standing_at (standing_at standing m (record (standing m) { mate = Some n; state = state })) n (record (standing n) { mate = Some m; state = state })

-- the content in which two entries are each other's mates, and wait for their day
abbrev pub paired : ℕ → ℕ → Content → Content
paired m n content = record content {
  standing = standing_both content.standing m n (Matched Future);
}

-- the numbers of two unmatched instructions that are opposite, the earlier first
pub record CanPair (content : Content) (m n : ℕ) : Type 0 where
  pub two : m < n
  pub earlier : Instructed
  pub later : Instructed
  pub is_earlier : instruction_at (history_of content) m ≡ Some earlier
  pub is_later : instruction_at (history_of content) n ≡ Some later
  pub opposite : AreOpposite earlier later
  pub earlier_unmatched : (content.standing m).state ≡ Unmatched
  pub later_unmatched : (content.standing n).state ≡ Unmatched

-- the deliverer's instruction of a pair's two, and the receiver's
abbrev pub delivering_side : Instructed → Instructed → Instructed
delivering_side earlier later = delivering (is_delivery earlier.instruction.mt) earlier later

abbrev pub receiving_side : Instructed → Instructed → Instructed
receiving_side earlier later = receiving (is_delivery earlier.instruction.mt) earlier later

-- the number of the deliverer's instruction, of the numbers of both, the earlier one's first, and of the receiver's
abbrev pub delivering_number : Instructed → ℕ → ℕ → ℕ
delivering_number earlier m n = delivering (is_delivery earlier.instruction.mt) m n

abbrev pub receiving_number : Instructed → ℕ → ℕ → ℕ
receiving_number earlier m n = receiving (is_delivery earlier.instruction.mt) m n

-- so much is taken off one account and put on another, or on the same
abbrev pub delivered : Positions → List ℕ → List ℕ → List ℕ → ℕ → Positions
delivered position from to isin quantity =
    let taken = moved_to position from isin (position from isin - quantity) in
    moved_to taken to isin (taken to isin + quantity)

-- a participant has the cash that is asked of it; where none is, it has
abbrev pub HasCash : CashBalances → List ℕ → Option Cash → Type 0
HasCash cash bic None = Unit {0}
HasCash cash bic (Some asked) = asked.amount ≤ cash bic asked.ccy

-- it has too little
abbrev pub LacksCash : CashBalances → List ℕ → Option Cash → Type 0
LacksCash cash bic None = ⊥
LacksCash cash bic (Some asked) = cash bic asked.ccy < asked.amount

-- what is paid to it can be counted on its balance
abbrev pub FitsCash : CashBalances → List ℕ → Option Cash → Type 0
FitsCash cash bic None = Unit {0}
FitsCash cash bic (Some asked) = cash bic asked.ccy + asked.amount < 2 ^ 63

-- so much cash, if any, is taken off one participant and put on another, or on the same
abbrev pub paid_over : CashBalances → List ℕ → List ℕ → Option Cash → CashBalances
paid_over cash from to None = cash
paid_over cash from to (Some asked) =
    let taken = cash_at cash from asked.ccy (cash from asked.ccy - asked.amount) in
    cash_at taken to asked.ccy (taken to asked.ccy + asked.amount)

-- the pair of a number: its two instructions, the earlier one first
pub record IsPairAt (content : Content) (n m : ℕ) (earlier later : Instructed) : Type 0 where
  pub is_later : instruction_at (history_of content) n ≡ Some later
  pub has_mate : (content.standing n).mate ≡ Some m
  pub is_earlier : instruction_at (history_of content) m ≡ Some earlier

-- what the deliverer holds and delivers can be counted on the receiver's account, and what the receiver has and pays on
-- the deliverer's balance
pub record SidesFit (content : Content) (earlier later : Instructed) : Type 0 where
  pub securities : later.instruction.quantity ≤ content.position (delivering_side earlier later).instruction.account later.instruction.isin
      → content.position (receiving_side earlier later).instruction.account later.instruction.isin + later.instruction.quantity < 2 ^ 63
  pub cash : HasCash content.cash (receiving_side earlier later).sender later.instruction.cash → FitsCash content.cash (delivering_side earlier later).sender later.instruction.cash

-- A matched pair that is due by a day, whose sides fit. Its two instructions are each other's mates.
pub record CanSettle (content : Content) (n day : ℕ) : Type 0 where
  pub mate : ℕ
  pub earlier : Instructed
  pub later : Instructed
  pub pair : IsPairAt content n mate earlier later
  pub opposite : AreOpposite earlier later
  pub two : mate < n
  pub back : (content.standing mate).mate ≡ Some n
  pub earlier_reason : Reason
  pub earlier_matched : (content.standing mate).state ≡ Matched earlier_reason
  pub later_reason : Reason
  pub later_matched : (content.standing n).state ≡ Matched later_reason
  pub due : number_of later.instruction.day ≤ day
  pub fits : SidesFit content earlier later

-- the number of an unmatched instruction
pub record CanCancel (content : Content) (n : ℕ) : Type 0 where
  pub instructed : Instructed
  pub is_instruction : instruction_at (history_of content) n ≡ Some instructed
  pub unmatched : (content.standing n).state ≡ Unmatched

-- the content in which an instruction stands cancelled
abbrev pub cancelled : ℕ → Content → Content
cancelled n content = record content {
  standing = standing_at content.standing n (record (content.standing n) { state = Cancelled });
}

-- the numbers of a matched pair's two instructions, the earlier first; each is the other's mate
pub record CanCancelPair (content : Content) (m n : ℕ) : Type 0 where
  pub two : m < n
  pub earlier : Instructed
  pub later : Instructed
  pub pair : IsPairAt content n m earlier later
  pub back : (content.standing m).mate ≡ Some n
  pub earlier_reason : Reason
  pub earlier_matched : (content.standing m).state ≡ Matched earlier_reason
  pub later_reason : Reason
  pub later_matched : (content.standing n).state ≡ Matched later_reason

-- the content in which both instructions of a pair stand cancelled; they keep their mates
abbrev pub pair_cancelled : ℕ → ℕ → Content → Content
pair_cancelled m n content = record content {
  standing = standing_both content.standing m n Cancelled;
}

-- one message more can be sent
abbrev pub CanSend : Content → Type 0
CanSend content = length content.sent < MOST_SENT

-- the content with one message more sent
abbrev pub with_sent : Sent → Content → Content
with_sent message content = record content { sent = content.sent ++ message ∷ [] }

-- What trying the pair of a number does: it settles, and moves its quantity and its cash, where the deliverer holds
-- the one and the receiver has the other; else only the reason changes. A pair that lacks both lacks securities, and a
-- free pair never lacks money.
abbrev pub TriesSides : Content → ℕ → ℕ → Instructed → Instructed → Outcome → Content → Type 0
TriesSides old n m earlier later outcomes.Settled new =
    let from = delivering_side earlier later in
    let to = receiving_side earlier later in
    let isin = later.instruction.isin in
    (later.instruction.quantity ≤ old.position from.instruction.account isin)
    × HasCash old.cash to.sender later.instruction.cash
    × (new ≡ record old {
      standing = standing_both old.standing m n Settled;
      position = delivered old.position from.instruction.account to.instruction.account isin later.instruction.quantity;
      cash = paid_over old.cash to.sender from.sender later.instruction.cash;
    })
TriesSides old n m earlier later (Lacks Securities) new =
    (old.position (delivering_side earlier later).instruction.account later.instruction.isin < later.instruction.quantity)
    × (new ≡ record old { standing = standing_both old.standing m n (Matched Lack) })
TriesSides old n m earlier later (Lacks LacksMoney) new =
    (later.instruction.quantity ≤ old.position (delivering_side earlier later).instruction.account later.instruction.isin)
    × LacksCash old.cash (receiving_side earlier later).sender later.instruction.cash
    × (new ≡ record old { standing = standing_both old.standing m n (Matched LackOfMoney) })

pub record TriesPair (old : Content) (n : ℕ) (outcome : Outcome) (new : Content) : Type 0 where
  pub mate : ℕ
  pub earlier : Instructed
  pub later : Instructed
  pub pair : IsPairAt old n mate earlier later
  pub ends : TriesSides old n mate earlier later outcome new

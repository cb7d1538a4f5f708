-- The two legs of a settlement: two messages that confirm legs which fit each other, and what they move. `ComeInTwos`
-- knows the messages' texts, types and addressees, and nothing of how they came about; what stands behind it speaks of books.
use Rattle.std.specs.Prelude.{◌≡◌, ◌⊎◌, ℕ, ◌+◌, nat_le, ◌&&◌, Bool, false, MatchBool, List, [], ◌∷◌, ◌++◌, true, length, Contains, Some, None, is_some}
use Rattle.desk_codes.specs.declared.currency.Ccy.{Ccy}
use Rattle.desk_msg.specs.MessageType.{is_delivery, is_against_payment}
use Rattle.desk_rules.specs.declared.history.entry.Entry.{Entry}
use Rattle.desk_rules.specs.declared.history.pair.Settled.{Settled}
use Rattle.desk_rules.specs.declared.answers.reply.Sent.{Sent}
use Rattle.desk_rules.specs.History.{Instructed, entry_at, instruction_at, run_day}
use Rattle.desk_rules.specs.Opposite.{AreOpposite}
use Rattle.desk_rules.specs.Balances.{deliverer_of, receiver_of, delivery_of, receipt_of, movement_on, issued_by, redeemed_by, quantity_on, credits, debits, payment_of, paid_in_by, paid_out_by, amount_of, cash_credits, cash_debits}
use Rattle.desk_rules.specs.Books.{Books}
use Rattle.desk_rules.specs.Sent.{date_in}
use Rattle.desk_rules.specs.Confirmations.{Confirmation, SaysConfirmation, confirmation_by, is_confirmation}

-- Two messages confirm two legs that fit each other: the first a delivery (546, against payment 547), the second its
-- receipt (544, against payment 545), on one day, of one quantity of one security, for one amount of one currency or
-- for none.
pub record ConfirmBothLegs (first second : Sent) : Type 0 where
  pub delivery : Confirmation
  pub receipt : Confirmation
  pub says_delivery : SaysConfirmation first delivery
  pub says_receipt : SaysConfirmation second receipt
  pub types : ((first.mt ≡ 546) × (second.mt ≡ 544)) ⊎ ((first.mt ≡ 547) × (second.mt ≡ 545))
  pub day : delivery.confirmed.day ≡ receipt.confirmed.day
  pub isin : delivery.confirmed.isin ≡ receipt.confirmed.isin
  pub kind : delivery.confirmed.kind ≡ receipt.confirmed.kind
  pub quantity : delivery.confirmed.quantity ≡ receipt.confirmed.quantity
  pub cash : delivery.confirmed.cash ≡ receipt.confirmed.cash

-- The confirmations among messages come in twos next to each other, of both legs of a settlement each.
abbrev pub ComeInTwos : List Sent → Type 0
ComeInTwos [] = Unit {0}
ComeInTwos (message ∷ []) = is_confirmation message ≡ false
ComeInTwos (first ∷ second ∷ messages) =
    MatchBool (is_confirmation first) (ConfirmBothLegs first second × ComeInTwos messages) (ComeInTwos (second ∷ messages))

-- A message confirms that a run settled the instruction of a number: it is about it, goes to its sender, and says what
-- it instructed, on the day of the run.
pub record ConfirmsSettled (history : List Entry) (run n : ℕ) (message : Sent) : Type 0 where
  pub instruction : Instructed
  pub instructs : instruction_at history n ≡ Some instruction
  pub about : message.about ≡ n
  pub says : SaysConfirmation message (confirmation_by instruction (date_in (entry_at history run)))

-- The two confirmations of a settlement stand among these messages, next to each other: the deliverer's, then the
-- receiver's.
pub record StandTogether (history : List Entry) (settled : Settled) (messages : List Sent) : Type 0 where
  pub front : List Sent
  pub first : Sent
  pub second : Sent
  pub rest : List Sent
  pub stand : messages ≡ front ++ first ∷ second ∷ rest
  pub legs : ConfirmBothLegs first second
  pub delivery : ConfirmsSettled history settled.run (deliverer_of history settled.pair) first
  pub receipt : ConfirmsSettled history settled.run (receiver_of history settled.pair) second

-- by its type a message confirms a delivery (546, 547), or a receipt (544, 545)
abbrev pub confirms_delivery : Sent → Bool
confirms_delivery message = nat_le 546 message.mt && nat_le message.mt 547

abbrev pub confirms_receipt : Sent → Bool
confirms_receipt message = nat_le 544 message.mt && nat_le message.mt 545

-- Two messages confirm the two sides of one settlement that stands in the books.
pub record AreOfOne (books : Books) (first second : Sent) : Type 0 where
  pub settled : Settled
  pub stands : Contains books.settled settled
  pub delivery : ConfirmsSettled books.history settled.run (deliverer_of books.history settled.pair) first
  pub receipt : ConfirmsSettled books.history settled.run (receiver_of books.history settled.pair) second

-- Any two neighbours among these messages that confirm a delivery and a receipt are those of one settlement.
abbrev pub NeighboursAreOfOne : Books → List Sent → Type 0
NeighboursAreOfOne books messages =
    (front rest : List Sent) (first second : Sent) → messages ≡ front ++ first ∷ second ∷ rest
    → confirms_delivery first ≡ true → confirms_receipt second ≡ true → AreOfOne books first second

-- What one settlement more moves. Its pair is a delivery and a receipt that are opposite, so of one quantity of one
-- security and, exactly against payment, for one amount of one currency. (By its type, no instruction is for a
-- quantity or an amount of 0.) The quantity goes from the account of the delivery to that of the receipt, the amount from the sender of the
-- receipt to that of the delivery, and nothing goes from or to another.
pub record Moves (history : List Entry) (settled : List Settled) (s : Settled) : Type 0 where
  pub delivery : Instructed
  pub receipt : Instructed
  pub delivered : delivery_of history s.pair ≡ Some delivery
  pub received : receipt_of history s.pair ≡ Some receipt
  pub delivers : is_delivery delivery.instruction.mt ≡ true
  pub opposite : AreOpposite delivery receipt
  pub payment : is_some delivery.instruction.cash ≡ is_against_payment delivery.instruction.mt
  pub debited : (account isin : List ℕ) → debits history (settled ++ s ∷ []) account isin ≡ debits history settled account isin + quantity_on account isin (Some delivery)
  pub credited : (account isin : List ℕ) → credits history (settled ++ s ∷ []) account isin ≡ credits history settled account isin + quantity_on account isin (Some receipt)
  pub paying : (bic : List ℕ) (ccy : Ccy) → cash_debits history (settled ++ s ∷ []) bic ccy ≡ cash_debits history settled bic ccy + amount_of bic ccy (Some receipt)
  pub paid : (bic : List ℕ) (ccy : Ccy) → cash_credits history (settled ++ s ∷ []) bic ccy ≡ cash_credits history settled bic ccy + amount_of bic ccy (Some delivery)

-- What one entry more changes, from `front` to `books`. It settles pairs where it is a run, and else none; and beside
-- what these move, an account is credited and debited what the entry issues and redeems there, a participant's cash
-- what it pays in and pays out, and nothing else.
pub record ChangesOnly (front : Books) (entry : Entry) (books : Books) : Type 0 where
  pub settled : List Settled
  pub settles : books.settled ≡ front.settled ++ settled
  pub by_it : (s : Settled) → Contains settled s → s.run ≡ length books.history
  pub runs : run_day entry ≡ None → settled ≡ []
  pub credited : (account isin : List ℕ) → credits books.history front.settled account isin ≡ credits front.history front.settled account isin + issued_by (movement_on account isin) entry
  pub debited : (account isin : List ℕ) → debits books.history front.settled account isin ≡ debits front.history front.settled account isin + redeemed_by (movement_on account isin) entry
  pub paid : (bic : List ℕ) (ccy : Ccy) → cash_credits books.history front.settled bic ccy ≡ cash_credits front.history front.settled bic ccy + paid_in_by (payment_of bic ccy) entry
  pub paying : (bic : List ℕ) (ccy : Ccy) → cash_debits books.history front.settled bic ccy ≡ cash_debits front.history front.settled bic ccy + paid_out_by (payment_of bic ccy) entry

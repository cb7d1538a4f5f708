-- What is credited and debited by a history, of which these pairs are settled. A balance is what is credited
-- less what is debited; it is never computed by a subtraction that stops at 0.
use Rattle.std.specs.Prelude.{ℕ, ◌+◌, Bool, false, if◌then◌else◌, List, bytes_eq, sum_by, Option, Some, None}
use Rattle.desk_codes.specs.declared.currency.Ccy.{Ccy}
use Rattle.desk_codes.specs.Currency.{letters_of}
use Rattle.desk_msg.specs.declared.instruction.Cash.{Cash}
use Rattle.desk_msg.specs.MessageType.{is_delivery}
use Rattle.desk_rules.specs.declared.history.entry.Movement.{Movement}
use Rattle.desk_rules.specs.declared.history.entry.Payment.{Payment}
use Rattle.desk_rules.specs.declared.history.entry.Entry.{Entry}
use Rattle.desk_rules.specs.declared.history.entry.Entry.TheVariants.{Issue, Redeem, PayIn, PayOut}
use Rattle.desk_rules.specs.declared.history.pair.Pair.{Pair}
use Rattle.desk_rules.specs.declared.history.pair.Settled.{Settled}
use Rattle.desk_rules.specs.History.{Instructed, instruction_at}

abbrev pub same_ccy : Ccy → Ccy → Bool
same_ccy a b = bytes_eq (letters_of a) (letters_of b)

-- The two sides of a pair.

abbrev pub is_delivered_by : Option Instructed → Bool
is_delivered_by None = false
is_delivered_by (Some i) = is_delivery i.instruction.mt

-- of what is the earlier side's and what is the later's: the deliverer's, and the receiver's
abbrev pub delivering : {A : Type 0} → Bool → A → A → A
delivering earlier_delivers earlier later = if earlier_delivers then earlier else later

abbrev pub receiving : {A : Type 0} → Bool → A → A → A
receiving earlier_delivers earlier later = if earlier_delivers then later else earlier

-- the number of the instruction that delivers, and of the one that receives
abbrev pub deliverer_of : List Entry → Pair → ℕ
deliverer_of history p = delivering (is_delivered_by (instruction_at history p.earlier)) p.earlier p.later

abbrev pub receiver_of : List Entry → Pair → ℕ
receiver_of history p = receiving (is_delivered_by (instruction_at history p.earlier)) p.earlier p.later

abbrev pub delivery_of : List Entry → Pair → Option Instructed
delivery_of history p = instruction_at history (deliverer_of history p)

abbrev pub receipt_of : List Entry → Pair → Option Instructed
receipt_of history p = instruction_at history (receiver_of history p)

-- Securities on an account.

abbrev pub quantity_if : Bool → ℕ → ℕ
quantity_if test quantity = if test then quantity else 0

-- a movement's quantity of the security, and the same where it is of the account too
abbrev pub movement_of : List ℕ → Movement → ℕ
movement_of isin m = quantity_if (bytes_eq m.isin isin) m.quantity

abbrev pub movement_on : List ℕ → List ℕ → Movement → ℕ
movement_on account isin m = quantity_if (bytes_eq m.account account) (movement_of isin m)

-- what an entry issues of a security, and redeems
abbrev pub issued_by : (Movement → ℕ) → Entry → ℕ
issued_by share (Issue movement) = share movement
issued_by share entry = 0

abbrev pub redeemed_by : (Movement → ℕ) → Entry → ℕ
redeemed_by share (Redeem movement) = share movement
redeemed_by share entry = 0

-- what was issued of a security, and redeemed
abbrev pub issued : List Entry → List ℕ → ℕ
issued history isin = sum_by (issued_by (movement_of isin)) history

abbrev pub redeemed : List Entry → List ℕ → ℕ
redeemed history isin = sum_by (redeemed_by (movement_of isin)) history

-- what an instruction moves of a security on an account
abbrev pub quantity_on : List ℕ → List ℕ → Option Instructed → ℕ
quantity_on account isin None = 0
quantity_on account isin (Some i) = quantity_if (bytes_eq i.instruction.account account) (quantity_if (bytes_eq i.instruction.isin isin) i.instruction.quantity)

-- what comes on the account: what is issued to it, and what it receives
abbrev pub credits : List Entry → List Settled → List ℕ → List ℕ → ℕ
credits history settled account isin =
    sum_by (issued_by (movement_on account isin)) history + sum_by (λ s. quantity_on account isin (receipt_of history s.pair)) settled

-- what goes from the account: what is redeemed, and what it delivers
abbrev pub debits : List Entry → List Settled → List ℕ → List ℕ → ℕ
debits history settled account isin =
    sum_by (redeemed_by (movement_on account isin)) history + sum_by (λ s. quantity_on account isin (delivery_of history s.pair)) settled

-- Cash of a participant in a currency.

abbrev pub payment_in : Ccy → Payment → ℕ
payment_in ccy p = quantity_if (same_ccy p.ccy ccy) p.amount

abbrev pub payment_of : List ℕ → Ccy → Payment → ℕ
payment_of bic ccy p = quantity_if (bytes_eq p.bic bic) (payment_in ccy p)

abbrev pub paid_in_by : (Payment → ℕ) → Entry → ℕ
paid_in_by share (PayIn payment) = share payment
paid_in_by share entry = 0

abbrev pub paid_out_by : (Payment → ℕ) → Entry → ℕ
paid_out_by share (PayOut payment) = share payment
paid_out_by share entry = 0

-- what was paid in in a currency, and paid out
abbrev pub paid_in : List Entry → Ccy → ℕ
paid_in history ccy = sum_by (paid_in_by (payment_in ccy)) history

abbrev pub paid_out : List Entry → Ccy → ℕ
paid_out history ccy = sum_by (paid_out_by (payment_in ccy)) history

abbrev pub cash_in : Ccy → Option Cash → ℕ
cash_in ccy None = 0
cash_in ccy (Some cash) = quantity_if (same_ccy cash.ccy ccy) cash.amount

-- what an instruction against payment moves of a participant's cash
abbrev pub amount_of : List ℕ → Ccy → Option Instructed → ℕ
amount_of bic ccy None = 0
amount_of bic ccy (Some i) = quantity_if (bytes_eq i.sender bic) (cash_in ccy i.instruction.cash)

-- what comes to the participant: what it pays in, and what it is paid for deliveries
abbrev pub cash_credits : List Entry → List Settled → List ℕ → Ccy → ℕ
cash_credits history settled bic ccy =
    sum_by (paid_in_by (payment_of bic ccy)) history + sum_by (λ s. amount_of bic ccy (delivery_of history s.pair)) settled

-- what goes from the participant: what is paid out to it, and what it pays for receipts
abbrev pub cash_debits : List Entry → List Settled → List ℕ → Ccy → ℕ
cash_debits history settled bic ccy =
    sum_by (paid_out_by (payment_of bic ccy)) history + sum_by (λ s. amount_of bic ccy (receipt_of history s.pair)) settled

-- What the confirmations among sent messages say of accounts and cash. `SayConfirmations` and the sums know the
-- messages' texts, types and addressees, and nothing of how they came about; `AccountFor`, at the end, speaks of books.
use Rattle.std.specs.Prelude.{◌≡◌, ℕ, ◌+◌, nat_le, Bool, false, not, ◌&&◌, MatchBool, List, [], ◌∷◌, bytes_eq, sum_by, Option, Some, None, Ok}
use Rattle.desk_codes.specs.declared.currency.Ccy.{Ccy}
use Rattle.desk_text.specs.Fields.{Found, IsBlock}
use Rattle.desk_msg.specs.declared.mt.Mt.{Mt}
use Rattle.desk_msg.specs.MessageType.{number_of_type, is_delivery}
use Rattle.desk_msg.specs.ConfirmationText.{confirming_type}
use Rattle.desk_msg.specs.declared.reading.confirmed.Confirmed.{Confirmed}
use Rattle.desk_msg.specs.Confirms.{Confirms, confirmed_of}
use Rattle.desk_rules.specs.declared.answers.reply.Sent.{Sent}
use Rattle.desk_rules.specs.History.{Instructed}
use Rattle.desk_rules.specs.Balances.{same_ccy, quantity_if, movement_on, issued_by, redeemed_by, credits, debits, payment_of, paid_in_by, paid_out_by, cash_credits, cash_debits}
use Rattle.desk_rules.specs.Books.{Books}

-- a message is of one of the types 544 to 547
abbrev pub is_confirmation : Sent → Bool
is_confirmation message = nat_le 544 message.mt && nat_le message.mt 547

-- what a confirmation says, and to whom
pub record Confirmation : Type 0 where
  pub mt : Mt
  pub bic : List ℕ
  pub confirmed : Confirmed

-- what confirms that an instruction was settled on that day: to its sender, under its type
abbrev pub confirmation_by : Instructed → List ℕ → Confirmation
confirmation_by i day = record { mt = confirming_type i.instruction.mt; bic = i.sender; confirmed = confirmed_of i.instruction day }

-- a message says this: its text is a block whose fields confirm it
pub record SaysConfirmation (message : Sent) (confirmation : Confirmation) : Type 0 where
  pub fields : List Found
  pub type : message.mt ≡ number_of_type confirmation.mt
  pub addressee : message.bic ≡ confirmation.bic
  pub block : IsBlock message.text fields
  pub says : Confirms confirmation.mt fields (Ok confirmation.confirmed)

-- what these messages confirm, one confirmation after another; other messages say none
abbrev pub SayConfirmations : List Sent → List Confirmation → Type 0
SayConfirmations [] [] = Unit {0}
SayConfirmations [] (confirmation ∷ confirmations) = ⊥
SayConfirmations (message ∷ messages) [] = (is_confirmation message ≡ false) × SayConfirmations messages []
SayConfirmations (message ∷ messages) (confirmation ∷ confirmations) =
    MatchBool (is_confirmation message) (SaysConfirmation message confirmation × SayConfirmations messages confirmations) (SayConfirmations messages (confirmation ∷ confirmations))

abbrev pub quantity_confirmed : List ℕ → List ℕ → Confirmation → ℕ
quantity_confirmed account isin confirmation =
    quantity_if (bytes_eq confirmation.confirmed.account account) (quantity_if (bytes_eq confirmation.confirmed.isin isin) confirmation.confirmed.quantity)

abbrev pub amount_in : Ccy → Option (Ccy × ℕ) → ℕ
amount_in ccy None = 0
amount_in ccy (Some cash) = quantity_if (same_ccy cash.0 ccy) cash.1

abbrev pub amount_confirmed : List ℕ → Ccy → Confirmation → ℕ
amount_confirmed bic ccy confirmation = quantity_if (bytes_eq confirmation.bic bic) (amount_in ccy confirmation.confirmed.cash)

-- What confirmations bring to an account, and take from it; what they bring to a participant's cash, and take from it.
-- Receipts (544 and 545) bring securities, deliveries (546 and 547) take them; cash goes the other way.
abbrev pub brought : List Confirmation → List ℕ → List ℕ → ℕ
brought confirmations account isin = sum_by (λ confirmation. quantity_if (not (is_delivery confirmation.mt)) (quantity_confirmed account isin confirmation)) confirmations

abbrev pub taken : List Confirmation → List ℕ → List ℕ → ℕ
taken confirmations account isin = sum_by (λ confirmation. quantity_if (is_delivery confirmation.mt) (quantity_confirmed account isin confirmation)) confirmations

abbrev pub cash_brought : List Confirmation → List ℕ → Ccy → ℕ
cash_brought confirmations bic ccy = sum_by (λ confirmation. quantity_if (is_delivery confirmation.mt) (amount_confirmed bic ccy confirmation)) confirmations

abbrev pub cash_taken : List Confirmation → List ℕ → Ccy → ℕ
cash_taken confirmations bic ccy = sum_by (λ confirmation. quantity_if (not (is_delivery confirmation.mt)) (amount_confirmed bic ccy confirmation)) confirmations

-- Confirmations account for all balances: to what the operator books (issues, redemptions, what is paid in and paid out) they
-- bring and take the whole change of each account and of each participant's cash, and nothing else does.
pub record AccountFor (books : Books) (confirmations : List Confirmation) : Type 0 where
  pub credited : (account isin : List ℕ) → credits books.history books.settled account isin ≡ sum_by (issued_by (movement_on account isin)) books.history + brought confirmations account isin
  pub debited : (account isin : List ℕ) → debits books.history books.settled account isin ≡ sum_by (redeemed_by (movement_on account isin)) books.history + taken confirmations account isin
  pub paid : (bic : List ℕ) (ccy : Ccy) → cash_credits books.history books.settled bic ccy ≡ sum_by (paid_in_by (payment_of bic ccy)) books.history + cash_brought confirmations bic ccy
  pub paying : (bic : List ℕ) (ccy : Ccy) → cash_debits books.history books.settled bic ccy ≡ sum_by (paid_out_by (payment_of bic ccy)) books.history + cash_taken confirmations bic ccy

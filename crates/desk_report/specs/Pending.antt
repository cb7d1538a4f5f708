-- The matched pairs that wait for their settlement, as the rows of a report.
use Rattle.std.specs.Prelude.{◌≡◌, ℕ, ◌-◌, nat_lt, true, false, if◌then◌else◌, List, map, AllPairs, Contains, Option, Some, None}
use Rattle.desk_codes.specs.Number.{number_of}
use Rattle.desk_msg.specs.declared.instruction.Cash.{Cash}
use Rattle.desk_msg.specs.declared.writing.status.Reason.{Reason}
use Rattle.desk_msg.specs.declared.writing.status.Reason.TheVariants.{Lack, Money}
use Rattle.desk_rules.specs.declared.history.entry.Instructed.{Instructed}
use Rattle.desk_rules.specs.declared.history.pair.Pair.{Pair}
use Rattle.desk_rules.specs.declared.history.pair.Place.{Place}
use Rattle.desk_rules.specs.Balances.{deliverer_of, delivery_of, receipt_of, receiver_of}
use Rattle.desk_rules.specs.Content.{Content, history_of}
use Rattle.desk_rules.specs.Settlement.{is_before}
use Rattle.desk_register.specs.Looked.{IsMatchedPair}
use Rattle.desk_book.specs.Sums.{rows_text}
use Rattle.desk_report.specs.declared.rows.pending.PendingPair.{PendingPair}
use Rattle.desk_report.specs.declared.rows.pending.Side.{Side}
use Rattle.desk_report.specs.RowData.{pending_data}

-- How much of what an instruction delivers its account does not hold; 0 where it holds enough. (A subtraction stops at 0.)
abbrev pub securities_lacking : Content → Instructed → ℕ
securities_lacking content delivery = delivery.instruction.quantity - content.position delivery.instruction.account delivery.instruction.isin

-- how much of what a participant pays it does not have, in minor units; 0 where it has enough, and free of payment
abbrev pub cash_lacking : Content → List ℕ → Option Cash → ℕ
cash_lacking content payer None = 0
cash_lacking content payer (Some cash) = cash.amount - content.cash payer cash.ccy

-- How much is lacking, by what is held now, of what the last try of a pair found too little of: of the deliverer's securities, or
-- of the receiver's cash. None where no run has tried the pair.
abbrev pub lacking_of : Content → Reason → Instructed → Instructed → Option ℕ
lacking_of content Lack delivery receipt = Some (securities_lacking content delivery)
lacking_of content Money delivery receipt = Some (cash_lacking content receipt.sender receipt.instruction.cash)
lacking_of content reason delivery receipt = None

-- a side of a pair, by the number of its instruction
abbrev pub side_of : Content → ℕ → Instructed → Side
side_of content number instructed = record {
  number = number;
  bic = instructed.sender;
  reference = instructed.instruction.reference;
  account = instructed.instruction.account;
  is_cancel_requested = (content.standing number).cancel_requested;
}

-- the pair of two numbers
abbrev pub pair_of_numbers : ℕ → ℕ → Pair
pair_of_numbers earlier later = record { earlier = earlier; later = later }

-- A row tells of the matched pair of a place: who delivers and who receives, the terms, which its two instructions share, why it
-- waits, and what is lacking.
pub record IsPendingRow (content : Content) (place : Place) (row : PendingPair) : Type 0 where
  pub pair : IsMatchedPair content place
  pub delivery : Instructed
  pub receipt : Instructed
  pub is_delivery : delivery_of (history_of content) (pair_of_numbers pair.mate place.number) ≡ Some delivery
  pub is_receipt : receipt_of (history_of content) (pair_of_numbers pair.mate place.number) ≡ Some receipt
  pub deliverer : row.deliverer ≡ side_of content (deliverer_of (history_of content) (pair_of_numbers pair.mate place.number)) delivery
  pub receiver : row.receiver ≡ side_of content (receiver_of (history_of content) (pair_of_numbers pair.mate place.number)) receipt
  pub day : row.day ≡ pair.later.instruction.day
  pub isin : row.isin ≡ pair.later.instruction.isin
  pub kind : row.kind ≡ pair.later.instruction.kind
  pub quantity : row.quantity ≡ pair.later.instruction.quantity
  pub cash : row.cash ≡ pair.later.instruction.cash
  pub reason : row.reason ≡ pair.reason
  pub lacking : row.lacking ≡ lacking_of content pair.reason delivery receipt

-- the place of a row: its settlement day, and the greater number of its sides'
abbrev pub place_of_row : PendingPair → Place
place_of_row row = record {
  day = number_of row.day;
  number = if nat_lt row.deliverer.number row.receiver.number then row.receiver.number else row.deliverer.number;
}

-- The pairs that wait: a row for each matched pair, and no other, in order of settlement day and number.
pub record ArePending (content : Content) (rows : List PendingPair) : Type 0 where
  pub each : (row : PendingPair) → Contains rows row → IsPendingRow content (place_of_row row) row
  pub all : (place : Place) → IsMatchedPair content place → (row : PendingPair) × Contains rows row × (place_of_row row ≡ place)
  pub in_order : AllPairs (λ a b. is_before (place_of_row a) (place_of_row b) ≡ true) rows

-- their rows as JSON, without the brackets of the array
pub record IsPendingText (content : Content) (text : List ℕ) : Type 0 where
  pub rows : List PendingPair
  pub are : ArePending content rows
  pub is : text ≡ rows_text false (map pending_data rows)

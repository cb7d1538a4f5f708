-- A day at the desk, worked by hand: the definitions are tried on it. ALPHDEFF delivers 400 of a security to
-- BETADEFF against EUR 1000.50, and a run settles that.
use Rattle.std.specs.Prelude.{ℕ, ◌<◌, ◌≤◌, List, [], ◌∷◌, ◌++◌, length, take, codes, Some, refl}
use Rattle.std.specs.Fmt.{digits}
use Rattle.std.proofs.Common.{lit<, lit≤}
use Rattle.desk_codes.specs.Number.{written_number}
use Rattle.desk_codes.specs.declared.currency.Ccy.TheVariants.{Eur}
use Rattle.desk_msg.specs.declared.mt.Mt.TheVariants.{Mt541, Mt542, Mt543, Mt545, Mt547}
use Rattle.desk_msg.specs.declared.instruction.Cash.{Cash}
use Rattle.desk_msg.specs.declared.instruction.Kind.TheVariants.{Unit as Units}
use Rattle.desk_msg.specs.declared.instruction.Instruction.{Instruction}
use Rattle.desk_msg.specs.declared.instruction.CancelOrder.{CancelOrder}
use Rattle.desk_rules.specs.declared.history.entry.RunRule.TheVariants.{Passes}
use Rattle.desk_rules.specs.declared.history.entry.Movement.{Movement}
use Rattle.desk_rules.specs.declared.history.entry.Payment.{Payment}
use Rattle.desk_rules.specs.declared.history.entry.Entry.{Entry}
use Rattle.desk_rules.specs.declared.history.entry.Entry.TheVariants.{Participant, Account, Security, Issue, PayIn, Instruct, Cancel, Run}
use Rattle.desk_rules.specs.declared.limits.TheConstants.{MOST_PAID, MOST_QUANTITY}
use Rattle.desk_rules.specs.declared.history.pair.Pair.{Pair}
use Rattle.desk_rules.specs.Books.{Books}
use Rattle.desk_rules.specs.Confirmations.{Confirmation}

abbrev pub alpha : List ℕ
alpha = codes "ALPHDEFF"

abbrev pub beta : List ℕ
beta = codes "BETADEFF"

abbrev pub gamma : List ℕ
gamma = codes "GAMMDEFF"

abbrev pub a_1 : List ℕ
a_1 = codes "A-1"

abbrev pub b_1 : List ℕ
b_1 = codes "B-1"

abbrev pub share : List ℕ
share = codes "DE0007164600"

abbrev pub leap_day : List ℕ
leap_day = codes "20240229"

-- the written forms of the day's numbers are short
pub short_price : length (written_number 100_050 2) ≤ 15
unfolding digits
short_price = lit≤ tt

pub short_quantity : length (written_number 400 0) ≤ 15
unfolding digits
short_quantity = lit≤ tt

pub short_larger : length (written_number 401 0) ≤ 15
unfolding digits
short_larger = lit≤ tt

abbrev pub price : Cash
price = record { ccy = Eur; amount = 100_050; some = lit< tt; short = short_price }

abbrev pub delivery : Instruction
delivery = record {
  mt = Mt543;
  reference = codes "A1";
  day = leap_day;
  isin = share;
  kind = Units;
  quantity = 400;
  account = a_1;
  settlement = codes "TRAD";
  counterparty = beta;
  place = codes "DESKDEFF";
  cash = Some price;
  instructs = refl;
  some = lit< tt;
  short = short_quantity;
  paid = refl;
}

abbrev pub receipt : Instruction
receipt = record delivery { mt = Mt541; reference = codes "B1"; account = b_1; counterparty = alpha; instructs = refl; paid = refl }

-- the delivery, of one more
abbrev pub larger : Instruction
larger = record delivery { quantity = 401; some = lit< tt; short = short_larger }

-- so much of the security put on an account or taken off it, and so much of a participant's cash
abbrev pub movement : List ℕ → List ℕ → (quantity : ℕ) → 0 < quantity → quantity ≤ MOST_QUANTITY → Movement
movement reference account quantity some within = record { reference = reference; account = account; isin = share; quantity = quantity; some = some; within = within }

abbrev pub payment : List ℕ → List ℕ → (amount : ℕ) → 0 < amount → amount ≤ MOST_PAID → Payment
payment reference bic amount some within = record { reference = reference; bic = bic; ccy = Eur; amount = amount; some = some; within = within }

abbrev pub history : List Entry
history =
    Participant (codes "P1") alpha
    ∷ Participant (codes "P2") beta
    ∷ Account (codes "C1") alpha a_1
    ∷ Account (codes "C2") beta b_1
    ∷ Security (codes "S1") share Units
    ∷ Issue (movement (codes "I1") a_1 1000 (lit< tt) (lit≤ tt))
    ∷ PayIn (payment (codes "M1") beta 100_050 (lit< tt) (lit≤ tt))
    ∷ Instruct alpha delivery
    ∷ Instruct beta receipt
    ∷ Run (codes "R1") leap_day Passes
    ∷ []

abbrev pub pair : Pair
pair = record { earlier = 8; later = 9 }

-- the books right after an entry of the day was accepted, and of the whole day
abbrev pub at_delivery : Books
at_delivery = record { history = take 8 history; pairs = []; settled = [] }

abbrev pub at_receipt : Books
at_receipt = record { history = take 9 history; pairs = pair ∷ []; settled = [] }

abbrev pub at_run : Books
at_run = record { history = history; pairs = pair ∷ []; settled = record { run = 10; pass = 1; pair = pair } ∷ [] }

-- the same day with a cent less: the run finds too little cash
abbrev pub at_short_run : Books
at_short_run = record {
  history = take 6 history ++ PayIn (payment (codes "M1") beta 100_049 (lit< tt) (lit≤ tt)) ∷ Instruct alpha delivery ∷ Instruct beta receipt ∷ Run (codes "R1") leap_day Passes ∷ [];
  pairs = pair ∷ [];
  settled = [];
}

-- a cancellation by ALPHDEFF
abbrev pub cancel : List ℕ → List ℕ → CancelOrder
cancel reference previous = record { mt = Mt543; reference = reference; previous = previous; instructs = refl }

abbrev pub cancel_as_free : List ℕ → List ℕ → CancelOrder
cancel_as_free reference previous = record { mt = Mt542; reference = reference; previous = previous; instructs = refl }

abbrev pub at_cancel : Books
at_cancel = record { history = take 8 history ++ Cancel alpha (cancel (codes "X1") (codes "A1")) ∷ []; pairs = []; settled = [] }

-- a cancellation of the receipt by BETADEFF
abbrev pub cancel_receipt : List ℕ → CancelOrder
cancel_receipt reference = record { mt = Mt541; reference = reference; previous = codes "B1"; instructs = refl }

-- the pair, with a cancellation that names its delivery, and with one more that names its receipt
abbrev pub at_asked : Books
at_asked = record { history = take 9 history ++ Cancel alpha (cancel (codes "X1") (codes "A1")) ∷ []; pairs = pair ∷ []; settled = [] }

abbrev pub at_both_asked : Books
at_both_asked = record {
  history = take 9 history ++ Cancel alpha (cancel (codes "X1") (codes "A1")) ∷ Cancel beta (cancel_receipt (codes "X2")) ∷ [];
  pairs = pair ∷ [];
  settled = [];
}

-- runs after these: one side's request leaves the pair to settle, both sides' cancel it
abbrev pub at_asked_run : Books
at_asked_run = record {
  history = take 9 history ++ Cancel alpha (cancel (codes "X1") (codes "A1")) ∷ Run (codes "R1") leap_day Passes ∷ [];
  pairs = pair ∷ [];
  settled = record { run = 11; pass = 1; pair = pair } ∷ [];
}

abbrev pub at_cancelled_run : Books
at_cancelled_run = record {
  history = take 9 history ++ Cancel alpha (cancel (codes "X1") (codes "A1")) ∷ Cancel beta (cancel_receipt (codes "X2")) ∷ Run (codes "R1") leap_day Passes ∷ [];
  pairs = pair ∷ [];
  settled = [];
}

-- what the confirmations of the day say
abbrev pub confirmations : List Confirmation
confirmations =
    record { mt = Mt547; bic = alpha; confirmed = record { related = codes "A1"; day = leap_day; isin = share; kind = Units; quantity = 400; account = a_1; cash = Some (Eur, 100_050) } }
    ∷ record { mt = Mt545; bic = beta; confirmed = record { related = codes "B1"; day = leap_day; isin = share; kind = Units; quantity = 400; account = b_1; cash = Some (Eur, 100_050) } }
    ∷ []

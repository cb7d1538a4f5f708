-- Fields read as one message.
use Rattle.std.proofs.Common.{◌≡◌, ℕ, false, List, codes, sym, ◌∙◌, ap, refl, Option, Some, None, Result, Ok, Err, is_some}
use Rattle.desk_codes.specs.declared.currency.Ccy.{Ccy}
use Rattle.desk_text.specs.Fields.{Found}
use Rattle.desk_msg.specs.declared.mt.Mt.{Mt}
use Rattle.desk_msg.specs.declared.mt.Mt.TheVariants.{Mt540, Mt541, Mt542, Mt543, Mt544, Mt545, Mt546, Mt547}
use Rattle.desk_msg.specs.declared.reading.function.FunctionCode.TheVariants.{Newm, Canc}
use Rattle.desk_msg.specs.declared.instruction.Kind.{Kind}
use Rattle.desk_msg.specs.declared.instruction.Cash.{Cash}
use Rattle.desk_msg.specs.declared.instruction.Instruction.{Instruction}
use Rattle.desk_msg.specs.declared.instruction.CancelOrder.{CancelOrder}
use Rattle.desk_msg.specs.declared.instruction.Message.{Message}
use Rattle.desk_msg.specs.declared.instruction.Message.TheVariants.{New, Cancel}
use Rattle.desk_msg.specs.declared.fault.MsgFault.{MsgFault}
use Rattle.desk_msg.specs.MessageType.{is_against_payment}
use Rattle.desk_msg.specs.Profile.{Row, text_said, quantity_said, amount_said, function_row, seme_row, prev_row, date_row, security_row, quantity_row, safe_row, setr_row, pset_row, counterparty_row, payment_rows, amount_row}
use Rattle.desk_msg.specs.Reads.{Gives, GiveAll, instruction_said, cash_said, ReadsFields}
use Rattle.desk_msg.proofs.ReadingLaws.{one_given, one_text_code, one_function, one_fault, message_no_fault}
use Rattle.desk_msg.proofs.SameMessages.{same_cash, same_order, same_instruction}

-- a row gives one text
pub one_text : (fields : List Found) (row : Row) (x y : List ℕ) → Gives fields row (text_said x) → Gives fields row (text_said y) → x ≡ y
one_text fields row x y a b = one_text_code x y (one_given fields row (text_said x) (text_said y) a b)

pub quantity_parts : (k l : Kind) (m n : ℕ) → quantity_said k m ≡ quantity_said l n → (k ≡ l) × (m ≡ n)
quantity_parts k l m n e = ((cc), (cc))

pub amount_parts : (c d : Ccy) (m n : ℕ) → amount_said c m ≡ amount_said d n → (c ≡ d) × (m ≡ n)
amount_parts c d m n e = ((cc), (cc))

-- the counterparty stands under the word of the type
counterparty_text : (mt : Mt) (fields : List Found) (i : Instruction) → Gives fields (counterparty_row mt) (instruction_said i (counterparty_row mt).word) → Gives fields (counterparty_row mt) (text_said i.counterparty)
counterparty_text Mt540 fields i h = h
counterparty_text Mt541 fields i h = h
counterparty_text Mt542 fields i h = h
counterparty_text Mt543 fields i h = h
counterparty_text Mt544 fields i h = h
counterparty_text Mt545 fields i h = h
counterparty_text Mt546 fields i h = h
counterparty_text Mt547 fields i h = h

cash_same : (a b : Option Cash) → cash_said a ≡ cash_said b → a ≡ b
cash_same None None e = refl
cash_same None (Some y) e = cc
cash_same (Some x) None e = cc
cash_same (Some x) (Some y) e = let parts = amount_parts x.ccy y.ccy x.amount y.amount e in ap Some (same_cash x y parts.0 parts.1)

free_same : (a b : Option Cash) → is_some a ≡ false → is_some b ≡ false → a ≡ b
free_same None None e f = refl
free_same None (Some y) e f = cc
free_same (Some x) b e f = cc

-- the amount is one, where the type is against payment or not
one_cash : (mt : Mt) (fields : List Found) (i j : Instruction) → is_some i.cash ≡ is_against_payment mt → is_some j.cash ≡ is_against_payment mt → GiveAll fields (payment_rows mt) (instruction_said i) → GiveAll fields (payment_rows mt) (instruction_said j) → i.cash ≡ j.cash
one_cash Mt540 fields i j p q a b = free_same i.cash j.cash p q
one_cash Mt541 fields i j p q a b = cash_same i.cash j.cash (one_given fields amount_row (cash_said i.cash) (cash_said j.cash) a.0 b.0)
one_cash Mt542 fields i j p q a b = free_same i.cash j.cash p q
one_cash Mt543 fields i j p q a b = cash_same i.cash j.cash (one_given fields amount_row (cash_said i.cash) (cash_said j.cash) a.0 b.0)
one_cash Mt544 fields i j p q a b = free_same i.cash j.cash p q
one_cash Mt545 fields i j p q a b = cash_same i.cash j.cash (one_given fields amount_row (cash_said i.cash) (cash_said j.cash) a.0 b.0)
one_cash Mt546 fields i j p q a b = free_same i.cash j.cash p q
one_cash Mt547 fields i j p q a b = cash_same i.cash j.cash (one_given fields amount_row (cash_said i.cash) (cash_said j.cash) a.0 b.0)

one_instruction : (mt : Mt) (fields : List Found) (i j : Instruction) → ReadsFields mt fields (Ok (New i)) → ReadsFields mt fields (Ok (New j)) → i ≡ j
one_instruction mt fields i j a b =
    let x = a.1.1 in
    let y = b.1.1 in
    let quantity = quantity_parts i.kind j.kind i.quantity j.quantity (one_given fields quantity_row (quantity_said i.kind i.quantity) (quantity_said j.kind j.quantity) x.1.1.1.0 y.1.1.1.0) in
    same_instruction i j
    (a.0 ∙ sym b.0)
    (one_text fields seme_row i.reference j.reference x.0 y.0)
    (one_text fields date_row i.day j.day x.1.0 y.1.0)
    (one_text fields security_row i.isin j.isin x.1.1.0 y.1.1.0)
    quantity.0
    quantity.1
    (one_text fields safe_row i.account j.account x.1.1.1.1.0 y.1.1.1.1.0)
    (one_text fields setr_row i.settlement j.settlement x.1.1.1.1.1.0 y.1.1.1.1.1.0)
    (one_text fields (counterparty_row mt) i.counterparty j.counterparty (counterparty_text mt fields i x.1.1.1.1.1.1.1.0) (counterparty_text mt fields j y.1.1.1.1.1.1.1.0))
    (one_text fields pset_row i.place j.place x.1.1.1.1.1.1.0 y.1.1.1.1.1.1.0)
    (one_cash mt fields i j (i.paid ∙ ap is_against_payment a.0) (j.paid ∙ ap is_against_payment b.0) x.1.1.1.1.1.1.1.1 y.1.1.1.1.1.1.1.1)

one_order : (mt : Mt) (fields : List Found) (c d : CancelOrder) → ReadsFields mt fields (Ok (Cancel c)) → ReadsFields mt fields (Ok (Cancel d)) → c ≡ d
one_order mt fields c d a b =
    same_order c d (a.0 ∙ sym b.0) (one_text fields seme_row c.reference d.reference a.1.1.0 b.1.1.0) (one_text fields prev_row c.previous d.previous a.1.1.1.0 b.1.1.1.0)

new_not_cancel : (fields : List Found) → Gives fields function_row (text_said (codes "NEWM")) → Gives fields function_row (text_said (codes "CANC")) → ⊥
new_not_cancel fields a b = let both : Newm ≡ Canc = one_function fields Newm Canc a b in cc

pub one_message : (mt : Mt) (fields : List Found) (a b : Message) → ReadsFields mt fields (Ok a) → ReadsFields mt fields (Ok b) → a ≡ b
one_message mt fields (New i) (New j) a b = ap New (one_instruction mt fields i j a b)
one_message mt fields (New i) (Cancel d) a b = absurd (new_not_cancel fields a.1.0 b.1.0)
one_message mt fields (Cancel c) (New j) a b = absurd (new_not_cancel fields b.1.0 a.1.0)
one_message mt fields (Cancel c) (Cancel d) a b = ap Cancel (one_order mt fields c d a b)

-- fields read as one message, or have one fault
pub one_reading : (mt : Mt) (fields : List Found) (a b : Result Message MsgFault) → ReadsFields mt fields a → ReadsFields mt fields b → a ≡ b
one_reading mt fields (Ok a) (Ok b) x y = ap Ok (one_message mt fields a b x y)
one_reading mt fields (Ok a) (Err f) x y = absurd (message_no_fault mt fields a f x y)
one_reading mt fields (Err e) (Ok b) x y = absurd (message_no_fault mt fields b e y x)
one_reading mt fields (Err e) (Err f) x y = ap Err (one_fault mt fields e f x y)

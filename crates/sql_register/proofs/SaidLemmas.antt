-- The row of an entry says that entry, and the row of a message that message.
use Rattle.std.proofs.Common.{◌≡◌, ◌⊎◌, inl, inr, refl, sym, ap, ◌∙◌, ℕ, ◌+◌, ◌<◌, ◌≤◌, List, [], ◌∷◌, map, length, is_some, Bool, true, false, Option, None, Some, arith}
use Rattle.std.proofs.lemmas.Bool.{cases_lt}
use Rattle.desk_codes.specs.Currency.{decimals_of}
use Rattle.desk_codes.specs.Number.{written_number}
use Rattle.desk_codes.proofs.CurrencyLemmas.{found_again}
use Rattle.desk_msg.specs.declared.instruction.CancelOrder.{CancelOrder}
use Rattle.desk_msg.specs.declared.instruction.Cash.{Cash}
use Rattle.desk_msg.specs.declared.instruction.Instruction.{Instruction}
use Rattle.desk_msg.specs.declared.instruction.Kind.{Kind}
use Rattle.desk_msg.specs.declared.instruction.Kind.TheVariants.{Unit as Units, FaceAmount}
use Rattle.desk_msg.specs.declared.mt.Mt.{Mt}
use Rattle.desk_msg.specs.declared.mt.Mt.TheVariants.{Mt540, Mt541, Mt542, Mt543, Mt544, Mt545, Mt546, Mt547}
use Rattle.desk_msg.specs.MessageType.{is_against_payment, is_instruction, number_of_type}
use Rattle.desk_msg.specs.Profile.{code_of_kind}
use Rattle.desk_rules.specs.declared.history.entry.Entry.{Entry}
use Rattle.desk_rules.specs.declared.history.entry.Entry.TheVariants.{Participant, Account, Security, Issue, Redeem, PayIn, PayOut, Instruct, Cancel, Run}
use Rattle.desk_rules.specs.declared.history.entry.Movement.{Movement}
use Rattle.desk_rules.specs.declared.history.entry.Payment.{Payment}
use Rattle.desk_rules.specs.declared.history.entry.RunRule.{RunRule}
use Rattle.desk_rules.specs.declared.history.entry.RunRule.TheVariants.{OnePass, Passes}
use Rattle.desk_rules.specs.declared.answers.reply.Kept.{Kept}
use Rattle.desk_rules.specs.declared.answers.reply.Reply.{Reply}
use Rattle.desk_rules.proofs.SameContent.{cash_same, instruction_same, movement_same, order_same, payment_same}
use Rattle.sql_tables.specs.CashColumns.{amount_of, currency_of}
use Rattle.sql_entries.specs.Columns.{number_of_rule}
use Rattle.sql_entries.specs.Entries.{row_of, rows_from, type_value}
use Rattle.sql_register.specs.RowsSaid.{where_so, within, same_or, movement_in, payment_in, cash_in, cash_with, cash_of, unit_of, type_of, rule_of, type_in, instruct_in, cancel_in, entry_in, kept_in}

-- ---- codes

unit_again : (kind : Kind) → unit_of (code_of_kind kind) ≡ kind
unit_again Units = refl
unit_again FaceAmount = refl

type_again : (mt : Mt) → type_of (number_of_type mt) ≡ mt
type_again Mt540 = refl
type_again Mt541 = refl
type_again Mt542 = refl
type_again Mt543 = refl
type_again Mt544 = refl
type_again Mt545 = refl
type_again Mt546 = refl
type_again Mt547 = refl

rule_again : (rule : RunRule) → rule_of (number_of_rule rule) ≡ rule
rule_again OnePass = refl
rule_again Passes = refl

reply_type_again : (mt : Option ℕ) → type_in (type_value mt) ≡ mt
reply_type_again None = refl
reply_type_again (Some mt) = refl

-- ---- what is made of a fact that holds

so_is : {P N X : Type 0} (either : P ⊎ N) (other : X) (make : P → X) (x : X) → P → (N → ⊥) → ((p : P) → make p ≡ x) → where_so either other make ≡ x
so_is (inl p) other make x so never is = is p
so_is (inr n) other make x so never is = absurd (never n)

within_is : {X : Type 0} (n most : ℕ) (other : X) (make : n ≤ most → X) (x : X) → n ≤ most → ((p : n ≤ most) → make p ≡ x) → where_so (within n most) other make ≡ x
within_is n most other make x low is = so_is (within n most) other make x low (λ high. omega arith) is

some_is : {X : Type 0} (n : ℕ) (other : X) (make : 0 < n → X) (x : X) → 0 < n → ((p : 0 < n) → make p ≡ x) → where_so (cases_lt 0 n) other make ≡ x
some_is n other make x low is = so_is (cases_lt 0 n) other make x low (λ high. omega arith) is

same_is : {X : Type 0} (a b : Bool) (other : X) (make : a ≡ b → X) (x : X) → a ≡ b → ((p : a ≡ b) → make p ≡ x) → where_so (same_or a b) other make ≡ x
same_is true true other make x same is = is refl
same_is true false other make x same is = absurd (cc)
same_is false true other make x same is = absurd (cc)
same_is false false other make x same is = is refl

-- ---- entries

movement_again : (kind : Movement → Entry) (m : Movement) → movement_in kind m.reference m.account m.isin m.quantity ≡ kind m
movement_again kind m =
    some_is m.quantity _ _ (kind m) m.some (λ some. within_is m.quantity _ _ _ (kind m) m.within
    (λ low. ap kind (movement_same (record { reference = m.reference; account = m.account; isin = m.isin; quantity = m.quantity; some = some; within = low }) m refl refl refl refl)))

payment_again : (kind : Payment → Entry) (p : Payment) → payment_in kind p.reference p.bic (Some p.ccy) p.amount ≡ kind p
payment_again kind p =
    some_is p.amount _ _ (kind p) p.some (λ some. within_is p.amount _ _ _ (kind p) p.within
    (λ low. ap kind (payment_same (record { reference = p.reference; bic = p.bic; ccy = p.ccy; amount = p.amount; some = some; within = low }) p refl refl refl refl)))

cash_from_parts : (cash : Cash) → cash_in cash.ccy cash.amount ≡ Some cash
cash_from_parts cash =
    some_is cash.amount _ _ (Some cash) cash.some (λ some. within_is (length (written_number cash.amount (decimals_of cash.ccy))) 15 _ _ (Some cash) cash.short
    (λ short. ap Some (cash_same (record { ccy = cash.ccy; amount = cash.amount; some = some; short = short }) cash refl refl)))

cash_again : (cash : Option Cash) → cash_of (currency_of cash) (amount_of cash) ≡ cash
cash_again None = refl
cash_again (Some cash) = ap (λ c. cash_with c cash.amount) (found_again cash.ccy) ∙ cash_from_parts cash

instruct_again : (n : ℕ) (sender : List ℕ) (i : Instruction) (reply : Reply) → instruct_in (row_of n (Instruct sender i) reply) ≡ Instruct sender i
instruct_again n sender i reply =
    let mt = type_again i.mt in
    let kind = unit_again i.kind in
    let cash = cash_again i.cash in
    same_is (is_instruction (type_of (number_of_type i.mt))) true _ _ (Instruct sender i) (ap is_instruction mt ∙ i.instructs)
    (λ instructs. some_is i.quantity _ _ (Instruct sender i) i.some
    (λ some. within_is (length (written_number i.quantity 0)) 15 _ _ (Instruct sender i) i.short
    (λ short. same_is (is_some (cash_of (currency_of i.cash) (amount_of i.cash))) (is_against_payment (type_of (number_of_type i.mt))) _ _ (Instruct sender i)
    (ap is_some cash ∙ i.paid ∙ ap is_against_payment (sym mt))
    (λ paid. ap (Instruct sender) (instruction_same (record {
      mt = type_of (number_of_type i.mt);
      reference = i.reference;
      day = i.day;
      isin = i.isin;
      kind = unit_of (code_of_kind i.kind);
      quantity = i.quantity;
      account = i.account;
      settlement = i.settlement;
      counterparty = i.counterparty;
      place = i.place;
      cash = cash_of (currency_of i.cash) (amount_of i.cash);
      instructs = instructs;
      some = some;
      short = short;
      paid = paid;
    }) i mt refl refl refl kind refl refl refl refl refl cash)))))

cancel_again : (n : ℕ) (sender : List ℕ) (order : CancelOrder) (reply : Reply) → cancel_in (row_of n (Cancel sender order) reply) ≡ Cancel sender order
cancel_again n sender order reply =
    let mt = type_again order.mt in
    same_is (is_instruction (type_of (number_of_type order.mt))) true _ _ (Cancel sender order) (ap is_instruction mt ∙ order.instructs)
    (λ instructs. ap (Cancel sender) (order_same (record { mt = type_of (number_of_type order.mt); reference = order.reference; previous = order.previous; instructs = instructs }) order mt refl refl))

entry_again : (n : ℕ) (entry : Entry) (reply : Reply) → entry_in (row_of n entry reply) ≡ entry
entry_again n (Participant reference bic) reply = refl
entry_again n (Account reference bic account) reply = refl
entry_again n (Security reference isin kind) reply = ap (Security reference isin) (unit_again kind)
entry_again n (Issue movement) reply = movement_again Issue movement
entry_again n (Redeem movement) reply = movement_again Redeem movement
entry_again n (PayIn payment) reply = ap (λ c. payment_in PayIn payment.reference payment.bic c payment.amount) (found_again payment.ccy) ∙ payment_again PayIn payment
entry_again n (PayOut payment) reply = ap (λ c. payment_in PayOut payment.reference payment.bic c payment.amount) (found_again payment.ccy) ∙ payment_again PayOut payment
entry_again n (Instruct sender instruction) reply = instruct_again n sender instruction reply
entry_again n (Cancel sender order) reply = cancel_again n sender order reply
entry_again n (Run reference day rule) reply = ap (Run reference day) (rule_again rule)

kept_again : (n : ℕ) (kept : Kept) → kept_in (row_of n kept.entry kept.reply) ≡ kept
kept_again n kept =
    ap (λ e. record { entry = e; reply = record { status = kept.reply.status; mt = type_in (type_value kept.reply.mt); text = kept.reply.text } }) (entry_again n kept.entry kept.reply)
    ∙ ap (λ mt. record { entry = kept.entry; reply = record { status = kept.reply.status; mt = mt; text = kept.reply.text } }) (reply_type_again kept.reply.mt)

-- the rows of a register say it
pub register_again : (n : ℕ) (register : List Kept) → map kept_in (rows_from n register) ≡ register
register_again n [] = refl
register_again n (kept ∷ more) = ap (λ k. k ∷ map kept_in (rows_from (n + 1) more)) (kept_again (n + 1) kept) ∙ ap (λ ks. kept ∷ ks) (register_again (n + 1) more)

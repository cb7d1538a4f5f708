-- What is written of an entry reads back as it.
use Rattle.std.proofs.Common.{◌≡◌, ℕ, pos, List, [], ◌++◌, Option, None, Some, option_map, slice_get, IfSome, length, ◌<◌, ◌+◌, ◌^◌, lit<, refl, sym, ap, subst, ◌∙◌, arith}
use Rattle.sqlite.specs.Order.{Row, column}
use Rattle.sqlite.specs.declared.types.Value.TheVariants.{Int, Text as Words}
use Rattle.desk_msg.specs.declared.instruction.Cash.{Cash}
use Rattle.desk_msg.specs.declared.instruction.Instruction.{Instruction}
use Rattle.desk_codes.proofs.CurrencyLemmas.{known_by_letters}
use Rattle.desk_rules.specs.declared.history.entry.Entry.{Entry}
use Rattle.desk_rules.specs.declared.history.entry.Entry.TheVariants.{Participant, Account, Security, Issue, Redeem, PayIn, PayOut, Instruct, Cancel, Run}
use Rattle.desk_rules.specs.declared.answers.reply.Kept.{Kept}
use Rattle.desk_rules.specs.declared.answers.reply.Reply.{Reply}
use Rattle.desk_rules.specs.declared.history.entry.Movement.{Movement}
use Rattle.desk_rules.specs.declared.history.entry.Payment.{Payment}
use Rattle.desk_rules.specs.declared.history.entry.RunRule.{RunRule}
use Rattle.desk_rules.specs.declared.history.entry.RunRule.TheVariants.{OnePass, Passes}
use Rattle.desk_rules.proofs.SameContent.{instruction_same, movement_same, order_same, payment_same}
use Rattle.desk_rules.specs.Spelt.{IsSpelt}
use Rattle.sql_tables.specs.CashColumns.{amount_of, currency_of}
use Rattle.sql_tables.proofs.ColumnLemmas.{count, one_cash, one_kind, one_type, some_letters, words}
use Rattle.sql_entries.specs.Columns.{kind_number, number_of_rule}
use Rattle.sql_entries.specs.Reading.{Says, SaysCash, SaysInstruction, SaysMovement, SaysPayment, SaysReply}
use Rattle.sql_entries.specs.Shown.{HasShortNumbers, row_if, shown_entry, shown_reply}

one_rule : (a b : RunRule) → number_of_rule a ≡ number_of_rule b → a ≡ b
one_rule OnePass OnePass e = refl
one_rule Passes Passes e = refl
one_rule a b e = absurd (omega (arith, e))

cash_back : (rest : Row) (sender : List ℕ) (i : Instruction) (cash : Option Cash) → SaysCash (shown_entry (Instruct sender i) ++ rest) cash → cash ≡ i.cash
cash_back rest sender i None says = none i.cash (words _ _ says)
  where
    none : (cash : Option Cash) → currency_of cash ≡ [] → None ≡ cash
    none None e = refl
    none (Some cash) e = absurd (some_letters cash.ccy e)
cash_back rest sender i (Some cash) says = one_cash (Some cash) i.cash (sym (words _ _ says.currency)) (sym (count _ _ says.amount))

instruction_back : (rest : Row) (sender : List ℕ) (i j : Instruction) → SaysInstruction (shown_entry (Instruct sender i) ++ rest) j → j ≡ i
instruction_back rest sender i j says =
    instruction_same j i
    (one_type j.mt i.mt (sym (count _ _ says.mt)))
    (sym (words _ _ says.reference))
    (sym (words _ _ says.day))
    (sym (words _ _ says.isin))
    (one_kind j.kind i.kind (sym (words _ _ says.unit)))
    (sym (count _ _ says.quantity))
    (sym (words _ _ says.account))
    (sym (words _ _ says.settlement))
    (sym (words _ _ says.counterparty))
    (sym (words _ _ says.place))
    (cash_back rest sender i j.cash says.cash)

movement_back : (rest : Row) (m n : Movement) → SaysMovement (shown_entry (Issue m) ++ rest) n → n ≡ m
movement_back rest m n says = movement_same n m (sym (words _ _ says.reference)) (sym (words _ _ says.account)) (sym (words _ _ says.isin)) (sym (count _ _ says.quantity))

payment_back : (rest : Row) (p q : Payment) → SaysPayment (shown_entry (PayIn p) ++ rest) q → q ≡ p
payment_back rest p q says = payment_same q p (sym (words _ _ says.reference)) (sym (words _ _ says.bic)) (known_by_letters q.ccy p.ccy (sym (words _ _ says.currency))) (sym (count _ _ says.amount))

-- A row that begins with what is shown of an entry says no other entry: its columns spell each of its values in one way.
pub reads_back : (rest : Row) (entry read : Entry) → column (shown_entry entry ++ rest) 2 ≡ Int (pos (kind_number read)) → Says (shown_entry entry ++ rest) read → read ≡ entry
reads_back rest (Participant reference bic) (Participant r b) kind says = let e0 = words _ _ says.0 in let e1 = words _ _ says.1 in cc
reads_back rest (Account reference bic account) (Account r b a) kind says = let e0 = words _ _ says.0 in let e1 = words _ _ says.1 in let e2 = words _ _ says.2 in cc
reads_back rest (Security reference isin unit) (Security r i u) kind says = let e0 = words _ _ says.0 in let e1 = words _ _ says.1 in let e2 = one_kind unit u (words _ _ says.2) in cc
reads_back rest (Issue m) (Issue n) kind says = ap Issue (movement_back rest m n says)
reads_back rest (Redeem m) (Redeem n) kind says = ap Redeem (movement_same n m (sym (words _ _ says.reference)) (sym (words _ _ says.account)) (sym (words _ _ says.isin)) (sym (count _ _ says.quantity)))
reads_back rest (PayIn p) (PayIn q) kind says = ap PayIn (payment_back rest p q says)
reads_back rest (PayOut p) (PayOut q) kind says = ap PayOut (payment_same q p (sym (words _ _ says.reference)) (sym (words _ _ says.bic)) (known_by_letters q.ccy p.ccy (sym (words _ _ says.currency))) (sym (count _ _ says.amount)))
reads_back rest (Instruct sender i) (Instruct s j) kind says = let e0 = words _ _ says.0 in let e1 = instruction_back rest sender i j says.1 in cc
reads_back rest (Cancel sender o) (Cancel s p) kind says =
    let e0 = words _ _ says.0 in
    let e1 = order_same p o (one_type p.mt o.mt (sym (count _ _ says.1))) (sym (words _ _ says.2)) (sym (words _ _ says.3)) in
    cc
reads_back rest (Run reference day rule) (Run r d u) kind says = let e0 = words _ _ says.0 in let e1 = words _ _ says.1 in let e2 = one_rule rule u (count _ _ says.2) in cc
reads_back rest entry read kind says = absurd (let same = count _ _ kind in omega (arith, same))

-- what is read of the row that is shown of an entry, if there is one
pub entry_found : (kept : Option Kept) (rows : List Row) (row : Row) (read : Entry) → rows ≡ row_if (λ k. shown_entry k.entry) kept → Some row ≡ slice_get rows 0 → column row 2 ≡ Int (pos (kind_number read)) → Says row read
    → Some read ≡ option_map (λ k. k.entry) kept
entry_found None rows row read is first kind says = absurd (let e : Some row ≡ None = first ∙ ap (λ (all : List Row). slice_get all 0) is in cc)
entry_found (Some kept) rows row read is first kind says =
    let one : Some row ≡ Some (shown_entry kept.entry) = first ∙ ap (λ (all : List Row). slice_get all 0) is in
    let same : row ≡ shown_entry kept.entry = cc in
    ap Some (reads_back [] kept.entry read (subst (λ (r : Row). column r 2 ≡ Int (pos (kind_number read))) same kind) (subst (λ (r : Row). Says r read) same says))

-- ---- what was written is read

says_cash : (rest : Row) (sender : List ℕ) (i : Instruction) → SaysCash (shown_entry (Instruct sender i) ++ rest) i.cash
says_cash rest sender i = go i.cash refl
  where
    go : (cash : Option Cash) → i.cash ≡ cash → SaysCash (shown_entry (Instruct sender i) ++ rest) cash
    go None is = ap (λ cash. Words (currency_of cash)) is
    go (Some cash) is = record { currency = ap (λ cash. Words (currency_of cash)) is; amount = ap (λ cash. Int (pos (amount_of cash))) is }

-- a row that begins with what is shown of an entry says it
pub says_itself : (rest : Row) (entry : Entry) → Says (shown_entry entry ++ rest) entry
says_itself rest (Participant reference bic) = (refl, refl)
says_itself rest (Account reference bic account) = (refl, refl, refl)
says_itself rest (Security reference isin kind) = (refl, refl, refl)
says_itself rest (Issue movement) = record { reference = refl; account = refl; isin = refl; quantity = refl }
says_itself rest (Redeem movement) = record { reference = refl; account = refl; isin = refl; quantity = refl }
says_itself rest (PayIn payment) = record { reference = refl; bic = refl; currency = refl; amount = refl }
says_itself rest (PayOut payment) = record { reference = refl; bic = refl; currency = refl; amount = refl }
says_itself rest (Instruct sender i) = (
  refl,
  record {
    mt = refl;
    reference = refl;
    day = refl;
    isin = refl;
    unit = refl;
    quantity = refl;
    account = refl;
    settlement = refl;
    counterparty = refl;
    place = refl;
    cash = says_cash rest sender i;
  },
)
says_itself rest (Cancel sender order) = (refl, refl, refl, refl)
says_itself rest (Run reference day rule) = (refl, refl, refl)

-- so what holds of each row that says an entry, holds of the row that is shown
pub entry_reads : (Holds : Type 0) (kept : Option Kept) (rows : List Row) (row : Row) → rows ≡ row_if (λ k. shown_entry k.entry) kept → Some row ≡ slice_get rows 0 → IfSome kept (λ k. IsSpelt k.entry)
    → ((entry : Entry) → 15 < length row → column row 2 ≡ Int (pos (kind_number entry)) → Says row entry → IsSpelt entry → Holds) → Holds
entry_reads Holds None rows row is first spelt all = absurd (let e : Some row ≡ None = first ∙ ap (λ (all : List Row). slice_get all 0) is in cc)
entry_reads Holds (Some kept) rows row is first spelt all =
    let one : Some row ≡ Some (shown_entry kept.entry) = first ∙ ap (λ (all : List Row). slice_get all 0) is in
    let same : row ≡ shown_entry kept.entry = cc in
    let long : 15 < length (shown_entry kept.entry) = lit< tt in
    let back : shown_entry kept.entry ≡ row = sym same in
    all kept.entry (subst (λ (r : Row). 15 < length r) back long) (ap (λ (r : Row). column r 2) same) (subst (λ (r : Row). Says r kept.entry) back (says_itself [] kept.entry)) spelt

pub reply_reads : (Holds : Type 0) (kept : Option Kept) (rows : List Row) (row : Row) → rows ≡ row_if (λ k. shown_reply k.reply) kept → Some row ≡ slice_get rows 0 → IfSome kept (λ k. HasShortNumbers k.reply)
    → ((reply : Reply) → 0 + 2 < length row → SaysReply row 0 reply → reply.status < 2 ^ 16 → IfSome reply.mt (λ n. n < 2 ^ 16) → Holds) → Holds
reply_reads Holds None rows row is first short all = absurd (let e : Some row ≡ None = first ∙ ap (λ (all : List Row). slice_get all 0) is in cc)
reply_reads Holds (Some kept) rows row is first short all =
    let one : Some row ≡ Some (shown_reply kept.reply) = first ∙ ap (λ (all : List Row). slice_get all 0) is in
    let same : row ≡ shown_reply kept.reply = cc in
    let long : 0 + 2 < length (shown_reply kept.reply) = lit< tt in
    let back : shown_reply kept.reply ≡ row = sym same in
    all kept.reply (subst (λ (r : Row). 0 + 2 < length r) back long) (subst (λ (r : Row). SaysReply r 0 kept.reply) back (record { status = refl; mt = refl; text = refl })) short.status short.mt

-- Messages with the same parts are the same.
use Rattle.std.proofs.Common.{◌≡◌, ◌<◌, ◌≤◌, ℕ, true, List, length, ◌∙◌, ap, subst, Option, is_some}
use Rattle.std.proofs.Props.{props}
use Rattle.desk_codes.specs.Number.{written_number}
use Rattle.desk_codes.specs.Currency.{decimals_of}
use Rattle.desk_codes.specs.declared.currency.Ccy.{Ccy}
use Rattle.desk_msg.specs.declared.mt.Mt.{Mt}
use Rattle.desk_msg.specs.declared.instruction.Kind.{Kind}
use Rattle.desk_msg.specs.declared.instruction.Cash.{Cash}
use Rattle.desk_msg.specs.declared.instruction.Instruction.{Instruction}
use Rattle.desk_msg.specs.declared.instruction.CancelOrder.{CancelOrder}
use Rattle.desk_msg.specs.MessageType.{is_instruction, is_against_payment}

-- values that are made of equal parts and of facts are equal, whatever proves the facts
by_facts : {V X : Type 0} (F : V → Type 0) (make : (v : V) → F v → X) → ((v : V) → IsProp (F v)) → (v w : V) → v ≡ w → (f : F v) (g : F w) → make v f ≡ make w g
by_facts F make prop v w e =
    let P : _ → Type 0 = λ u. (f : F v) (g : F u) → make v f ≡ make u g in subst P e (λ f g. ap (make v) (prop v f g))

pub record ShownCash : Type 0 where
  pub ccy : Ccy
  pub amount : ℕ

-- for the type of a record
abbrev as_cash : ShownCash → ShownCash
as_cash v = v

pub record CashFacts (v : ShownCash) : Type 0 where
  pub some : 0 < v.amount
  pub short : length (written_number v.amount (decimals_of v.ccy)) ≤ 15

cash_of : (v : ShownCash) → CashFacts v → Cash
cash_of v f = record { ccy = v.ccy; amount = v.amount; some = f.some; short = f.short }

cash_facts : (v : ShownCash) → IsProp (CashFacts v)
cash_facts v = hlevel props

pub same_cash : (a b : Cash) → a.ccy ≡ b.ccy → a.amount ≡ b.amount → a ≡ b
unfolding cash_of
same_cash a b e f =
    by_facts CashFacts cash_of cash_facts (record { ccy = a.ccy; amount = a.amount }) (record { ccy = b.ccy; amount = b.amount })
    (ap (λ (x : Ccy). as_cash (record { ccy = x; amount = a.amount })) e ∙ ap (λ (x : ℕ). as_cash (record { ccy = b.ccy; amount = x })) f)
    (record { some = a.some; short = a.short }) (record { some = b.some; short = b.short })

pub record ShownOrder : Type 0 where
  pub mt : Mt
  pub reference : List ℕ
  pub previous : List ℕ

abbrev as_order : ShownOrder → ShownOrder
as_order v = v

pub record OrderFacts (v : ShownOrder) : Type 0 where
  pub instructs : is_instruction v.mt ≡ true

order_of : (v : ShownOrder) → OrderFacts v → CancelOrder
order_of v f = record { mt = v.mt; reference = v.reference; previous = v.previous; instructs = f.instructs }

order_facts : (v : ShownOrder) → IsProp (OrderFacts v)
order_facts v = hlevel props

pub same_order : (a b : CancelOrder) → a.mt ≡ b.mt → a.reference ≡ b.reference → a.previous ≡ b.previous → a ≡ b
unfolding order_of
same_order a b e f g =
    by_facts OrderFacts order_of order_facts (record { mt = a.mt; reference = a.reference; previous = a.previous }) (record { mt = b.mt; reference = b.reference; previous = b.previous })
    (ap (λ (x : Mt). as_order (record { mt = x; reference = a.reference; previous = a.previous })) e
    ∙ ap (λ (x : List ℕ). as_order (record { mt = b.mt; reference = x; previous = a.previous })) f
    ∙ ap (λ (x : List ℕ). as_order (record { mt = b.mt; reference = b.reference; previous = x })) g)
    (record { instructs = a.instructs }) (record { instructs = b.instructs })

pub record Shown : Type 0 where
  pub mt : Mt
  pub reference : List ℕ
  pub day : List ℕ
  pub isin : List ℕ
  pub kind : Kind
  pub quantity : ℕ
  pub account : List ℕ
  pub settlement : List ℕ
  pub counterparty : List ℕ
  pub place : List ℕ
  pub cash : Option Cash

abbrev as_shown : Shown → Shown
as_shown v = v

pub record Facts (v : Shown) : Type 0 where
  pub instructs : is_instruction v.mt ≡ true
  pub some : 0 < v.quantity
  pub short : length (written_number v.quantity 0) ≤ 15
  pub paid : is_some v.cash ≡ is_against_payment v.mt

instruction_of : (v : Shown) → Facts v → Instruction
instruction_of v f = record { mt = v.mt; reference = v.reference; day = v.day; isin = v.isin; kind = v.kind; quantity = v.quantity; account = v.account; settlement = v.settlement; counterparty = v.counterparty; place = v.place; cash = v.cash; instructs = f.instructs; some = f.some; short = f.short; paid = f.paid }

facts : (v : Shown) → IsProp (Facts v)
facts v = hlevel props

pub same_instruction : (a b : Instruction) → a.mt ≡ b.mt → a.reference ≡ b.reference → a.day ≡ b.day → a.isin ≡ b.isin → a.kind ≡ b.kind → a.quantity ≡ b.quantity → a.account ≡ b.account → a.settlement ≡ b.settlement → a.counterparty ≡ b.counterparty → a.place ≡ b.place → a.cash ≡ b.cash → a ≡ b
unfolding instruction_of
same_instruction a b e0 e1 e2 e3 e4 e5 e6 e7 e8 e9 e10 =
    by_facts Facts instruction_of facts
    (record { mt = a.mt; reference = a.reference; day = a.day; isin = a.isin; kind = a.kind; quantity = a.quantity; account = a.account; settlement = a.settlement; counterparty = a.counterparty; place = a.place; cash = a.cash })
    (record { mt = b.mt; reference = b.reference; day = b.day; isin = b.isin; kind = b.kind; quantity = b.quantity; account = b.account; settlement = b.settlement; counterparty = b.counterparty; place = b.place; cash = b.cash })
    (ap (λ (x : Mt). as_shown (record { mt = x; reference = a.reference; day = a.day; isin = a.isin; kind = a.kind; quantity = a.quantity; account = a.account; settlement = a.settlement; counterparty = a.counterparty; place = a.place; cash = a.cash })) e0
    ∙ ap (λ (x : List ℕ). as_shown (record { mt = b.mt; reference = x; day = a.day; isin = a.isin; kind = a.kind; quantity = a.quantity; account = a.account; settlement = a.settlement; counterparty = a.counterparty; place = a.place; cash = a.cash })) e1
    ∙ ap (λ (x : List ℕ). as_shown (record { mt = b.mt; reference = b.reference; day = x; isin = a.isin; kind = a.kind; quantity = a.quantity; account = a.account; settlement = a.settlement; counterparty = a.counterparty; place = a.place; cash = a.cash })) e2
    ∙ ap (λ (x : List ℕ). as_shown (record { mt = b.mt; reference = b.reference; day = b.day; isin = x; kind = a.kind; quantity = a.quantity; account = a.account; settlement = a.settlement; counterparty = a.counterparty; place = a.place; cash = a.cash })) e3
    ∙ ap (λ (x : Kind). as_shown (record { mt = b.mt; reference = b.reference; day = b.day; isin = b.isin; kind = x; quantity = a.quantity; account = a.account; settlement = a.settlement; counterparty = a.counterparty; place = a.place; cash = a.cash })) e4
    ∙ ap (λ (x : ℕ). as_shown (record { mt = b.mt; reference = b.reference; day = b.day; isin = b.isin; kind = b.kind; quantity = x; account = a.account; settlement = a.settlement; counterparty = a.counterparty; place = a.place; cash = a.cash })) e5
    ∙ ap (λ (x : List ℕ). as_shown (record { mt = b.mt; reference = b.reference; day = b.day; isin = b.isin; kind = b.kind; quantity = b.quantity; account = x; settlement = a.settlement; counterparty = a.counterparty; place = a.place; cash = a.cash })) e6
    ∙ ap (λ (x : List ℕ). as_shown (record { mt = b.mt; reference = b.reference; day = b.day; isin = b.isin; kind = b.kind; quantity = b.quantity; account = b.account; settlement = x; counterparty = a.counterparty; place = a.place; cash = a.cash })) e7
    ∙ ap (λ (x : List ℕ). as_shown (record { mt = b.mt; reference = b.reference; day = b.day; isin = b.isin; kind = b.kind; quantity = b.quantity; account = b.account; settlement = b.settlement; counterparty = x; place = a.place; cash = a.cash })) e8
    ∙ ap (λ (x : List ℕ). as_shown (record { mt = b.mt; reference = b.reference; day = b.day; isin = b.isin; kind = b.kind; quantity = b.quantity; account = b.account; settlement = b.settlement; counterparty = b.counterparty; place = x; cash = a.cash })) e9
    ∙ ap (λ (x : Option Cash). as_shown (record { mt = b.mt; reference = b.reference; day = b.day; isin = b.isin; kind = b.kind; quantity = b.quantity; account = b.account; settlement = b.settlement; counterparty = b.counterparty; place = b.place; cash = x })) e10)
    (record { instructs = a.instructs; some = a.some; short = a.short; paid = a.paid })
    (record { instructs = b.instructs; some = b.some; short = b.short; paid = b.paid })

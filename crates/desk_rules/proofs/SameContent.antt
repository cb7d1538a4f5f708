-- Values with the same content are one: a condition that a type keeps has one proof.
use Rattle.std.proofs.Common.{◌≡◌, ℕ, ◌<◌, ◌≤◌, true, List, length, Option, ap}
use Rattle.std.specs.Prelude.{is_some}
use Rattle.std.proofs.Props.{props}
use mathlib.Core.HLevel.{Σ_prop_path}
use Rattle.desk_codes.specs.declared.currency.Ccy.{Ccy}
use Rattle.desk_codes.specs.Number.{written_number}
use Rattle.desk_codes.specs.Currency.{decimals_of}
use Rattle.desk_msg.specs.declared.mt.Mt.{Mt}
use Rattle.desk_msg.specs.declared.instruction.Kind.{Kind}
use Rattle.desk_msg.specs.declared.instruction.Cash.{Cash}
use Rattle.desk_msg.specs.declared.instruction.Instruction.{Instruction}
use Rattle.desk_msg.specs.declared.instruction.CancelOrder.{CancelOrder}
use Rattle.desk_msg.specs.MessageType.{is_instruction, is_against_payment}
use Rattle.desk_rules.specs.declared.limits.TheConstants.{MOST_PAID, MOST_QUANTITY}
use Rattle.desk_rules.specs.declared.history.entry.Movement.{Movement}
use Rattle.desk_rules.specs.declared.history.entry.Payment.{Payment}

pub cash_same : (a b : Cash) → a.ccy ≡ b.ccy → a.amount ≡ b.amount → a ≡ b
cash_same a b p q =
    let kept : Ccy × ℕ → Type 0 = λ x. (0 < x.1) × (length (written_number x.1 (decimals_of x.0)) ≤ 15) in
    let whole : ((x : Ccy × ℕ) × kept x) → Cash = λ s. record { ccy = s.0.0; amount = s.0.1; some = s.1.0; short = s.1.1 } in
    let base : ◌≡◌ {A = Ccy × ℕ} (a.ccy, a.amount) (b.ccy, b.amount) = cc in
    let both : ◌≡◌ {A = (x : Ccy × ℕ) × kept x} ((a.ccy, a.amount), (a.some, a.short)) ((b.ccy, b.amount), (b.some, b.short)) = Σ_prop_path (λ x. hlevel props) base in
    ap whole both

abbrev Parts : Type 0
Parts = Mt × List ℕ × List ℕ × List ℕ × Kind × ℕ × List ℕ × List ℕ × List ℕ × List ℕ × Option Cash

abbrev Keeps : Parts → Type 0
Keeps x = (is_instruction x.0 ≡ true) × (0 < x.5) × (length (written_number x.5 0) ≤ 15) × (is_some x.10 ≡ is_against_payment x.0)

abbrev parts_of : Instruction → Parts
parts_of i = (i.mt, i.reference, i.day, i.isin, i.kind, i.quantity, i.account, i.settlement, i.counterparty, i.place, i.cash)

pub instruction_same : (a b : Instruction) → a.mt ≡ b.mt → a.reference ≡ b.reference → a.day ≡ b.day → a.isin ≡ b.isin → a.kind ≡ b.kind → a.quantity ≡ b.quantity
    → a.account ≡ b.account → a.settlement ≡ b.settlement → a.counterparty ≡ b.counterparty → a.place ≡ b.place → a.cash ≡ b.cash → a ≡ b
instruction_same a b e0 e1 e2 e3 e4 e5 e6 e7 e8 e9 e10 =
    let whole : ((x : Parts) × Keeps x) → Instruction = λ s. record {
      mt = s.0.0;
      reference = s.0.1;
      day = s.0.2;
      isin = s.0.3;
      kind = s.0.4;
      quantity = s.0.5;
      account = s.0.6;
      settlement = s.0.7;
      counterparty = s.0.8;
      place = s.0.9;
      cash = s.0.10;
      instructs = s.1.0;
      some = s.1.1;
      short = s.1.2;
      paid = s.1.3;
    } in
    let base : parts_of a ≡ parts_of b = cc in
    let both : ◌≡◌ {A = (x : Parts) × Keeps x} (parts_of a, (a.instructs, a.some, a.short, a.paid)) (parts_of b, (b.instructs, b.some, b.short, b.paid)) = Σ_prop_path (λ x. hlevel props) base in
    ap whole both

pub order_same : (a b : CancelOrder) → a.mt ≡ b.mt → a.reference ≡ b.reference → a.previous ≡ b.previous → a ≡ b
order_same a b e0 e1 e2 =
    let whole : ((x : Mt × List ℕ × List ℕ) × (is_instruction x.0 ≡ true)) → CancelOrder = λ s. record { mt = s.0.0; reference = s.0.1; previous = s.0.2; instructs = s.1 } in
    let base : ◌≡◌ {A = Mt × List ℕ × List ℕ} (a.mt, a.reference, a.previous) (b.mt, b.reference, b.previous) = cc in
    let both : ◌≡◌ {A = (x : Mt × List ℕ × List ℕ) × (is_instruction x.0 ≡ true)} ((a.mt, a.reference, a.previous), a.instructs) ((b.mt, b.reference, b.previous), b.instructs) = Σ_prop_path (λ x. hlevel props) base in
    ap whole both

pub movement_same : (a b : Movement) → a.reference ≡ b.reference → a.account ≡ b.account → a.isin ≡ b.isin → a.quantity ≡ b.quantity → a ≡ b
movement_same a b e0 e1 e2 e3 =
    let kept : List ℕ × List ℕ × List ℕ × ℕ → Type 0 = λ x. (0 < x.3) × (x.3 ≤ MOST_QUANTITY) in
    let whole : ((x : List ℕ × List ℕ × List ℕ × ℕ) × kept x) → Movement = λ s. record { reference = s.0.0; account = s.0.1; isin = s.0.2; quantity = s.0.3; some = s.1.0; within = s.1.1 } in
    let base : ◌≡◌ {A = List ℕ × List ℕ × List ℕ × ℕ} (a.reference, a.account, a.isin, a.quantity) (b.reference, b.account, b.isin, b.quantity) = cc in
    let both : ◌≡◌ {A = (x : List ℕ × List ℕ × List ℕ × ℕ) × kept x} ((a.reference, a.account, a.isin, a.quantity), (a.some, a.within)) ((b.reference, b.account, b.isin, b.quantity), (b.some, b.within)) = Σ_prop_path (λ x. hlevel props) base in
    ap whole both

pub payment_same : (a b : Payment) → a.reference ≡ b.reference → a.bic ≡ b.bic → a.ccy ≡ b.ccy → a.amount ≡ b.amount → a ≡ b
payment_same a b e0 e1 e2 e3 =
    let kept : List ℕ × List ℕ × Ccy × ℕ → Type 0 = λ x. (0 < x.3) × (x.3 ≤ MOST_PAID) in
    let whole : ((x : List ℕ × List ℕ × Ccy × ℕ) × kept x) → Payment = λ s. record { reference = s.0.0; bic = s.0.1; ccy = s.0.2; amount = s.0.3; some = s.1.0; within = s.1.1 } in
    let base : ◌≡◌ {A = List ℕ × List ℕ × Ccy × ℕ} (a.reference, a.bic, a.ccy, a.amount) (b.reference, b.bic, b.ccy, b.amount) = cc in
    let both : ◌≡◌ {A = (x : List ℕ × List ℕ × Ccy × ℕ) × kept x} ((a.reference, a.bic, a.ccy, a.amount), (a.some, a.within)) ((b.reference, b.bic, b.ccy, b.amount), (b.some, b.within)) = Σ_prop_path (λ x. hlevel props) base in
    ap whole both

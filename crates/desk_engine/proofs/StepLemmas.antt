-- One pair of a run: it settles, or stays.
use Rattle.std.proofs.Common.{◌≡◌, inl, inr, ℕ, ◌+◌, ◌-◌, ◌<◌, ◌≤◌, Bool, true, false, List, [], ◌∷◌, ◌++◌, bytes_eq, Option, Some, None, refl, ap, sym, ◌∙◌, arith}
use Rattle.std.specs.Prelude.{nat_le}
use Rattle.std.proofs.lemmas.Bool.{cases_Bool, le-leb, and_parts}
use Rattle.std.proofs.lemmas.Bool.Decides.{nat_tests}
use Rattle.std.proofs.lemmas.Slice.Eq.{bytes_eq-Decides}
use Rattle.desk_msg.specs.MessageType.{is_delivery}
use Rattle.desk_rules.specs.declared.history.entry.Entry.{Entry}
use Rattle.desk_rules.specs.declared.history.pair.Pair.{Pair}
use Rattle.desk_rules.specs.declared.history.pair.Settled.{Settled}
use Rattle.desk_rules.specs.declared.history.pair.Lack.{Lack}
use Rattle.desk_rules.specs.declared.history.pair.Lack.TheVariants.{Securities, Money}
use Rattle.desk_rules.specs.declared.history.entry.Instructed.{Instructed}
use Rattle.desk_rules.specs.History.{instruction_at}
use Rattle.desk_rules.specs.Opposite.{AreOpposite}
use Rattle.desk_codes.specs.declared.currency.Ccy.{Ccy}
use Rattle.desk_msg.specs.declared.instruction.Cash.{Cash}
use Rattle.desk_rules.specs.Balances.{credits, debits, cash_credits, cash_debits, quantity_if, quantity_on, cash_in, same_ccy, amount_of, delivery_of, receipt_of, is_delivered_by}
use Rattle.desk_rules.specs.Covered.{can_deliver, can_pay, can_pay_cash, has_securities, has_cash, is_covered, lack_of}
use Rattle.desk_rules.specs.Content.{CashBalances, Positions}
use Rattle.desk_register.specs.Changes.{cash_at, moved_to, delivered, paid_over, HasCash, LacksCash, delivering_side as deliverer, receiving_side as receiver}
use Rattle.desk_rules.specs.Tables.{AreCashBalances, ArePositions}
use Rattle.desk_rules.proofs.Deciding.{same_ccy-true}
use Rattle.desk_rules.proofs.BalanceLemmas.{credits-push, debits-push, cash_credits-push, cash_debits-push}

same_bytes : (a b : List ℕ) → bytes_eq a b ≡ true → a ≡ b
same_bytes a b e = let d = bytes_eq-Decides a b in d.0 e

-- so much of a security of an account
abbrev share : List ℕ → List ℕ → ℕ → List ℕ → List ℕ → ℕ
share account isin q a i = quantity_if (bytes_eq account a) (quantity_if (bytes_eq isin i) q)

put_position : (pos : Positions) (x isin a i : List ℕ) (q : ℕ) → moved_to pos x isin (pos x isin + q) a i ≡ pos a i + share x isin q a i
put_position pos x isin a i q = elim (cases_Bool (bytes_eq x a)) [
  | inr other ↦ rw other (omega arith)
  | inl on ↦ elim (cases_Bool (bytes_eq isin i)) [
    | inr other ↦ rw (on, other) (omega arith)
    | inl of ↦
        let first : pos x isin ≡ pos a i = ap (λ z. pos z isin) (same_bytes x a on) ∙ ap (λ z. pos a z) (same_bytes isin i of) in
        rw (on, of) (omega arith)
  ]
]

take_position : (pos : Positions) (x isin a i : List ℕ) (q : ℕ) → q ≤ pos x isin → moved_to pos x isin (pos x isin - q) a i + share x isin q a i ≡ pos a i
take_position pos x isin a i q there = elim (cases_Bool (bytes_eq x a)) [
  | inr other ↦ rw other (omega arith)
  | inl on ↦ elim (cases_Bool (bytes_eq isin i)) [
    | inr other ↦ rw (on, other) (omega arith)
    | inl of ↦
        let first : pos x isin ≡ pos a i = ap (λ z. pos z isin) (same_bytes x a on) ∙ ap (λ z. pos a z) (same_bytes isin i of) in
        rw (on, of) (omega arith)
  ]
]

-- so much of a participant's cash in a currency
abbrev amount_share : List ℕ → Option Cash → List ℕ → Ccy → ℕ
amount_share bic asked b c = quantity_if (bytes_eq bic b) (cash_in c asked)

put_cash : (cash : CashBalances) (bic : List ℕ) (ccy : Ccy) (b : List ℕ) (c : Ccy) (n : ℕ) → cash_at cash bic ccy (cash bic ccy + n) b c ≡ cash b c + quantity_if (bytes_eq bic b) (quantity_if (same_ccy ccy c) n)
put_cash cash bic ccy b c n = elim (cases_Bool (bytes_eq bic b)) [
  | inr other ↦ rw other (omega arith)
  | inl of ↦ elim (cases_Bool (same_ccy ccy c)) [
    | inr other ↦ rw (of, other) (omega arith)
    | inl in_it ↦
        let first : cash bic ccy ≡ cash b c = ap (λ z. cash z ccy) (same_bytes bic b of) ∙ ap (λ z. cash b z) (same_ccy-true ccy c in_it) in
        rw (of, in_it) (omega arith)
  ]
]

take_cash : (cash : CashBalances) (bic : List ℕ) (ccy : Ccy) (b : List ℕ) (c : Ccy) (n : ℕ) → n ≤ cash bic ccy → cash_at cash bic ccy (cash bic ccy - n) b c + quantity_if (bytes_eq bic b) (quantity_if (same_ccy ccy c) n) ≡ cash b c
take_cash cash bic ccy b c n there = elim (cases_Bool (bytes_eq bic b)) [
  | inr other ↦ rw other (omega arith)
  | inl of ↦ elim (cases_Bool (same_ccy ccy c)) [
    | inr other ↦ rw (of, other) (omega arith)
    | inl in_it ↦
        let first : cash bic ccy ≡ cash b c = ap (λ z. cash z ccy) (same_bytes bic b of) ∙ ap (λ z. cash b z) (same_ccy-true ccy c in_it) in
        rw (of, in_it) (omega arith)
  ]
]

no_share : (test : Bool) → quantity_if test 0 ≡ 0
no_share true = refl
no_share false = refl

-- what is paid over goes from one participant to the other, or to the same
paid_shares : (cash : CashBalances) (from to : List ℕ) (asked : Option Cash) → HasCash cash from asked → (b : List ℕ) (c : Ccy) → paid_over cash from to asked b c + amount_share from asked b c ≡ cash b c + amount_share to asked b c
paid_shares cash from to None has b c =
    let gone = no_share (bytes_eq from b) in
    let come = no_share (bytes_eq to b) in
    omega arith
paid_shares cash from to (Some asked) has b c =
    let taken : CashBalances = cash_at cash from asked.ccy (cash from asked.ccy - asked.amount) in
    let first = take_cash cash from asked.ccy b c asked.amount has in
    let second = put_cash taken to asked.ccy b c asked.amount in
    omega arith

-- The two sides of a pair.

pub record HasSides (h : List Entry) (q : Pair) (a b : Instructed) : Type 0 where
  pub first : instruction_at h q.earlier ≡ Some a
  pub second : instruction_at h q.later ≡ Some b
  pub opposite : AreOpposite a b

pub delivery_is : (h : List Entry) (q : Pair) (a b : Instructed) → HasSides h q a b → delivery_of h q ≡ Some (deliverer a b)
delivery_is h q a b s = elim (cases_Bool (is_delivery a.instruction.mt)) [
  | inl delivers ↦
      let test : is_delivered_by (instruction_at h q.earlier) ≡ true = ap is_delivered_by s.first ∙ delivers in
      rw (test, delivers) s.first
  | inr other ↦
      let test : is_delivered_by (instruction_at h q.earlier) ≡ false = ap is_delivered_by s.first ∙ other in
      rw (test, other) s.second
]

pub receipt_is : (h : List Entry) (q : Pair) (a b : Instructed) → HasSides h q a b → receipt_of h q ≡ Some (receiver a b)
receipt_is h q a b s = elim (cases_Bool (is_delivery a.instruction.mt)) [
  | inl delivers ↦
      let test : is_delivered_by (instruction_at h q.earlier) ≡ true = ap is_delivered_by s.first ∙ delivers in
      rw (test, delivers) s.second
  | inr other ↦
      let test : is_delivered_by (instruction_at h q.earlier) ≡ false = ap is_delivered_by s.first ∙ other in
      rw (test, other) s.first
]

-- the deliverer's instruction and the receiver's are of the security, the quantity and the cash of the pair
pub record IsSideOf (i b : Instructed) : Type 0 where
  pub isin : i.instruction.isin ≡ b.instruction.isin
  pub quantity : i.instruction.quantity ≡ b.instruction.quantity
  pub cash : i.instruction.cash ≡ b.instruction.cash

pub deliverer_side : (h : List Entry) (q : Pair) (a b : Instructed) → HasSides h q a b → IsSideOf (deliverer a b) b
deliverer_side h q a b s = elim (cases_Bool (is_delivery a.instruction.mt)) [
  | inl delivers ↦ rw delivers (record { isin = s.opposite.isin; quantity = s.opposite.quantity; cash = s.opposite.cash })
  | inr other ↦ rw other (record { isin = refl; quantity = refl; cash = refl })
]

pub receiver_side : (h : List Entry) (q : Pair) (a b : Instructed) → HasSides h q a b → IsSideOf (receiver a b) b
receiver_side h q a b s = elim (cases_Bool (is_delivery a.instruction.mt)) [
  | inr other ↦ rw other (record { isin = s.opposite.isin; quantity = s.opposite.quantity; cash = s.opposite.cash })
  | inl delivers ↦ rw delivers (record { isin = refl; quantity = refl; cash = refl })
]

module _ (h : List Entry) (settled : List Settled) (cash : CashBalances) (all_cash : AreCashBalances h settled cash) where
  can_pay_if : (bic : List ℕ) (asked : Option Cash) → HasCash cash bic asked → can_pay_cash h settled bic asked ≡ true
  can_pay_if bic None has = refl
  can_pay_if bic (Some asked) has =
      let here : cash bic asked.ccy + cash_debits h settled bic asked.ccy ≡ cash_credits h settled bic asked.ccy = all_cash bic asked.ccy in
      le-leb _ _ (omega arith)

  cannot_pay_if : (bic : List ℕ) (asked : Option Cash) → LacksCash cash bic asked → can_pay_cash h settled bic asked ≡ false
  cannot_pay_if bic None lacks = absurd lacks
  cannot_pay_if bic (Some asked) lacks =
      let here : cash bic asked.ccy + cash_debits h settled bic asked.ccy ≡ cash_credits h settled bic asked.ccy = all_cash bic asked.ccy in
      grind (arith, nat_tests)

module _ (h : List Entry) (settled : List Settled) (q : Pair) (a b : Instructed) (s : HasSides h q a b) (pos : Positions) (cash : CashBalances)
    (all : ArePositions h settled pos) (all_cash : AreCashBalances h settled cash) where
  cash_asked : has_cash h settled q ≡ can_pay_cash h settled (receiver a b).sender b.instruction.cash
  cash_asked =
      let side = receiver_side h q a b s in
      ap (can_pay h settled) (receipt_is h q a b s) ∙ ap (can_pay_cash h settled (receiver a b).sender) side.cash

  securities_if : b.instruction.quantity ≤ pos (deliverer a b).instruction.account b.instruction.isin → has_securities h settled q ≡ true
  securities_if there =
      let d = deliverer a b in
      let side = deliverer_side h q a b s in
      let here : pos d.instruction.account b.instruction.isin + debits h settled d.instruction.account b.instruction.isin ≡ credits h settled d.instruction.account b.instruction.isin = all d.instruction.account b.instruction.isin in
      let test : nat_le (debits h settled d.instruction.account b.instruction.isin + b.instruction.quantity) (credits h settled d.instruction.account b.instruction.isin) ≡ true = le-leb _ _ (omega arith) in
      let can : can_deliver h settled (Some d) ≡ true = rw (side.isin, side.quantity) test in
      ap (can_deliver h settled) (delivery_is h q a b s) ∙ can

  lacks_securities : pos (deliverer a b).instruction.account b.instruction.isin < b.instruction.quantity → has_securities h settled q ≡ false
  lacks_securities short =
      let d = deliverer a b in
      let side = deliverer_side h q a b s in
      let here : pos d.instruction.account b.instruction.isin + debits h settled d.instruction.account b.instruction.isin ≡ credits h settled d.instruction.account b.instruction.isin = all d.instruction.account b.instruction.isin in
      let test : nat_le (debits h settled d.instruction.account b.instruction.isin + b.instruction.quantity) (credits h settled d.instruction.account b.instruction.isin) ≡ false = grind (arith, nat_tests) in
      let can : can_deliver h settled (Some d) ≡ false = rw (side.isin, side.quantity) test in
      ap (can_deliver h settled) (delivery_is h q a b s) ∙ can

  pub covered_if : b.instruction.quantity ≤ pos (deliverer a b).instruction.account b.instruction.isin → HasCash cash (receiver a b).sender b.instruction.cash → is_covered h settled q ≡ true
  covered_if there has =
      let money : has_cash h settled q ≡ true = cash_asked ∙ can_pay_if h settled cash all_cash (receiver a b).sender b.instruction.cash has in
      rw (securities_if there, money) refl

  pub uncovered_if : (lack : Lack) → lack_of h settled q ≡ Some lack → is_covered h settled q ≡ false
  uncovered_if lack lacks = elim (cases_Bool (is_covered h settled q)) [
    | inr other ↦ other
    | inl covered ↦
        let both = and_parts (has_securities h settled q) (has_cash h settled q) covered in
        let none : lack_of h settled q ≡ None = rw both.0 (rw both.1 refl) in
        let clash : None ≡ Some lack = sym none ∙ lacks in
        absurd (cc)
  ]

  -- what it lacks: securities, whatever the cash, else money
  pub lack_if : pos (deliverer a b).instruction.account b.instruction.isin < b.instruction.quantity → lack_of h settled q ≡ Some Securities
  lack_if short = rw (lacks_securities short) refl

  pub lack_money_if : b.instruction.quantity ≤ pos (deliverer a b).instruction.account b.instruction.isin → LacksCash cash (receiver a b).sender b.instruction.cash → lack_of h settled q ≡ Some Money
  lack_money_if there lacks =
      let money : has_cash h settled q ≡ false = cash_asked ∙ cannot_pay_if h settled cash all_cash (receiver a b).sender b.instruction.cash lacks in
      rw (securities_if there, money) refl

  -- the positions after it settled
  pub settled_position : (t : Settled) → t.pair ≡ q → b.instruction.quantity ≤ pos (deliverer a b).instruction.account b.instruction.isin → (x i : List ℕ)
      → delivered pos (deliverer a b).instruction.account (receiver a b).instruction.account b.instruction.isin b.instruction.quantity x i + debits h (settled ++ t ∷ []) x i ≡ credits h (settled ++ t ∷ []) x i
  settled_position t is there x i =
      let d = deliverer a b in
      let r = receiver a b in
      let isin = b.instruction.isin in
      let n = b.instruction.quantity in
      let ds = deliverer_side h q a b s in
      let rs = receiver_side h q a b s in
      let gone : quantity_on x i (delivery_of h t.pair) ≡ share d.instruction.account isin n x i =
      ap (λ p. quantity_on x i (delivery_of h p)) is ∙ ap (quantity_on x i) (delivery_is h q a b s) ∙ rw (ds.isin, ds.quantity) refl in
      let come : quantity_on x i (receipt_of h t.pair) ≡ share r.instruction.account isin n x i =
      ap (λ p. quantity_on x i (receipt_of h p)) is ∙ ap (quantity_on x i) (receipt_is h q a b s) ∙ rw (rs.isin, rs.quantity) refl in
      let more = credits-push h settled t x i in
      let less = debits-push h settled t x i in
      let taken : Positions = moved_to pos d.instruction.account isin (pos d.instruction.account isin - n) in
      let first = take_position pos d.instruction.account isin x i n there in
      let second = put_position taken r.instruction.account isin x i n in
      let here : pos x i + debits h settled x i ≡ credits h settled x i = all x i in
      rw (more, less, gone, come, second) (omega arith)

  -- the cash after it settled
  pub settled_cash : (t : Settled) → t.pair ≡ q → HasCash cash (receiver a b).sender b.instruction.cash → (x : List ℕ) (c : Ccy)
      → paid_over cash (receiver a b).sender (deliverer a b).sender b.instruction.cash x c + cash_debits h (settled ++ t ∷ []) x c ≡ cash_credits h (settled ++ t ∷ []) x c
  settled_cash t is has x c =
      let d = deliverer a b in
      let r = receiver a b in
      let ds = deliverer_side h q a b s in
      let rs = receiver_side h q a b s in
      let come : amount_of x c (delivery_of h t.pair) ≡ amount_share d.sender b.instruction.cash x c =
      ap (λ p. amount_of x c (delivery_of h p)) is ∙ ap (amount_of x c) (delivery_is h q a b s) ∙ ap (λ z. amount_share d.sender z x c) ds.cash in
      let gone : amount_of x c (receipt_of h t.pair) ≡ amount_share r.sender b.instruction.cash x c =
      ap (λ p. amount_of x c (receipt_of h p)) is ∙ ap (amount_of x c) (receipt_is h q a b s) ∙ ap (λ z. amount_share r.sender z x c) rs.cash in
      let more = cash_credits-push h settled t x c in
      let less = cash_debits-push h settled t x c in
      let shares = paid_shares cash r.sender d.sender b.instruction.cash has x c in
      let here : cash x c + cash_debits h settled x c ≡ cash_credits h settled x c = all_cash x c in
      omega arith

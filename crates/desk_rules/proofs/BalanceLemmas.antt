-- Balances of a longer history and of more settlements.
use Rattle.std.proofs.Common.{◌≡◌, ℕ, ◌+◌, ◌≤◌, ◌⊎◌, inl, inr, Bool, true, false, List, [], ◌∷◌, ◌++◌, bytes_eq, sum_by, length, Option, Some, None, refl, sym, ◌∙◌, ap, subst, arith, cond}
use Rattle.std.proofs.lemmas.Bool.{leb-true, cases_cond, and_parts}
use Rattle.std.proofs.lemmas.List.Sums.{sum_by-cons, sum_by_push}
use Rattle.std.proofs.lemmas.Slice.Eq.{bytes_eq-Decides}
use Rattle.desk_codes.specs.declared.currency.Ccy.{Ccy}
use Rattle.desk_msg.specs.declared.instruction.Cash.{Cash}
use Rattle.desk_rules.specs.declared.history.entry.Entry.{Entry}
use Rattle.desk_rules.specs.declared.history.pair.Pair.{Pair}
use Rattle.desk_rules.specs.declared.history.pair.Settled.{Settled}
use Rattle.desk_rules.specs.History.{Instructed, instruction_at}
use Rattle.desk_rules.specs.Balances.{same_ccy, is_delivered_by, deliverer_of, receiver_of, delivery_of, receipt_of, quantity_if, movement_on, issued_by, redeemed_by, quantity_on, credits, debits, payment_of, paid_in_by, paid_out_by, cash_in, amount_of, cash_credits, cash_debits}
use Rattle.desk_rules.specs.Covered.{can_deliver, can_pay_cash, can_pay, has_securities, has_cash, is_covered}
use Rattle.desk_rules.specs.Laws.{AreNonNegative}
use Rattle.desk_rules.proofs.Decided.{In}
use Rattle.desk_rules.proofs.HistoryLemmas.{instruction_at-front}
use Rattle.desk_rules.proofs.Deciding.{same_ccy-true}

-- Sums.

pub sum_same : {X : Type 0} (f g : X → ℕ) (xs : List X) → ((x : X) → In xs x → f x ≡ g x) → sum_by f xs ≡ sum_by g xs
sum_same f g [] same = refl
sum_same f g (x ∷ xs) same =
    let here = same x (inl refl) in
    let rest = sum_same f g xs (λ y i. same y (inr i)) in
    sum_by-cons f x xs ∙ (ap (λ n. n + sum_by f xs) here ∙ ap (λ n. g x + n) rest) ∙ sym (sum_by-cons g x xs)

-- The sides of a pair.

-- both numbers are in the history
pub record IsIn (h : List Entry) (p : Pair) : Type 0 where
  pub earlier : p.earlier ≤ length h
  pub later : p.later ≤ length h

pub delivery_of-front : (h g : List Entry) (p : Pair) → IsIn h p → delivery_of (h ++ g) p ≡ delivery_of h p
delivery_of-front h g p is =
    let earlier : instruction_at (h ++ g) p.earlier ≡ instruction_at h p.earlier = instruction_at-front h g p.earlier is.earlier in
    let later : instruction_at (h ++ g) p.later ≡ instruction_at h p.later = instruction_at-front h g p.later is.later in
    let side : deliverer_of (h ++ g) p ≡ deliverer_of h p = ap (λ o. cond (is_delivered_by o) p.earlier p.later) earlier in
    ap (λ n. instruction_at (h ++ g) n) side ∙ elim (cases_cond (is_delivered_by (instruction_at h p.earlier)) p.earlier p.later (deliverer_of h p) refl) [
      | inl e ↦ ap (λ n. instruction_at (h ++ g) n) e ∙ earlier ∙ ap (λ n. instruction_at h n) (sym e)
      | inr e ↦ ap (λ n. instruction_at (h ++ g) n) e ∙ later ∙ ap (λ n. instruction_at h n) (sym e)
    ]

pub receipt_of-front : (h g : List Entry) (p : Pair) → IsIn h p → receipt_of (h ++ g) p ≡ receipt_of h p
receipt_of-front h g p is =
    let earlier : instruction_at (h ++ g) p.earlier ≡ instruction_at h p.earlier = instruction_at-front h g p.earlier is.earlier in
    let later : instruction_at (h ++ g) p.later ≡ instruction_at h p.later = instruction_at-front h g p.later is.later in
    let side : receiver_of (h ++ g) p ≡ receiver_of h p = ap (λ o. cond (is_delivered_by o) p.later p.earlier) earlier in
    ap (λ n. instruction_at (h ++ g) n) side ∙ elim (cases_cond (is_delivered_by (instruction_at h p.earlier)) p.later p.earlier (receiver_of h p) refl) [
      | inl e ↦ ap (λ n. instruction_at (h ++ g) n) e ∙ later ∙ ap (λ n. instruction_at h n) (sym e)
      | inr e ↦ ap (λ n. instruction_at (h ++ g) n) e ∙ earlier ∙ ap (λ n. instruction_at h n) (sym e)
    ]

-- One entry more.

module _ (h : List Entry) (e : Entry) (settled : List Settled) (within : (s : Settled) → In settled s → IsIn h s.pair) where
  pub credits-entry : (account isin : List ℕ) → credits (h ++ e ∷ []) settled account isin ≡ credits h settled account isin + issued_by (movement_on account isin) e
  credits-entry account isin =
      let entries = sum_by_push (issued_by (movement_on account isin)) h e in
      let pairs = sum_same (λ s. quantity_on account isin (receipt_of (h ++ e ∷ []) s.pair)) (λ s. quantity_on account isin (receipt_of h s.pair)) settled (λ s i. ap (λ o. quantity_on account isin o) (receipt_of-front h (e ∷ []) s.pair (within s i))) in
      omega arith

  pub debits-entry : (account isin : List ℕ) → debits (h ++ e ∷ []) settled account isin ≡ debits h settled account isin + redeemed_by (movement_on account isin) e
  debits-entry account isin =
      let entries = sum_by_push (redeemed_by (movement_on account isin)) h e in
      let pairs = sum_same (λ s. quantity_on account isin (delivery_of (h ++ e ∷ []) s.pair)) (λ s. quantity_on account isin (delivery_of h s.pair)) settled (λ s i. ap (λ o. quantity_on account isin o) (delivery_of-front h (e ∷ []) s.pair (within s i))) in
      omega arith

  pub cash_credits-entry : (bic : List ℕ) (ccy : Ccy) → cash_credits (h ++ e ∷ []) settled bic ccy ≡ cash_credits h settled bic ccy + paid_in_by (payment_of bic ccy) e
  cash_credits-entry bic ccy =
      let entries = sum_by_push (paid_in_by (payment_of bic ccy)) h e in
      let pairs = sum_same (λ s. amount_of bic ccy (delivery_of (h ++ e ∷ []) s.pair)) (λ s. amount_of bic ccy (delivery_of h s.pair)) settled (λ s i. ap (λ o. amount_of bic ccy o) (delivery_of-front h (e ∷ []) s.pair (within s i))) in
      omega arith

  pub cash_debits-entry : (bic : List ℕ) (ccy : Ccy) → cash_debits (h ++ e ∷ []) settled bic ccy ≡ cash_debits h settled bic ccy + paid_out_by (payment_of bic ccy) e
  cash_debits-entry bic ccy =
      let entries = sum_by_push (paid_out_by (payment_of bic ccy)) h e in
      let pairs = sum_same (λ s. amount_of bic ccy (receipt_of (h ++ e ∷ []) s.pair)) (λ s. amount_of bic ccy (receipt_of h s.pair)) settled (λ s i. ap (λ o. amount_of bic ccy o) (receipt_of-front h (e ∷ []) s.pair (within s i))) in
      omega arith

-- One settlement more.

module _ (h : List Entry) (settled : List Settled) (s : Settled) where
  pub credits-push : (account isin : List ℕ) → credits h (settled ++ s ∷ []) account isin ≡ credits h settled account isin + quantity_on account isin (receipt_of h s.pair)
  credits-push account isin = let pairs = sum_by_push (λ t. quantity_on account isin (receipt_of h t.pair)) settled s in omega arith

  pub debits-push : (account isin : List ℕ) → debits h (settled ++ s ∷ []) account isin ≡ debits h settled account isin + quantity_on account isin (delivery_of h s.pair)
  debits-push account isin = let pairs = sum_by_push (λ t. quantity_on account isin (delivery_of h t.pair)) settled s in omega arith

  pub cash_credits-push : (bic : List ℕ) (ccy : Ccy) → cash_credits h (settled ++ s ∷ []) bic ccy ≡ cash_credits h settled bic ccy + amount_of bic ccy (delivery_of h s.pair)
  cash_credits-push bic ccy = let pairs = sum_by_push (λ t. amount_of bic ccy (delivery_of h t.pair)) settled s in omega arith

  pub cash_debits-push : (bic : List ℕ) (ccy : Ccy) → cash_debits h (settled ++ s ∷ []) bic ccy ≡ cash_debits h settled bic ccy + amount_of bic ccy (receipt_of h s.pair)
  cash_debits-push bic ccy = let pairs = sum_by_push (λ t. amount_of bic ccy (receipt_of h t.pair)) settled s in omega arith

-- What goes from one key, and fits there, fits at each key.

cases_if : (b : Bool) (n : ℕ) → ((b ≡ true) × (quantity_if b n ≡ n)) ⊎ (quantity_if b n ≡ 0)
cases_if true n = inl (refl, refl)
cases_if false n = inr refl

pub share_fits : {K : Type 0} (same : K → K → Bool) → ((a b : K) → same a b ≡ true → a ≡ b) → (gone come : List ℕ → K → ℕ) (x : List ℕ) (k : K) (n : ℕ)
    → gone x k + n ≤ come x k → ((y : List ℕ) (j : K) → gone y j ≤ come y j) → (y : List ℕ) (j : K) → gone y j + quantity_if (bytes_eq x y) (quantity_if (same k j) n) ≤ come y j
share_fits {K} same apart gone come x k n fits all y j =
    let below : gone y j ≤ come y j = all y j in
    elim (cases_if (bytes_eq x y) (quantity_if (same k j) n)) [
      | inr no_share ↦ omega arith
      | inl outer ↦ elim (cases_if (same k j) n) [
        | inr no_share ↦ (let is : quantity_if (bytes_eq x y) (quantity_if (same k j) n) ≡ quantity_if (same k j) n = outer.1 in omega arith)
        | inl inner ↦
            let decides = bytes_eq-Decides x y in
            let keys : x ≡ y = decides.0 outer.0 in
            let kinds : k ≡ j = apart k j inner.0 in
            let P : List ℕ → Type 0 = λ z. gone z k + n ≤ come z k in
            let Q : K → Type 0 = λ z. gone y z + n ≤ come y z in
            let there : gone y j + n ≤ come y j = subst Q kinds (subst P keys fits) in
            let a : quantity_if (bytes_eq x y) (quantity_if (same k j) n) ≡ quantity_if (same k j) n = outer.1 in
            let b : quantity_if (same k j) n ≡ n = inner.1 in
            omega arith
      ]
    ]

-- A covered pair leaves no balance below 0.

delivery_fits : (h : List Entry) (settled : List Settled) (o : Option Instructed) → can_deliver h settled o ≡ true → ((a i : List ℕ) → debits h settled a i ≤ credits h settled a i)
    → (account isin : List ℕ) → debits h settled account isin + quantity_on account isin o ≤ credits h settled account isin
delivery_fits h settled None can all account isin = absurd (cc)
delivery_fits h settled (Some d) can all account isin =
    share_fits bytes_eq (λ a b e. let t = bytes_eq-Decides a b in t.0 e) (debits h settled) (credits h settled) d.instruction.account d.instruction.isin d.instruction.quantity (leb-true _ _ can) all account isin

cash_fits : (h : List Entry) (settled : List Settled) (sender : List ℕ) (cash : Option Cash) → can_pay_cash h settled sender cash ≡ true → ((b : List ℕ) (c : Ccy) → cash_debits h settled b c ≤ cash_credits h settled b c)
    → (bic : List ℕ) (ccy : Ccy) → cash_debits h settled bic ccy + quantity_if (bytes_eq sender bic) (cash_in ccy cash) ≤ cash_credits h settled bic ccy
cash_fits h settled sender None can all bic ccy = let below = all bic ccy in elim (cases_if (bytes_eq sender bic) 0) [ inl outer ↦ (let e = outer.1 in omega arith) | inr none ↦ omega arith ]
cash_fits h settled sender (Some cash) can all bic ccy =
    share_fits same_ccy same_ccy-true (cash_debits h settled) (cash_credits h settled) sender cash.ccy cash.amount (leb-true _ _ can) all bic ccy

receipt_fits : (h : List Entry) (settled : List Settled) (o : Option Instructed) → can_pay h settled o ≡ true → ((b : List ℕ) (c : Ccy) → cash_debits h settled b c ≤ cash_credits h settled b c)
    → (bic : List ℕ) (ccy : Ccy) → cash_debits h settled bic ccy + amount_of bic ccy o ≤ cash_credits h settled bic ccy
receipt_fits h settled None can all bic ccy = absurd (cc)
receipt_fits h settled (Some r) can all bic ccy = cash_fits h settled r.sender r.instruction.cash can all bic ccy

pub settled_non_negative : (h : List Entry) (settled : List Settled) (s : Settled) → AreNonNegative h settled → is_covered h settled s.pair ≡ true → AreNonNegative h (settled ++ s ∷ [])
settled_non_negative h settled s is covered =
    let both = and_parts (has_securities h settled s.pair) (has_cash h settled s.pair) covered in
    record {
      positions = λ account isin.
          let come = credits-push h settled s account isin in
          let gone = debits-push h settled s account isin in
          let fits = delivery_fits h settled (delivery_of h s.pair) both.0 is.positions account isin in
          omega arith;
      cash = λ bic ccy.
          let come = cash_credits-push h settled s bic ccy in
          let gone = cash_debits-push h settled s bic ccy in
          let fits = receipt_fits h settled (receipt_of h s.pair) both.1 is.cash bic ccy in
          omega arith;
    }
